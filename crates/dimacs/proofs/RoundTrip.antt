-- THE WAY BACK: what is read from the two texts that were written of a table, each in its size, with the table's own
-- bound, is the table's bytes. The texts say each row's arc and then its opposite; no two rows of an accepted table
-- join the same two nodes, so the arcs are paired, the first arcs are the rows' own in their order, and the table made
-- of them has the rows' fields; a table of version 1 is its header's and its rows' fields, as bytes.
use Prim.Native.Nat.{ℕ, ◌-◌, ◌≤◌}
use mathlib.Core.Path.{◌≡◌, refl, sym, ap, ◌∙◌}
use mathlib.Core.Logic.{inl, inr}
use mathlib.Core.List.{List, [], ◌∷◌, ◌++◌, append_assoc}
use native.Mathlib.Omega.{arith}
use lib.ListN.{length, take, drop}
use lib.Seq.{take_at}
use Rattle.table.specs.Header.{version_of, nodes_of, bound_of}
use Rattle.table.proofs.Refusals.{past, settled}
use Rattle.table.proofs.Accepted.{Headed, accepted, tested_past}
use Rattle.net.specs.Net.{first_end, second_end}
use Rattle.net.specs.work.Net.{Net}
use Rattle.tree.specs.Accept.{Begins, Accepts, acceptance, Acceptance}
use Rattle.tree.proofs.Begins.{begins_past, begins_map, begins_rest}
use Rattle.numbers.specs.Bytes.{EachByte}
use Rattle.roads.specs.Text.{Arc}
use Rattle.arcs.specs.Arcs.{arcs_of}
use Rattle.arcs.specs.Made.{TableOf}
use Rattle.arcs.proofs.Back.{NoRepeat, SameNodes, BothArcs, both_arcs, both_paired, both_same, both_table}
use Rattle.written.specs.Written.{opposite, arcs_written, length_arc, weight_arc}
use Rattle.written.proofs.Theorems.{said_of, written_read}
use Rattle.dimacs.specs.Read.{ReadAnswer, read_refusal, GivesTable, Trades, ReadOf}
use Rattle.dimacs.specs.Write.{Wrote, write_refusal, GivesTexts, WriteOf, both_texts}
use Rattle.std.specs.Prelude.{Ok, Err}
use Rattle.dimacs.proofs.Anew.{made_anew}
use Rattle.dimacs.proofs.Apart.{rows_apart}

-- the two arcs of each row
arcs_written_lem : (row : ℕ → Arc) (m : ℕ) → BothArcs row m (arcs_of (arcs_written row m))
unfolding arcs_written
arcs_written_lem row =
    both_arcs row (arcs_written row) refl
    (λ m. sym (append_assoc (arcs_written row m) (row m ∷ []) (opposite (row m) ∷ [])))

module _ (s : List ℕ) where
  -- of an accepted table no two rows join the same nodes
  module _ (net : Net s (nodes_of s)) where
    no_repeat : NoRepeat (λ r. (length_arc s r).from) (λ r. (length_arc s r).to) (nodes_of s - 1)
    unfolding first_end second_end
    no_repeat =
        let apart = rows_apart (first_end s) (second_end s) (nodes_of s - 1) net.forest in
        record {
          apart = λ r h e. net.apart r h (omega (arith, e));
          once = λ r q h k a b. apart r q h k (inl (omega (arith, a), omega (arith, b)));
          back = λ r q h k a b. apart r q h k (inr (omega (arith, a), omega (arith, b)));
        }

    turned : NoRepeat (λ r. (weight_arc s r).from) (λ r. (weight_arc s r).to) (nodes_of s - 1)
    turned = no_repeat

    -- so the arcs of both texts are paired, and name the same branches
    long : BothArcs (length_arc s) (nodes_of s - 1) (arcs_of (arcs_written (length_arc s) (nodes_of s - 1)))
    long = arcs_written_lem (length_arc s) (nodes_of s - 1)

    heavy : BothArcs (weight_arc s) (nodes_of s - 1) (arcs_of (arcs_written (weight_arc s) (nodes_of s - 1)))
    heavy = arcs_written_lem (weight_arc s) (nodes_of s - 1)

    same_nodes : SameNodes (length_arc s) (weight_arc s) (nodes_of s - 1)
    same_nodes = record { from = λ _ _. refl; to = λ _ _. refl }

    -- and the table made of them is the table
    table_back : EachByte s → version_of s ≡ 1 → Headed s → {t : List ℕ}
        → TableOf (said_of (nodes_of s) (length_arc s) (nodes_of s - 1))
        (said_of (nodes_of s) (weight_arc s) (nodes_of s - 1))
        (bound_of s) t → t ≡ s
    table_back all one h t =
        both_table no_repeat same_nodes long heavy t
        ∙ sym
        (made_anew s all (nodes_of s - 1) (omega (arith, h.some, h.size)) h.letters one h.reserved)

    trades_back : EachByte s → version_of s ≡ 1 → Headed s → Accepts s (acceptance (nodes_of s) (bound_of s))
        → {old : List ℕ} {o : ReadAnswer × List ℕ} → length s ≤ length old
        → Trades (said_of (nodes_of s) (length_arc s) (nodes_of s - 1))
        (said_of (nodes_of s) (weight_arc s) (nodes_of s - 1))
        (bound_of s) old o → GivesTable old s o
    trades_back all one h accepts {old} {o} room p =
        let q = settled (both_paired no_repeat long, both_paired turned heavy) p in
        let m = settled (both_same same_nodes long heavy) q in
        let e = table_back all one h m.made in
        begins_rest (read_refusal old) s accepts (settled room (rw e at m.outcome))

-- an answer with texts as acceptance's
accepting : ℕ → ℕ → Wrote → Acceptance
accepting n b (Ok o, l, w) = acceptance n b
accepting n b (Err why, l, w) = Err why

sizes : Wrote → ℕ × ℕ
sizes (Ok o, l, w) = (o.lengths, o.weights)
sizes (Err why, l, w) = (0, 0)

is_text : Wrote → ℕ
is_text (Ok o, l, w) = 1
is_text (Err why, l, w) = 0

module _ (s lengths weights long heavy : List ℕ) {k j : ℕ}
    (p : WriteOf s lengths weights (both_texts k j, long, heavy)) where
  plain : (x r g : ℕ) → write_refusal lengths weights x r g ≡ (both_texts k j, long, heavy) → ⊥
  unfolding is_text
  plain x r g e = omega (arith, ap is_text e)

  version : (version_of s ≡ 1) × Begins Wrote (write_refusal lengths weights) s
      (GivesTexts s (nodes_of s) lengths weights)
      (both_texts k j, long, heavy)
  version = past (plain 3 0 0) (past (plain 2 0 0) (past (plain 1 0 0) p).1).1

  accepts : Accepts s (acceptance (nodes_of s) (bound_of s))
  unfolding accepting
  accepts =
      begins_map (accepting (nodes_of s) (bound_of s)) (write_refusal lengths weights) s (λ _ _. refl) version.1

  headed : Headed s
  headed =
      (accepted s (nodes_of s) (bound_of s)
      (tested_past (λ x r. write_refusal lengths weights x r 0) s (λ x r _ _. plain x r 0) version.1).0).headed

  given : Net s (nodes_of s) × GivesTexts s (nodes_of s) lengths weights (both_texts k j, long, heavy)
  given = begins_past (write_refusal lengths weights) s plain version.1

  -- the two texts stand in front
  stand : (take k long ≡ given.1.long) × (take j heavy ≡ given.1.heavy)
  unfolding sizes
  stand =
      let g = given.1 in
      let e = (past (plain 29 0 0) g.outcome).1 in
      let a : k ≡ length g.long = ap (λ (o : Wrote). (sizes o).0) e in
      let b : j ≡ length g.heavy = ap (λ (o : Wrote). (sizes o).1) e in (
        ap (take k) (ap (λ (o : Wrote). o.1) e) ∙ take_at g.long (drop (length g.long) lengths) k (sym a),
        ap (take j) (ap (λ (o : Wrote). o.2) e) ∙ take_at g.heavy (drop (length g.heavy) weights) j (sym b),
      )

  -- WHAT WAS WRITTEN, READ BACK
  pub round_trip : EachByte s → (old : List ℕ) → length s ≤ length old → (o : ReadAnswer × List ℕ)
      → ReadOf (take k long) (take j heavy) (bound_of s) old o → o ≡ (Ok (length s), s ++ drop (length s) old)
  round_trip all old room o q =
      let g = given.1 in
      trades_back s given.0 all version.0 headed accepts room
      (written_read g.long_is g.heavy_is (rw (stand.0, stand.1) at q))
