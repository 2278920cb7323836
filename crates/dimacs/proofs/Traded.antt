-- What `trade` has done is what reading promises: 27 and 28 as the arcs were matched; 29, by the size that the table
-- made has; 4 or 6 for a table too large; and the table itself, which stands in front of our own memory, header and
-- then rows.
use Prim.Native.Nat.{ℕ, ◌+◌, ◌*◌, ◌≤◌, ◌<◌}
use mathlib.Core.Path.{◌≡◌, sym, ap, ◌∙◌}
use mathlib.Core.List.{List}
use native.Mathlib.Omega.{arith}
use lib.ListN.{length, take}
use lib.Seq.{sets, length-sets, length-take-le}
use Rattle.std.proofs.Common.{Ok, Err}
use Rattle.tree.specs.Accept.{Begins}
use Rattle.roads.specs.work.Whole.{BothSay}
use Rattle.roads.proofs.Agreeing.{agreed_on, both_nodes, both_arcs}
use Rattle.arcs.specs.Arcs.{arcs_of}
use Rattle.arcs.specs.Made.{TableOf, header_bytes, rows_bytes}
use Rattle.arcs.specs.work.Chunk.{ArcsFrom}
use Rattle.arcs.specs.work.Look.{Verdict}
use Rattle.arcs.specs.work.Lay.{RowsLaid, RowsMade}
use Rattle.arcs.proofs.RowBytes.{rows_size}
use Rattle.arcs.proofs.Making.{laid_table}
use Rattle.arcs.proofs.Theorems.{rows_half, table_exists, table_size}
use Rattle.dimacs.specs.Read.{ReadAnswer, read_refusal, GivesTable, ReadOf}
use Rattle.dimacs.proofs.Many.{many_refused}
use Rattle.dimacs.proofs.Trading.{Alike, alike, unlike, goes_on, no_room, has_room}

-- the arcs that the two texts have after their p lines
module _ {s w : List ℕ} {n k i j : ℕ} (q : BothSay s w n k i j) where
  pub lengths_from : ArcsFrom 4294967295 0 n s i k q.lengths.arcs
  lengths_from = record { says = q.length_lines; count = q.arcs }

  pub weights_from : ArcsFrom 2147483647 2147483648 n w j k q.weights.arcs
  weights_from = record { says = q.weight_lines; count = both_arcs q }

-- our own memory, with the header in front
pub record HeaderIn (n bound : ℕ) (t : List ℕ) : Type 0 where
  pub before : List ℕ
  pub long : length before ≡ 49152
  pub is : t ≡ sets before 0 (header_bytes n bound)

pub header_in : {n bound : ℕ} {t : List ℕ} (z : List ℕ) → length z ≡ 49152 → t ≡ sets z 0 (header_bytes n bound)
    → HeaderIn n bound t
header_in z l e = record { before = z; long = l; is = e }

pub header_long : {n bound : ℕ} {t : List ℕ} → HeaderIn n bound t → length t ≡ 49152
header_long {n} {bound} h = ap length h.is ∙ length-sets h.before 0 (header_bytes n bound) ∙ h.long

-- t, and then with the rows, u
module _ {s w : List ℕ} {n k i j : ℕ} (q : BothSay s w n k i j) (bound : ℕ) (old : List ℕ) {t u : List ℕ} where
  pub arcs_refused : {d : ℕ} → RowsMade (arcs_of q.lengths.arcs) (arcs_of q.weights.arcs) t u (Err d)
      → ReadOf s w bound old (read_refusal old d 0 0)
  arcs_refused made = agreed_on q (unlike q.lengths q.weights bound old made (λ r. differ r.0))
    where
      differ : {d : ℕ} → ◌≡◌ {A = Verdict} (Err d) (Ok tt) → ⊥
      differ e = cc

  module _ (made : RowsMade (arcs_of q.lengths.arcs) (arcs_of q.weights.arcs) t u (Ok tt)) where
    matched : Alike q.lengths q.weights
        ((◌≡◌ {A = Verdict} (Ok tt) (Ok tt)) × ((arcs_of q.lengths.arcs).count ≤ 8190
        → RowsLaid (arcs_of q.lengths.arcs) (arcs_of q.weights.arcs) (arcs_of q.lengths.arcs).count t u))
    matched = alike q.lengths q.weights made

    -- some table, of the size known
    there : (x : List ℕ) × TableOf q.lengths q.weights bound x
    there = table_exists matched.same

    size : {x : List ℕ} → TableOf q.lengths q.weights bound x → length x ≡ 12 + 6 * k
    size x = omega (arith, q.arcs, table_size matched.lengths x)

    pub room_refused : length old < 12 + 6 * k → ReadOf s w bound old (read_refusal old 29 0 0)
    room_refused h =
        agreed_on q
        (goes_on q.lengths q.weights bound old matched
        (no_room q.lengths q.weights bound old there.0 there.1 (omega (arith, h, size there.1))))

    fits : {o : ReadAnswer × List ℕ} {x : List ℕ} → 12 + 6 * k ≤ length old
        → TableOf q.lengths q.weights bound x
        → Begins (ReadAnswer × List ℕ) (read_refusal old) x (GivesTable old x) o → ReadOf s w bound old o
    fits {x = x} h y p =
        agreed_on q
        (goes_on q.lengths q.weights bound old matched
        (has_room q.lengths q.weights bound old x y (omega (arith, h, size y)) p))

    pub many_tested : 12 + 6 * k ≤ length old → 8190 < k → (x : ℕ) → ((1 ≤ n) × (n ≤ 4096) → x ≡ 6)
        → (((1 ≤ n) × (n ≤ 4096) → ⊥) → x ≡ 4) → ReadOf s w bound old (read_refusal old x 0 0)
    unfolding arcs_of
    many_tested h many x six four =
        let y = there.1 in
        let e = q.nodes in
        let l : 49140 < length (rows_bytes y.rows) = omega (
          arith,
          rows_size y.rows,
          rows_half y.order y.each matched.lengths,
          q.arcs,
        ) in
        fits h y
        (rw y.is
        (many_refused (read_refusal old) q.lengths.nodes bound (rows_bytes y.rows) x
        (omega (arith, e, both_nodes q)) l (rw e at six) (rw e at four)))

    module _ (few : k ≤ 8190) where
      laid : RowsLaid (arcs_of q.lengths.arcs) (arcs_of q.weights.arcs) (arcs_of q.lengths.arcs).count t u
      unfolding arcs_of
      laid = matched.rest.1 (omega (arith, q.arcs))

      pub table_long : HeaderIn n bound t → length u ≡ 49152
      table_long h = ap length laid.is ∙ length-sets t 12 (rows_bytes laid.rows) ∙ header_long h

      pub part_long : HeaderIn n bound t → 12 + 6 * k ≡ length (take (12 + 6 * k) u)
      part_long h = sym (length-take-le (12 + 6 * k) u (omega (arith, table_long h)))

      -- what stands in front is the table
      pub table_tested : {o : ReadAnswer × List ℕ} → HeaderIn n bound t → 12 + 6 * k ≤ length old
          → Begins (ReadAnswer × List ℕ) (read_refusal old) (take (12 + 6 * k) u) (GivesTable old (take (12 + 6 * k) u))
          o → ReadOf s w bound old o
      table_tested h room p =
          let e : t ≡ sets h.before 0 (header_bytes q.lengths.nodes bound) = h.is
          ∙ ap (λ (x : ℕ). sets h.before 0 (header_bytes x bound)) q.nodes in
          let x = laid_table {a = q.lengths} {b = q.weights} h.before matched.lengths
          (omega (arith, h.long, few, q.arcs)) e laid in
          fits room (rw (← q.arcs) at x) p
