-- Reading, in the document's words: 27 exactly if one of two texts that agree is faulty; 28, of two that are not,
-- exactly if they name different branches; and what a table that is given comes of. None of 1 to 11 on the table made
-- is 27 or 28, so that a refusal's number tells where it comes from.
use Prim.Native.Nat.{ℕ, ◌≤◌, ◌<◌}
use mathlib.Core.Path.{◌≡◌, refl, ap}
use mathlib.Core.Logic.{◌⊎◌, inl, inr}
use mathlib.Core.List.{List, ◌++◌}
use native.Mathlib.Omega.{arith}
use lib.ListN.{length, drop}
use Rattle.table.specs.Refuse.{refused, passed}
use Rattle.table.proofs.Refusals.{settled, by_unless}
use Rattle.tree.specs.Accept.{Begins}
use Rattle.tree.proofs.Begins.{begins_other, by_beginning}
use Rattle.roads.specs.Text.{Said, Lengths, Weights}
use Rattle.roads.specs.Both.{Agree, unread, read}
use Rattle.roads.proofs.Only.{says_only}
use Rattle.arcs.specs.Arcs.{arcs_of, Faulty, Paired, SameBranches, Differ}
use Rattle.arcs.specs.Made.{TableOf}
use Rattle.arcs.proofs.Search.{paired_or, faulty_not, same_or, differ_not}
use Rattle.dimacs.specs.Read.{ReadAnswer, read_refusal, GivesTable, MakesTable, Trades, ReadOf}
use Rattle.std.specs.Prelude.{Ok, Err}
use Rattle.dimacs.proofs.Only.{trades_only}

-- an outcome's number, 0 where a table is given
abbrev number_of : ReadAnswer × List ℕ → ℕ
number_of (Ok size, new) = 0
number_of (Err why, new) = why.number

module _ (old : List ℕ) where
  -- none of 1 to 11, 22 and 23 is 25 or more
  made_otherwise : (k : ℕ) → 25 ≤ k → (t : List ℕ)
      → Begins (ReadAnswer × List ℕ) (read_refusal old) t (GivesTable old t) (read_refusal old k 0 0) → ⊥
  made_otherwise k h t p =
      let e = begins_other (read_refusal old) t number_of (λ j r g. refl) (omega (arith, h)) (inr (omega (arith, h))) p
      in
      omega (arith, h, ap number_of e)

  -- the table made gives none but 29 of these
  table_otherwise : (a b : Said) (bound k : ℕ) → 25 ≤ k → k < 29 → (o : ReadAnswer × List ℕ)
      → MakesTable a b bound old o → o ≡ read_refusal old k 0 0 → ⊥
  table_otherwise a b bound k h l o m =
      by_unless (λ x. x ≡ read_refusal old k 0 0 → ⊥) (λ e. omega (arith, l, ap number_of e))
      (λ _ x p e. made_otherwise k h m.table (rw e at p)) m.outcome

-- two texts that say a and b, which agree, go on to 27
said_trades : {lengths weights : List ℕ} {bound : ℕ} {old : List ℕ} {o : ReadAnswer × List ℕ} {a b : Said}
    → Lengths lengths a → Weights weights b → Agree a b → ReadOf lengths weights bound old o → Trades a b bound old o
said_trades {a = a} {b} f g agree (unread n) = absurd (n a b f g)
said_trades f g agree (read x y u) = settled agree (rw (says_only x f, says_only y g) at u)

module _ (lengths weights : List ℕ) (bound : ℕ) (old : List ℕ) (o : ReadAnswer × List ℕ)
    (p : ReadOf lengths weights bound old o) where
  module _ {a b : Said} (f : Lengths lengths a) (g : Weights weights b) (agree : Agree a b) where
    trades : Trades a b bound old o
    trades = said_trades f g agree p

    -- 27 EXACTLY
    pub twenty_seven_exactly : (o ≡ read_refusal old 27 0 0 → Faulty (arcs_of a.arcs) ⊎ Faulty (arcs_of b.arcs))
        × (Faulty (arcs_of a.arcs) ⊎ Faulty (arcs_of b.arcs) → o ≡ read_refusal old 27 0 0)
    twenty_seven_exactly = (λ e. to (paired_or (arcs_of a.arcs)) (paired_or (arcs_of b.arcs)) e, fro)
      where
        to : Paired (arcs_of a.arcs) ⊎ Faulty (arcs_of a.arcs)
            → Paired (arcs_of b.arcs) ⊎ Faulty (arcs_of b.arcs) → o ≡ read_refusal old 27 0 0
            → Faulty (arcs_of a.arcs) ⊎ Faulty (arcs_of b.arcs)
        to (inr x) y e = inl x
        to (inl x) (inr y) e = inr y
        to (inl x) (inl y) e = absurd
            (by_unless (λ z. z ≡ read_refusal old 27 0 0 → ⊥) (λ d. omega (arith, ap number_of d))
            (λ _ z m. table_otherwise old a b bound 27 (omega arith) (omega arith) z m) (settled (x, y) trades) e)

        fro : Faulty (arcs_of a.arcs) ⊎ Faulty (arcs_of b.arcs) → o ≡ read_refusal old 27 0 0
        fro x = trades_only a b bound old o (read_refusal old 27 0 0) trades (refused (not x))
          where
            not : Faulty (arcs_of a.arcs) ⊎ Faulty (arcs_of b.arcs)
                → Paired (arcs_of a.arcs) × Paired (arcs_of b.arcs) → ⊥
            not (inl x) y = faulty_not (arcs_of a.arcs) x y.0
            not (inr x) y = faulty_not (arcs_of b.arcs) x y.1

    -- 28 EXACTLY, of two texts that are not faulty
    pub twenty_eight_exactly : Paired (arcs_of a.arcs) → Paired (arcs_of b.arcs)
        → (o ≡ read_refusal old 28 0 0 → Differ (arcs_of a.arcs) (arcs_of b.arcs))
        × (Differ (arcs_of a.arcs) (arcs_of b.arcs) → o ≡ read_refusal old 28 0 0)
    twenty_eight_exactly x y = (λ e. to (same_or (arcs_of a.arcs) (arcs_of b.arcs)) e, fro)
      where
        to : SameBranches (arcs_of a.arcs) (arcs_of b.arcs) ⊎ Differ (arcs_of a.arcs) (arcs_of b.arcs)
            → o ≡ read_refusal old 28 0 0 → Differ (arcs_of a.arcs) (arcs_of b.arcs)
        to (inr d) e = d
        to (inl s) e = absurd
            (table_otherwise old a b bound 28 (omega arith) (omega arith) o (settled s (settled (x, y) trades)) e)

        fro : Differ (arcs_of a.arcs) (arcs_of b.arcs) → o ≡ read_refusal old 28 0 0
        fro d =
            trades_only a b bound old o (read_refusal old 28 0 0) trades
            (passed (x, y) (refused (differ_not (arcs_of a.arcs) (arcs_of b.arcs) d)))

-- what a table that is given comes of
pub record ReadFrom (lengths weights : List ℕ) (bound : ℕ) (t : List ℕ) : Type 0 where
  pub long : Said
  pub heavy : Said
  pub lengths_say : Lengths lengths long
  pub weights_say : Weights weights heavy
  pub agree : Agree long heavy
  pub long_paired : Paired (arcs_of long.arcs)
  pub heavy_paired : Paired (arcs_of heavy.arcs)
  pub same : SameBranches (arcs_of long.arcs) (arcs_of heavy.arcs)
  pub made : TableOf long heavy bound t

-- an answer with a table: it stands in front, and comes of the two texts
pub record TableRead (lengths weights : List ℕ) (bound : ℕ) (old : List ℕ) (size : ℕ) (new : List ℕ) : Type 0 where
  pub table : List ℕ
  pub from : ReadFrom lengths weights bound table
  pub sized : size ≡ length table
  pub bytes : new ≡ table ++ drop size old

abbrev Comes : List ℕ → List ℕ → ℕ → List ℕ → ReadAnswer × List ℕ → Type 0
Comes lengths weights bound old (Ok size, new) = TableRead lengths weights bound old size new
Comes lengths weights bound old (Err why, new) = Unit {0}

comes : {lengths weights : List ℕ} {bound : ℕ} {old : List ℕ} {o : ReadAnswer × List ℕ}
    → ReadOf lengths weights bound old o → Comes lengths weights bound old o
comes (unread n) = tt
comes {lengths} {weights} {bound} {old} (read {a} {b} f g u) =
    by_unless C tt
    (λ agree x t. by_unless C tt
    (λ paired y v. by_unless C tt (λ same z m. given agree paired same m) v)
    t)
    u
  where
    C : ReadAnswer × List ℕ → Type 0
    C = Comes lengths weights bound old

    given : Agree a b → Paired (arcs_of a.arcs) × Paired (arcs_of b.arcs)
        → SameBranches (arcs_of a.arcs) (arcs_of b.arcs) → {z : ReadAnswer × List ℕ} → MakesTable a b bound old z
        → C z
    given agree paired same m =
        by_unless C tt
        (λ room x q. by_beginning C (read_refusal old) m.table (λ _ _ _ _. tt)
        (λ y e. rw e (record {
          table = m.table;
          from = record {
            long = a;
            heavy = b;
            lengths_say = f;
            weights_say = g;
            agree = agree;
            long_paired = paired.0;
            heavy_paired = paired.1;
            same = same;
            made = m.made;
          };
          sized = refl;
          bytes = refl;
        })) q)
        m.outcome

-- A TABLE THAT IS GIVEN IS THAT OF THE TWO TEXTS
pub table_read : {lengths weights : List ℕ} {bound : ℕ} {old : List ℕ} {size : ℕ} {new : List ℕ}
    → ReadOf lengths weights bound old (Ok size, new) → TableRead lengths weights bound old size new
table_read p = comes p
