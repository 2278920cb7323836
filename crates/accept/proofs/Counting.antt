-- The count of filler rows: none where no row was looked at, or where the version is 1; one row more, which is filler
-- or not; and from the rows of an accepted table to the answer.
use Prim.Native.Nat.{ℕ, ◌+◌, ◌-◌, ◌*◌, ◌≤◌}
use mathlib.Core.Path.{◌≡◌}
use mathlib.Core.Logic.{◌≢◌}
use mathlib.Core.List.{List}
use native.Mathlib.Omega.{arith}
use native.Mathlib.Numerals.{add-one}
use lib.ListN.{length}
use Rattle.table.specs.Header.{version_of}
use Rattle.table.specs.Row.{kind_at}
use Rattle.net.specs.Count.{Count}
use Rattle.net.proofs.Counts.{count_none, count_next, count_over}
use Rattle.tree.specs.Accept.{Accepts, acceptance}
use Rattle.tree.proofs.Begins.{admitted, accepted_headed}
use Rattle.writer.specs.WriteRow.{Filler}
use Rattle.accept.specs.Accept.{FillerRow, FillerBelow, GivesNet, accept_answer}
use Rattle.std.specs.Prelude.{Ok}

pub none_looked_at : (s : List ℕ) → Count (FillerBelow s 0) 0
none_looked_at s = count_none (λ r h. omega (arith, h.0))

pub none_of_version_1 : (s : List ℕ) (m : ℕ) → version_of s ≢ 2 → Count (FillerBelow s m) 0
none_of_version_1 s m v = count_none (λ r h. v h.1.0)

module _ (s : List ℕ) {i k : ℕ} (h : Count (FillerBelow s i) k) where
  pub one_more : version_of s ≡ 2 → Filler (kind_at s i) → Count (FillerBelow s (i + 1)) (k + 1)
  one_more v f = rw (add-one i, add-one k) (count_next (FillerRow s) i (v, f) h)

  pub no_more : (Filler (kind_at s i) → ⊥) → Count (FillerBelow s (i + 1)) k
  no_more n = rw (add-one i) (count_over (FillerRow s) i (λ f. n f.1) h)

-- an accepted table
module _ (s : List ℕ) {n b : ℕ} (p : Accepts s (acceptance n b)) where
  pub rows_there : (1 ≤ n) × (12 * n ≤ length s)
  rows_there = let h = accepted_headed s p in let a = admitted s n b p in
      (omega (arith, h.some, a.nodes), omega (arith, h.size, a.nodes))

  pub net_given : {k : ℕ} → Count (FillerBelow s (n - 1)) k → GivesNet s (accept_answer n b k)
  net_given c = let a = admitted s n b p in (a.nodes, a.bound, rw a.nodes at c)
