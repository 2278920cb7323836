-- Each promise of this crate allows one outcome: along the list of refusals, and a change leaves one list of marks and
-- one count.
use mathlib.Core.List.{List}
use Prim.Native.Nat.{ℕ}
use Rattle.table.specs.Refuse.{Only}
use Rattle.table.proofs.Refusals.{unless_only}
use Rattle.tree.proofs.Begins.{begins_only}
use Rattle.changes.specs.Change.{change_refusal, Settles, Commits, Aborts}
use Rattle.changes.specs.Claim.{Claims}
use Rattle.changes.proofs.Changed.{done_only}

settles_only : (m : ℕ) (s before : List ℕ) (run : ℕ) → Only (Settles m s before run)
settles_only m s before run = begins_only (change_refusal before) s (unless_only (unless_only (done_only _ m before)))

pub commit_only : (s before : List ℕ) (run : ℕ) → Only (Commits s before run)
commit_only s before run = settles_only _ s before run

pub abort_only : (s before : List ℕ) (run : ℕ) → Only (Aborts s before run)
abort_only s before run = settles_only _ s before run

pub claim_only : (s before : List ℕ) (run a b : ℕ) → Only (Claims s before run a b)
claim_only s before run a b =
    begins_only (change_refusal before) s
    (unless_only (unless_only (unless_only (unless_only (unless_only (done_only _ run before))))))
