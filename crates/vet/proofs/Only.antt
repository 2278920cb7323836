-- The promise of vet allows one outcome, since there is one verdict on a list.
use Prim.Native.Nat.{ℕ}
use mathlib.Core.List.{List}
use lib.IntN.{ℤ}
use Rattle.table.specs.Refuse.{Only}
use Rattle.table.specs.Header.{nodes_of}
use Rattle.table.proofs.Refusals.{unless_only}
use Rattle.tree.proofs.Begins.{begins_only}
use Rattle.vetting.proofs.Only.{verdict_only}
use Rattle.vet.specs.Vet.{vet_refusal, VetsOn, VetOf}

pub goes_only : (s : List ℕ) (n : ℕ) (marks : List ℕ) (floor : ℤ) (list : List ℕ) → Only (VetsOn s n marks floor list)
goes_only s n marks floor list = unless_only (unless_only (verdict_only _ list _))

pub vet_only : (s marks : List ℕ) (floor : ℤ) (list : List ℕ) → Only (VetOf s marks floor list)
vet_only s marks floor list = begins_only vet_refusal s (goes_only s (nodes_of s) marks floor list)
