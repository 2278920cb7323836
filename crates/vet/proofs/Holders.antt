-- HOLDERS NEVER SHOW: two sets of marks of one number, free at the same places, give equal outcomes of vet, whoever the
-- holders are.
use Rattle.vetting.specs.Vets.{Vetted}
use Prim.Native.Nat.{ℕ}
use mathlib.Core.Path.{◌≡◌}
use mathlib.Core.List.{List}
use lib.IntN.{ℤ}
use lib.ListN.{length}
use Rattle.table.specs.Header.{nodes_of}
use Rattle.table.proofs.Refusals.{unless_map}
use Rattle.tree.proofs.Begins.{begins_alike}
use Rattle.marks.proofs.Weights.{Alike}
use Rattle.ground.proofs.Alike.{passes_alike, flip}
use Rattle.vetting.proofs.Alike.{verdict_iff}
use Rattle.vet.specs.Vet.{vet_refusal, VetsOn, VetOf}
use Rattle.vet.proofs.Only.{goes_only}

module _ (s marks marks' : List ℕ) (h : Alike marks marks') (e : length marks ≡ length marks') (floor : ℤ)
    (list : List ℕ) where
  goes_alike : (n : ℕ) {x : Vetted} → VetsOn s n marks floor list x → VetsOn s n marks' floor list x
  goes_alike n {x} p =
      rw (← e)
      (unless_map (λ o. o)
      (λ _. unless_map (λ o. o)
      (λ _. verdict_iff (passes_alike s marks marks' h n) (passes_alike s marks' marks (flip marks marks' h) n) list _
      x))
      p)

  pub vet_holders_never_show : (x y : Vetted) → VetOf s marks floor list x → VetOf s marks' floor list y → x ≡ y
  vet_holders_never_show =
      begins_alike vet_refusal s
      (λ _ x y p q. goes_only s (nodes_of s) marks' floor list x y (goes_alike (nodes_of s) p) q)
