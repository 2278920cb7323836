-- The verdict by numbers is the verdict on the accepted net's own listing: what is meant by the figures that are laid
-- out by spots is what qualifies, of any ground, and so of the net's.
use Rattle.vetting.specs.declared.Verdict.{Verdict}
use Prim.Native.Nat.{ℕ, ◌*◌, ◌≤◌, ◌<◌}
use mathlib.Core.Path.{◌≡◌, refl}
use mathlib.Core.Bool.{false}
use mathlib.Core.List.{List}
use native.Mathlib.Omega.{arith}
use lib.IntN.{ℤ}
use lib.ListN.{length}
use Rattle.table.specs.Header.{bound_of}
use Rattle.table.specs.work.Lift.{sum_end}
use Rattle.limits.specs.declared.Limit.{Limit}
use Rattle.pages.specs.declared.Sums.{Sums}
use Rattle.pages.specs.work.Lowered.{Raised}
use Rattle.pages.proofs.Lift.{weighs_from}
use Rattle.paths.specs.work.Ground.{Ground}
use Rattle.paths.proofs.Single.{one_value}
use Rattle.layout.specs.work.Spotted.{Spotted}
use Rattle.figures.proofs.Paths.{figurable}
use Rattle.ground.specs.Considered.{Considered}
use Rattle.ground.specs.PathOf.{PathOf}
use Rattle.ground.specs.work.Grounded.{ValueIn, Grounded}
use Rattle.ground.proofs.Branching.{ground}
use Rattle.vetting.specs.Vets.{Vets}
use Rattle.vetting.proofs.Alike.{vets_iff}
use Rattle.vetting.specs.work.Meant.{Meant}
use Rattle.vetting.specs.work.Screened.{RowsAsked}
use Rattle.vetting.proofs.Meaning.{OnePath, meant_passes, passes_meant}

-- at most the bound, and from the lifted floor on
abbrev at_most : ℕ → Limit
at_most most = record { most = most; exact = false }

abbrev from : ℕ → Sums
from floor = record { floor = floor; end = sum_end }

module _ {s marks parent half order place bl bw spot above far heavy : List ℕ} {n nodes : ℕ} (e : n ≡ nodes)
    (q : Grounded s marks nodes parent half order place bl bw)
    (f : (g : Ground n parent order place bl bw) → Spotted (ValueIn g) n spot above far heavy) where
  of_net : Spotted (PathOf s marks nodes) nodes spot above far heavy
  of_net = let q₁ : Grounded s marks n parent half order place bl bw = rw e q in rw e at (f (ground q₁))

  one_path : OnePath (PathOf s marks nodes)
  one_path =
      let q₁ : Grounded s marks n parent half order place bl bw = rw e q in
      let one : OnePath (PathOf s marks n) = λ a b l k w z p r. one_value (ground q₁) p r in
      rw e at one

  -- what `vet_rows` asks
  pub rows_asked : {list : List ℕ} {m most : ℕ} → most < 4294967296 → length list ≡ 16 * m
      → RowsAsked list m n spot above far heavy (at_most most)
  rows_asked h l = record { figurable = rw e (figurable of_net); most = h; some = some; long = l }
    where
      some : 0 < n
      some = omega (arith, e, of_net.spots.some)

  pub verdict_is : {floor : ℤ} {most low : ℕ} → most ≡ bound_of s → Raised floor low
      → (list : List ℕ) (m : ℕ) (r : Verdict) → Vets (Meant spot above far heavy n (at_most most) (from low)) list m r
      → Vets (Considered (λ l. l ≤ bound_of s) s marks nodes floor) list m r
  verdict_is {most = most} {low} b h list m r v =
      let w = weighs_from {sums = from low} h refl in
      rw b
      at (vets_iff (meant_passes of_net {limit = at_most most} w)
      (passes_meant of_net {limit = at_most most} w one_path)
      list m r (rw e at v))
