-- Heads, forward over the order: a main child has its parent's head, any other node its own.
use Prim.Native.Nat.{ℕ, ◌+◌, ◌≤◌, ◌<◌}
use mathlib.Core.Path.{◌≡◌, refl, sym, ◌∙◌}
use mathlib.Core.Logic.{◌≢◌}
use mathlib.Core.List.{List}
use native.Mathlib.Omega.{arith}
use native.Mathlib.Decide.{ℕ_discrete}
use lib.ListN.{set}
use Rattle.arrays.specs.At.{at}
use Rattle.arrays.specs.work.Filled.{Filled}
use Rattle.reach.specs.work.Grown.{Grown}
use Rattle.reach.proofs.Grown.{not_root}
use Rattle.reach.proofs.Sweep.{Swept, swept_root, swept_parent, swept_next, swept_all}
use Rattle.spines.specs.Spine.{Head, top, down}
use Rattle.spines.specs.work.Parents.{Child, HeadsAll}
use Rattle.spines.specs.work.Sweeps.{MainsAll, Follows}

-- the nodes at the places below i have their heads
abbrev pub Heads : ℕ → List ℕ → List ℕ → ℕ → List ℕ → Type 0
Heads n parent order i head = Swept (λ x h. Head (Child n (at parent)) n h x) i order head

module _ {n : ℕ} {parent order place main : List ℕ} (g : Grown n parent order place) (M : MainsAll n parent main) where
  pub heads_one : (head : List ℕ) → Filled 4096 0 head → Heads n parent order 1 head
  heads_one head f =
      swept_root g f.long (rw (f.each 0 (omega arith)) (top g.some.0 (λ p k. k.child.low refl)))

  pub heads_more : (i : ℕ) (head : List ℕ) (v p r : ℕ) → 0 < i → i < n → v ≡ at order i → p ≡ at parent v
      → Heads n parent order i head → Follows v (at main p) (at head p) r → Heads n parent order (i + 1) (set head v r)
  heads_more i head v p r z b ev ep s f = swept_next g s v r b ev (new (ℕ_discrete (at main p) v))
    where
      bv : v < n
      bv = rw ev (g.within i b)

      zv : v ≢ 0
      zv q = not_root g i z b (sym ev ∙ q)

      bp : p < n
      bp = rw ep (g.fits v bv zv)

      new : Dec (at main p ≡ v) → Head (Child n (at parent)) n r v
      new (yes e) =
          rw (f.same e)
          (down (rw e at ((M.each p bp).is (λ q. omega (arith, g.some.1, bv)))) (swept_parent g s v p z b ev ep))
      new (no m) = rw (f.own m) (top bv (λ q k. m ((M.each p bp).only v (rw (ep ∙ k.child.of) k))))

  pub heads_all : (i : ℕ) (head : List ℕ) → n ≤ i → Heads n parent order i head → HeadsAll n parent head
  heads_all i head h s = record { long = s.long; each = swept_all g s h }
