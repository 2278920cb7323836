-- Heads as an array of numbers: a child has its parent's head exactly if it is the main child, and else its own; one
-- child of a node that has any has the node's head.
use Prim.Native.Nat.{ℕ}
use mathlib.Core.Path.{◌≡◌, refl, sym, ◌∙◌}
use mathlib.Core.Logic.{◌⊎◌, inl, inr, ◌≢◌}
use mathlib.Core.List.{List}
use native.Mathlib.Omega.{arith}
use Rattle.arrays.specs.At.{at}
use Rattle.net.specs.work.Rooted.{Above}
use Rattle.reach.specs.work.Grown.{Grown}
use Rattle.net.proofs.Rooted.{above_inv}
use Rattle.net.proofs.Above.{Tree, place_up}
use Rattle.reach.proofs.Grown.{grown_tree}
use Rattle.spines.specs.Spine.{Main, Head, top, down}
use Rattle.spines.specs.work.Parents.{Child, HeadsAll}
use Rattle.spines.proofs.Below.{child_fits, child_later}
use Rattle.spines.proofs.Main.{main_some, main_one}
use Rattle.spines.proofs.Head.{head_above, head_one}

module _ {n : ℕ} {parent order place head : List ℕ} (g : Grown n parent order place) (H : HeadsAll n parent head) where
  T : Tree n (at parent) (at place)
  T = grown_tree g

  same_main : {p c : ℕ} → Child n (at parent) p c → at head c ≡ at head p → Main (Child n (at parent)) n p c
  same_main {p} {c} k e = pick (H.each c k.fits) e
    where
      pick : {h : ℕ} → Head (Child n (at parent)) n h c → h ≡ at head p → Main (Child n (at parent)) n p c
      pick (top b o) f =
          let a : Above (at parent) c p = rw f (head_above (H.each p (child_fits T k))) in
          absurd (omega (arith, child_later T k, place_up T (child_fits T k) a))
      pick (down m j) f = rw (sym m.child.of ∙ k.of) at m

  main_same : {p c : ℕ} → Main (Child n (at parent)) n p c → at head c ≡ at head p
  main_same {p} {c} m = head_one (H.each c m.child.fits) (down m (H.each p (child_fits T m.child)))

  pub off_own : {p c : ℕ} → Child n (at parent) p c → at head c ≢ at head p → at head c ≡ c
  off_own {p} {c} k o = pick (H.each c k.fits) refl
    where
      pick : {h : ℕ} → Head (Child n (at parent)) n h c → at head c ≡ h → at head c ≡ c
      pick (top b t) e = e
      pick (down m j) e = absurd (o (main_same (rw (sym m.child.of ∙ k.of) at m)))

  pub one_main : {p c d : ℕ} → Child n (at parent) p c → Child n (at parent) p d → at head c ≡ at head p
      → at head d ≡ at head p → c ≡ d
  one_main k l e f = main_one T (same_main k e) (same_main l f)

  pub some_main : {p c : ℕ} → Child n (at parent) p c → (m : ℕ) × Child n (at parent) p m × (at head m ≡ at head p)
  some_main k = let t = main_some T k in (t.0, t.1.child, main_same t.1)

  pub head_root : at head 0 ≡ 0
  head_root = pick (above_inv (head_above (H.each 0 g.some.0)))
    where
      pick : (at head 0 ≡ 0) ⊎ ((◌≢◌ {A = ℕ} 0 0) × Above (at parent) (at head 0) (at parent 0)) → at head 0 ≡ 0
      pick (inl e) = e
      pick (inr s) = absurd (s.0 refl)
