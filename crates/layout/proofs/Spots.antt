-- When every node has its spot: what is below a node fills the spots from its spot to its end, exactly; the spans of
-- two children lie apart, and the main child's span is the last.
use Prim.Native.Nat.{ℕ, zero, suc, ◌+◌, ◌≤◌, ◌<◌}
use mathlib.Core.Path.{◌≡◌, sym, ap, ◌∙◌}
use mathlib.Core.Logic.{◌⊎◌, inl, inr, ◌≢◌, ⊎_elim}
use mathlib.Core.List.{List}
use native.Mathlib.Omega.{arith}
use native.Mathlib.Decide.{ℕ_discrete}
use Rattle.arrays.specs.At.{at}
use Rattle.net.specs.Count.{Count}
use Rattle.net.specs.work.Rooted.{Above, self, up}
use Rattle.reach.specs.work.Grown.{Grown}
use Rattle.net.proofs.Counts.{count_some, count_unique, count_all, count_same}
use Rattle.net.proofs.Above.{Tree}
use Rattle.net.proofs.Climbs.{root_above}
use Rattle.reach.proofs.Grown.{grown_tree}
use Rattle.spines.specs.work.Parents.{Child, HeadsAll, SizesAll}
use Rattle.spines.proofs.Below.{child_fits, child_later, via}
use Rattle.layout.specs.work.Seats.{Hanging, Used, Seating}
use Rattle.layout.specs.work.Laid.{Spots}
use Rattle.layout.proofs.Full.{count_image, count_full, count_between}
use Rattle.layout.proofs.Heads.{one_main, some_main}
use Rattle.layout.proofs.Seating.{room, used_fits, used_some}

module _ {n : ℕ} {parent order place head size spot next : List ℕ} (g : Grown n parent order place)
    (H : HeadsAll n parent head) (Z : SizesAll n parent size) (q : Seating n parent place head size n spot next) where
  T : Tree n (at parent) (at place)
  T = grown_tree g

  -- where a node's span ends
  abbrev pub End : ℕ → ℕ
  End x = at spot x + at size x

  pub size_some : (x : ℕ) → x < n → 0 < at size x
  size_some x b = count_some x (b, self) (Z.each x b)

  hanging : {p c : ℕ} → Child n (at parent) p c → at head c ≢ at head p → Hanging n parent place head n p c
  hanging {p} {c} k o = record { child = k; placed = (g.here c k.fits).0; off = o }

  placed : {p c : ℕ} → Child n (at parent) p c → at place p < n
  placed {p} k = (g.here p (child_fits T k)).0

  pub main_end : {p c : ℕ} → Child n (at parent) p c → at head c ≡ at head p → End c ≡ End p
  main_end {p} {c} k e = q.main p c k (g.here c k.fits).0 e

  -- what is used up below p, and the main child behind it
  hung_end : {p c m : ℕ} → Child n (at parent) p c → at head c ≢ at head p → Child n (at parent) p m
      → at head m ≡ at head p → End c ≤ at spot m
  hung_end {p} {c} {m} k o l e =
      let u = q.used p (child_fits T k) (placed k) in
      omega (arith, (q.hung p c (hanging k o)).1, u.1, room g head Z l (λ h. h.off e) u.2, main_end l e)

  pub nest : {p c : ℕ} → Child n (at parent) p c → (at spot p < at spot c) × (End c ≤ End p)
  nest {p} {c} k = pick (ℕ_discrete (at head c) (at head p))
    where
      u : (j : ℕ) × (at next p ≡ at spot p + j) × Count (Used n parent place head n p) j
      u = q.used p (child_fits T k) (placed k)

      pick : Dec (at head c ≡ at head p) → (at spot p < at spot c) × (End c ≤ End p)
      pick (yes e) =
          let m = main_end k e in
          (omega (arith, m, room g head Z k (λ h. h.off e) u.2, used_some g head Z u.2), omega (arith, m))
      pick (no o) =
          let h = q.hung p c (hanging k o) in
          (h.0, omega (arith, h.1, u.1, used_fits g head Z (child_fits T k) u.2))

  pub apart : {p c d : ℕ} → Child n (at parent) p c → Child n (at parent) p d → c ≢ d
      → (End c ≤ at spot d) ⊎ (End d ≤ at spot c)
  apart {p} {c} {d} k l m = pick (ℕ_discrete (at head c) (at head p)) (ℕ_discrete (at head d) (at head p))
    where
      pick : Dec (at head c ≡ at head p) → Dec (at head d ≡ at head p) → (End c ≤ at spot d) ⊎ (End d ≤ at spot c)
      pick (yes e) (yes f) = absurd (m (one_main g H k l e f))
      pick (yes e) (no o) = inr (hung_end l o k e)
      pick (no o) (yes f) = inl (hung_end k o l f)
      pick (no o) (no w) = q.apart p c d (hanging k o) (hanging l w) m

  -- a hanging tree ends before its parent's span does
  pub hung_less : {p c : ℕ} → Child n (at parent) p c → at head c ≢ at head p → End c < End p
  hung_less {p} {c} k o =
      let t = some_main g H k in
      omega (arith, hung_end k o t.1 t.2, main_end t.1 t.2, size_some t.0 t.1.fits)

  -- spans lie within those of the nodes above
  pub nest_up : {t x : ℕ} → x < n → Above (at parent) t x → (at spot t ≤ at spot x) × (End x ≤ End t)
  nest_up b self = (omega arith, omega arith)
  nest_up {t} {x} b (up {y} z e h) =
      let k : Child n (at parent) y x = record { fits = b; low = z; of = e } in
      let i = nest_up (child_fits T k) h in
      (omega (arith, (nest k).0, i.0), omega (arith, (nest k).1, i.1))

  -- no two nodes have one spot: going down from a node above both
  below_one : (m t x y : ℕ) → t < n → n ≤ at place t + m → x < n → y < n → Above (at parent) t x → Above (at parent) t y
      → at spot x ≡ at spot y → x ≡ y
  below_one zero t x y bt l bx by a b e = absurd (omega (arith, (g.here t bt).0))
  below_one (suc m) t x y bt l bx by a b e = pick (ℕ_discrete t x) (ℕ_discrete t y) (below_one m)
    where
      later : (z w : ℕ) → z < n → Above (at parent) t z → t ≢ z → t ≡ w → at spot w < at spot z
      later z w bz az o f =
          let v = via T bz az o in
          omega (arith, (nest v.1).0, (nest_up bz v.2).0, ap (at spot) f)

      pick : Dec (t ≡ x) → Dec (t ≡ y)
          → ((t x y : ℕ) → t < n → n ≤ at place t + m → x < n → y < n → Above (at parent) t x → Above (at parent) t y
          → at spot x ≡ at spot y → x ≡ y)
          → x ≡ y
      pick (yes f) (yes h) ih = sym f ∙ h
      pick (yes f) (no o) ih = absurd (omega (arith, later y x by b o f))
      pick (no o) (yes f) ih = absurd (omega (arith, later x y bx a o f))
      pick (no o) (no w) ih = side (via T bx a o) (via T by b w)
        where
          side : (c : ℕ) × Child n (at parent) t c × Above (at parent) c x
              → (d : ℕ) × Child n (at parent) t d × Above (at parent) d y → x ≡ y
          side c d = which (ℕ_discrete c.0 d.0)
            where
              which : Dec (c.0 ≡ d.0) → x ≡ y
              which (yes f) =
                  ih c.0 x y c.1.fits (omega (arith, child_later T c.1)) bx by c.2 (rw (sym f) at d.2) e
              which (no f) =
                  let i = nest_up bx c.2 in
                  let j = nest_up by d.2 in
                  let s = size_some x bx in
                  let r = size_some y by in
                  ⊎_elim (λ h. absurd (omega (arith, h, i.0, i.1, j.0, j.1)))
                  (λ h. absurd (omega (arith, h, i.0, i.1, j.0, j.1))) (apart c.1 d.1 f)

  pub spot_one : (x y : ℕ) → x < n → y < n → at spot x ≡ at spot y → x ≡ y
  spot_one x y bx by e = below_one n 0 x y g.some.0 (omega arith) bx by (root_above T x bx) (root_above T y by) e

  -- every spot of a node's span is the spot of a node below it
  pub onto : (t s : ℕ) → t < n → at spot t ≤ s → s < End t
      → (x : ℕ) × ((x < n) × Above (at parent) t x) × (at spot x ≡ s)
  onto t s b l h =
      count_full within (count_image (at spot) (λ x y i j e. spot_one x y i.0 j.0 e) (Z.each t b))
      (count_between (at spot t) (at size t)) s (l, h)
    where
      within : (r : ℕ) → (x : ℕ) × ((x < n) × Above (at parent) t x) × (at spot x ≡ r) → (at spot t ≤ r) × (r < End t)
      within r v =
          let i = nest_up v.1.0 v.1.1 in
          (omega (arith, i.0, v.2), omega (arith, i.1, v.2, size_some v.0 v.1.0))

  -- a spot of a node's span is below the node
  pub span_above : (t x : ℕ) → t < n → x < n → at spot t ≤ at spot x → at spot x < End t → Above (at parent) t x
  span_above t x b c l h = let v = onto t (at spot x) b l h in rw (spot_one v.0 x v.1.0 c v.2) at v.1.1

  pub root_size : at size 0 ≡ n
  root_size =
      count_unique (count_same (λ x h. h.0) (λ x h. (h, root_above T x h)) (Z.each 0 g.some.0)) (count_all n)

  -- every spot is some node's spot
  pub everywhere : (s : ℕ) → s < n → (x : ℕ) × ((x < n) × Above (at parent) 0 x) × (at spot x ≡ s)
  everywhere s h = onto 0 s g.some.0 (omega (arith, q.root)) (omega (arith, q.root, root_size))

  -- a fact of every node's spot is one of every spot
  pub by_spot : (P : ℕ → Type 0) → ((v : ℕ) → v < n → P (at spot v)) → (s : ℕ) → s < n → P s
  by_spot P f s b = let t = everywhere s b in rw t.2 at (f t.0 t.1.0)

  -- the root's spot is the root's alone
  pub off_root : (v : ℕ) → 1 ≤ v → v < n → at spot v ≢ 0
  off_root v l b e = omega (arith, spot_one v 0 b g.some.0 (e ∙ sym q.root))

  pub spots_of : Spots n spot
  spots_of = record {
    some = g.some.0;
    small = g.some.1;
    within = λ v b. omega (arith, size_some v b, q.ends v b (g.here v b).0);
    one = spot_one;
  }
