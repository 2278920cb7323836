-- Where two climbs meet, by spots: what is below a node fills a span of spots. Of the spots behind x's and up to y's
-- take one whose parent's spot is least, t's. The spot of t is not among them, else its own parent's would be less; nor
-- is the end of t's span, for the node there has a parent outside of it, of a lesser spot. So x and y are both in t's
-- span, and whatever is above both is above t.
use Prim.Native.Nat.{ℕ, ◌+◌, ◌≤◌, ◌<◌}
use mathlib.Core.Path.{◌≡◌, refl, sym, ap, ◌∙◌}
use mathlib.Core.Logic.{◌⊎◌, inl, inr, ◌≢◌}
use mathlib.Core.List.{List}
use native.Mathlib.Omega.{arith}
use native.Mathlib.Decide.{dec_le, dec_lt}
use Rattle.arrays.specs.At.{at}
use Rattle.net.specs.work.Rooted.{Above, up}
use Rattle.net.proofs.Above.{Tree, fits_up, above_anti}
use Rattle.net.proofs.Rooted.{above_inv}
use Rattle.reach.specs.work.Grown.{Grown}
use Rattle.reach.proofs.Grown.{grown_tree}
use Rattle.spines.specs.work.Parents.{Child, HeadsAll, SizesAll}
use Rattle.layout.specs.work.Laid.{Laid}
use Rattle.layout.specs.work.Seats.{Seating}
use Rattle.layout.specs.work.Spotted.{LeastOf}
use Rattle.layout.proofs.Meeting.{Meet}
use Rattle.layout.proofs.Spots as spots

module _ {n : ℕ} {parent order place head size spot next above : List ℕ} (g : Grown n parent order place)
    (H : HeadsAll n parent head) (Z : SizesAll n parent size) (q : Seating n parent place head size n spot next)
    (A : Laid 1 n spot (λ v. at spot (at parent v)) above) where
  T : Tree n (at parent) (at place)
  T = grown_tree g

  -- where a node's span ends
  abbrev End : ℕ → ℕ
  End x = at spot x + at size x

  nest : {p c : ℕ} → Child n (at parent) p c → (at spot p < at spot c) × (End c ≤ End p)
  nest = spots.nest g H Z q

  nest_up : {t x : ℕ} → x < n → Above (at parent) t x → (at spot t ≤ at spot x) × (End x ≤ End t)
  nest_up = spots.nest_up g H Z q

  span_above : (t x : ℕ) → t < n → x < n → at spot t ≤ at spot x → at spot x < End t → Above (at parent) t x
  span_above = spots.span_above g H Z q

  size_some : (x : ℕ) → x < n → 0 < at size x
  size_some = spots.size_some g H Z q

  kid : (v : ℕ) → v < n → v ≢ 0 → Child n (at parent) (at parent v) v
  kid v b z = record { fits = b; low = z; of = refl }

  above_at : (v : ℕ) → v < n → v ≢ 0 → at above (at spot v) ≡ at spot (at parent v)
  above_at v b z = A.each v (omega arith) b

  -- a spot behind another's is not the root's
  not_root : (v i : ℕ) → i < at spot v → v ≢ 0
  not_root v i h e = omega (arith, ap (at spot) e, q.root)

  -- the node at whose spot the least stands, and its parent t
  record Taken (i j m : ℕ) : Type 0 where
    c : ℕ
    t : ℕ
    child : Child n (at parent) t c
    behind : i < at spot c
    upto : at spot c ≤ j
    fits : t < n
    least : at spot t ≡ m

  taken : {i j m : ℕ} → j < n → LeastOf (at above) (i + 1) j m → Taken i j m
  taken {i} {j} b L =
      let s = L.some in
      let v = spots.everywhere g H Z q s.0 (omega (arith, s.2)) in
      let z = not_root v.0 i (omega (arith, s.1, v.2)) in
      record {
        c = v.0;
        t = at parent v.0;
        child = kid v.0 v.1.0 z;
        behind = omega (arith, s.1, v.2);
        upto = omega (arith, s.2, v.2);
        fits = g.fits v.0 v.1.0 z;
        least = sym (above_at v.0 v.1.0 z) ∙ ap (at above) v.2 ∙ s.3;
      }

  module _ {x y m : ℕ} (bx : x < n) (by : y < n) (L : LeastOf (at above) (at spot x + 1) (at spot y) m)
      (k : Taken (at spot x) (at spot y) m) where
    -- t's own parent has a lesser spot, so t's is not looked at
    before : at spot k.t ≤ at spot x
    before = pick (dec_le (at spot k.t) (at spot x))
      where
        pick : Dec (at spot k.t ≤ at spot x) → at spot k.t ≤ at spot x
        pick (yes h) = h
        pick (no h) =
            let z = not_root k.t (at spot x) (omega arith) in
            let a = L.all (at spot k.t) (omega arith) (omega (arith, (nest k.child).0, k.upto)) in
            absurd (omega (arith, a, k.least, above_at k.t k.fits z, (nest (kid k.t k.fits z)).0))

    -- nor is a node's whose spot is the first behind t's span: its parent is not below t, and has a lesser spot
    not_behind : (v : ℕ) → v < n → at spot v ≡ End k.t → End k.t ≤ at spot y → ⊥
    not_behind v b e h =
        let i = nest k.child in
        let o : at spot x < at spot v = omega (arith, i.1, k.behind, size_some k.c k.child.fits) in
        let z = not_root v (at spot x) o in
        let a = L.all (at spot v) (omega arith) (omega arith) in
        let u = span_above k.t (at parent v) k.fits (g.fits v b z) (omega (arith, a, above_at v b z, k.least))
        (omega (arith, (nest (kid v b z)).0)) in
        omega (arith, (nest_up b (up z refl u)).1, size_some v b)

    after : at spot y < End k.t
    after = pick (dec_lt (at spot y) (End k.t))
      where
        pick : Dec (at spot y < End k.t) → at spot y < End k.t
        pick (yes h) = h
        pick (no h) =
            let s = (spots.spots_of g H Z q).within y by in
            let v = spots.everywhere g H Z q (End k.t) (omega arith) in
            absurd (not_behind v.0 v.1.0 v.2 (omega arith))

    -- what is above both is above c, and is not c
    over : (z : ℕ) → Above (at parent) z x → Above (at parent) z y → Above (at parent) z k.t
    over z a b =
        let i = nest_up bx a in
        let j = nest_up by b in
        pick
        (above_inv
        (span_above z k.c (fits_up T bx a) k.child.fits (omega (arith, i.0, k.behind))
        (omega (arith, j.1, k.upto, size_some y by))))
      where
        pick : (z ≡ k.c) ⊎ ((k.c ≢ 0) × Above (at parent) z (at parent k.c)) → Above (at parent) z k.t
        pick (inl e) = absurd (omega (arith, ap (at spot) e, k.behind, (nest_up bx a).0))
        pick (inr s) = rw k.child.of at s.1

    meet : at spot x < at spot y → Meet parent x y k.t
    meet l =
        record {
          left = span_above k.t x k.fits bx before (omega (arith, after));
          right = span_above k.t y k.fits by (omega (arith, before)) after;
          first = λ z a o b c. o (sym (above_anti T (fits_up T bx c) a (over z c b)));
        }

  -- the node with spot m
  pub record Between (x y m : ℕ) : Type 0 where
    pub node : ℕ
    pub fits : node < n
    pub spotted : at spot node ≡ m
    pub meets : Meet parent x y node

  pub between : {x y m : ℕ} → x < n → y < n → at spot x < at spot y
      → LeastOf (at above) (at spot x + 1) (at spot y) m → Between x y m
  between {x} {y} bx by l L =
      let k = taken ((spots.spots_of g H Z q).within y by) L in
      record { node = k.t; fits = k.fits; spotted = k.least; meets = meet bx by L k l }
