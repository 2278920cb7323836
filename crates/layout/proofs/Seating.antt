-- The sweep that gives each node its spot: forward over the walk, a node and its parent's next free spot. What is used
-- up below a node is counted, so that there is room for each child.
use Prim.Native.Nat.{ℕ, ◌+◌, ◌≤◌, ◌<◌}
use mathlib.Core.Path.{◌≡◌, refl, sym, ap, ◌∙◌}
use mathlib.Core.Logic.{◌⊎◌, inl, inr, ◌≢◌}
use mathlib.Core.List.{List}
use native.Mathlib.Omega.{arith}
use native.Mathlib.Decide.{ℕ_discrete}
use lib.ListN.{set, length-set}
use lib.Seq.{get_or-set_same, get_or-set_other}
use Rattle.arrays.specs.At.{at}
use Rattle.arrays.specs.work.Filled.{Filled}
use Rattle.net.specs.Count.{Count}
use Rattle.net.specs.work.Rooted.{Above, self}
use Rattle.reach.specs.work.Grown.{Grown}
use Rattle.net.proofs.Counts.{count_le, count_same, count_one, count_add, count_below, count_some}
use Rattle.net.proofs.Above.{Tree, place_up}
use Rattle.reach.proofs.Grown.{grown_tree, root_place, not_root, same_place}
use Rattle.spines.specs.work.Parents.{Child, SizesAll}
use Rattle.spines.proofs.Below.{child_fits, child_later, child_below, via_one}
use Rattle.layout.specs.work.Seats.{SeatRoom, Seated, Hanging, Used, Seating}

module _ {n : ℕ} {parent order place : List ℕ} (g : Grown n parent order place) (head : List ℕ) {size : List ℕ}
    (Z : SizesAll n parent size) where
  T : Tree n (at parent) (at place)
  T = grown_tree g

  used_below : {i p x : ℕ} → p < n → Used n parent place head i p x → (x < n) × Above (at parent) p x
  used_below b (inl e) = rw e (b, self)
  used_below b (inr h) = (h.fits, child_below T h.tree.child h.below)

  -- a child that does not hang there has no node in common with what is used
  clash : {i p v x : ℕ} → Child n (at parent) p v → ¬ Hanging n parent place head i p v → Used n parent place head i p x
      → x < n → Above (at parent) v x → ⊥
  clash {p} {v} {x} k no-tree (inl e) b a =
      let a' : Above (at parent) v p = rw e at a in
      omega (arith, child_later T k, place_up T (child_fits T k) a')
  clash {i} {p} k no-tree (inr h) b a = no-tree (rw (via_one T h.tree.child k h.below a) at h.tree)

  both : {i p v k : ℕ} → Child n (at parent) p v → ¬ Hanging n parent place head i p v
      → Count (Used n parent place head i p) k
      → Count (λ x. Used n parent place head i p x ⊎ ((x < n) × Above (at parent) v x)) (k + at size v)
  both {v} c o u =
      count_add u (Z.each v c.fits) (λ x h l. clash c o h l.0 l.1) (λ x h. h) (λ x h. inl h) (λ x h. inr h)

  -- there is room for a child that has no spot yet, and for the main child at the end
  pub room : {i p v k : ℕ} → Child n (at parent) p v → ¬ Hanging n parent place head i p v
      → Count (Used n parent place head i p) k → k + at size v ≤ at size p
  room {i} {p} {v} c o u = count_le sub (both c o u) (Z.each p (child_fits T c))
    where
      sub : (x : ℕ) → Used n parent place head i p x ⊎ ((x < n) × Above (at parent) v x)
          → (x < n) × Above (at parent) p x
      sub x (inl h) = used_below (child_fits T c) h
      sub x (inr h) = (h.0, child_below T c h.1)

  pub used_fits : {i p k : ℕ} → p < n → Count (Used n parent place head i p) k → k ≤ at size p
  used_fits {p} b u = count_le (λ x h. used_below b h) u (Z.each p b)

  pub used_some : {i p k : ℕ} → Count (Used n parent place head i p) k → 0 < k
  used_some {p} u = count_some p (inl refl) u

  -- the root alone
  pub seating_one : (spot next : List ℕ) → Filled 4096 0 spot → Filled 4096 1 next
      → Seating n parent place head size 1 spot next
  seating_one spot next f e =
      record {
        long_spot = f.long;
        long_next = e.long;
        root = f.each 0 (omega arith);
        ends = λ p b l.
            let q = is_root p b l in
            rw q (omega (arith, f.each 0 (omega arith), count_below n (λ x h. h.0) (Z.each 0 g.some.0)));
        used = λ p b l.
            let q = is_root p b l in
            rw q (1, omega (arith, f.each 0 (omega arith), e.each 0 (omega arith)), count_one 0 (inl refl) only);
        main = λ p c k l h. absurd (none k l);
        hung = λ p c h. absurd (none h.child h.placed);
        apart = λ p c d h l m. absurd (none h.child h.placed);
      }
    where
      is_root : (p : ℕ) → p < n → at place p < 1 → p ≡ 0
      is_root p b l = same_place g p 0 b g.some.0 (omega (arith, root_place g))

      none : {p c : ℕ} → Child n (at parent) p c → at place c < 1 → ⊥
      none k l = k.low (is_root _ k.fits l)

      only : (y : ℕ) → Used n parent place head 1 0 y → y ≡ 0
      only y (inl q) = q
      only y (inr h) = absurd (none h.tree.child h.tree.placed)

  -- one more node
  module _ (i : ℕ) (spot next : List ℕ) (v p : ℕ) (z : 0 < i) (b : i < n) (ev : v ≡ at order i) (ep : p ≡ at parent v)
      (q : Seating n parent place head size i spot next) where
    bv : v < n
    bv = rw ev (g.within i b)

    pv : at place v ≡ i
    pv = rw ev (g.back i b)

    kid : Child n (at parent) p v
    kid = record { fits = bv; low = λ e. not_root g i z b (sym ev ∙ e); of = sym ep }

    bp : p < n
    bp = child_fits T kid

    pp : at place p < i
    pp = omega (arith, child_later T kid, pv)

    fresh : ¬ Hanging n parent place head i p v
    fresh h = omega (arith, h.placed, pv)

    used : (k : ℕ) × (at next p ≡ at spot p + k) × Count (Used n parent place head i p) k
    used = q.used p bp pp

    -- what the code computes fits
    pub seat_room : SeatRoom (at spot p) (at next p) (at size p) (at size v)
    seat_room =
        record {
          fits = omega (arith, q.ends p bp pp, g.some.1);
          free = omega (arith, used.1, room kid fresh used.2);
          less = omega (arith, room kid fresh used.2);
        }

    module _ (s c : ℕ) (f : Seated (at head v) (at head p) (at spot p) (at next p) (at size p) (at size v) s c) where
      apart_v : p ≢ v
      apart_v e = omega (arith, pv, pp, ap (at place) e)

      abbrev spot' : List ℕ
      spot' = set spot v s

      abbrev next' : List ℕ
      next' = set (set next p c) v (s + 1)

      spot_v : at spot' v ≡ s
      spot_v = get_or-set_same spot v s 0 (omega (arith, q.long_spot, bv, g.some.1))

      spot_o : (x : ℕ) → x ≢ v → at spot' x ≡ at spot x
      spot_o x m = get_or-set_other spot v x s 0 m

      next_v : at next' v ≡ s + 1
      next_v = get_or-set_same (set next p c) v (s + 1) 0 (simp length-set (omega (arith, q.long_next, bv, g.some.1)))

      next_p : at next' p ≡ c
      next_p =
          get_or-set_other (set next p c) v p (s + 1) 0 apart_v
          ∙ get_or-set_same next p c 0 (omega (arith, q.long_next, bp, g.some.1))

      next_o : (x : ℕ) → x ≢ v → x ≢ p → at next' x ≡ at next x
      next_o x m o = get_or-set_other (set next p c) v x (s + 1) 0 m ∙ get_or-set_other next p x c 0 o

      -- what is true before of any other node
      older : (x : ℕ) → x < n → at place x < i + 1 → x ≢ v → at place x < i
      older x l h m = pick (ℕ_discrete (at place x) i)
        where
          pick : Dec (at place x ≡ i) → at place x < i
          pick (yes e) = absurd (m (same_place g x v l bv (e ∙ sym pv)))
          pick (no e) = omega arith

      older_parent : {x y : ℕ} → Child n (at parent) x y → at place y < i + 1 → x ≢ v
      older_parent k h e = omega (arith, child_later T k, pv, ap (at place) e)

      older_tree : {x y : ℕ} → Hanging n parent place head (i + 1) x y → y ≢ v → Hanging n parent place head i x y
      older_tree {x} {y} h m =
          record { child = h.child; placed = older y h.child.fits h.placed m; off = h.off }

      newer_tree : {x y : ℕ} → Hanging n parent place head i x y → Hanging n parent place head (i + 1) x y
      newer_tree h = record { child = h.child; placed = omega (arith, h.placed); off = h.off }

      newer : (x y : ℕ) → Used n parent place head i x y → Used n parent place head (i + 1) x y
      newer x y (inl e) = inl e
      newer x y (inr h) = inr (record { by = h.by; tree = newer_tree h.tree; fits = h.fits; below = h.below })

      its_parent : {x : ℕ} → Child n (at parent) x v → x ≡ p
      its_parent k = sym k.of ∙ sym ep

      -- v's own tree is used up at p, or nothing is
      less : (x y : ℕ) → ((h : Hanging n parent place head (i + 1) x v) → ⊥) → Used n parent place head (i + 1) x y
          → Used n parent place head i x y
      less x y o (inl e) = inl e
      less x y o (inr h) = pick (ℕ_discrete h.by v)
        where
          pick : Dec (h.by ≡ v) → Used n parent place head i x y
          pick (yes e) = absurd (o (rw e at h.tree))
          pick (no m) = inr (record { by = h.by; tree = older_tree h.tree m; fits = h.fits; below = h.below })

      end_v : s + at size v ≤ at spot p + at size p
      end_v = pick (ℕ_discrete (at head v) (at head p))
        where
          pick : Dec (at head v ≡ at head p) → s + at size v ≤ at spot p + at size p
          pick (yes e) = omega (arith, (f.main e).0)
          pick (no m) = omega (arith, (f.hung m).0, used.1, room kid fresh used.2)

      -- the spot's successor fits a 16-bit number
      pub seat_fits : s + 1 < 65536
      seat_fits = omega (arith, end_v, q.ends p bp pp, g.some.1)

      next_more : at next p ≤ c
      next_more = pick (ℕ_discrete (at head v) (at head p))
        where
          pick : Dec (at head v ≡ at head p) → at next p ≤ c
          pick (yes e) = omega (arith, (f.main e).1)
          pick (no m) = omega (arith, (f.hung m).1)

      used_p : (k : ℕ) × (at next' p ≡ at spot' p + k) × Count (Used n parent place head (i + 1) p) k
      used_p = pick (ℕ_discrete (at head v) (at head p))
        where
          split : (y : ℕ) → at head v ≢ at head p → Used n parent place head (i + 1) p y
              → Used n parent place head i p y ⊎ ((y < n) × Above (at parent) v y)
          split y m (inl e) = inl (inl e)
          split y m (inr h) = which (ℕ_discrete h.by v)
            where
              which : Dec (h.by ≡ v) → Used n parent place head i p y ⊎ ((y < n) × Above (at parent) v y)
              which (yes e) = inr (h.fits, rw e at h.below)
              which (no o) =
                  inl (inr (record { by = h.by; tree = older_tree h.tree o; fits = h.fits; below = h.below }))

          pick : Dec (at head v ≡ at head p)
              → (k : ℕ) × (at next' p ≡ at spot' p + k) × Count (Used n parent place head (i + 1) p) k
          pick (yes e) = (
            used.0,
            omega (arith, next_p, spot_o p apart_v, (f.main e).1, used.1),
            count_same (newer p) (λ y h. less p y (λ t. t.off e) h) used.2,
          )
          pick (no m) = (
            used.0 + at size v,
            omega (arith, next_p, spot_o p apart_v, (f.hung m).1, used.1),
            count_add used.2 (Z.each v bv) (λ x h l. clash kid fresh h l.0 l.1) (λ y h. split y m h) (newer p)
                (λ y h. inr
                (record {
                  by = v;
                  tree = record { child = kid; placed = omega (arith, pv); off = m };
                  fits = h.0;
                  below = h.1;
                })),
          )

      pub seating_next : Seating n parent place head size (i + 1) (set spot v s) (set (set next p c) v (s + 1))
      seating_next = record {
        long_spot = simp length-set q.long_spot;
        long_next = simp length-set q.long_next;
        root = spot_o 0 (λ e. kid.low (sym e)) ∙ q.root;
        ends = λ x l h. ends x l h (ℕ_discrete x v);
        used = λ x l h. used_x x l h (ℕ_discrete x v) (ℕ_discrete x p);
        main = λ x y k h e. main x y k h e (ℕ_discrete y v);
        hung = λ x y h. hung x y h (ℕ_discrete y v) (ℕ_discrete x p);
        apart = λ x y w h k m. apart x y w h k m (ℕ_discrete y v) (ℕ_discrete w v);
      }
        where
          ends : (x : ℕ) → x < n → at place x < i + 1 → Dec (x ≡ v) → at spot' x + at size x ≤ n
          ends x l h (yes e) = rw e (omega (arith, spot_v, end_v, q.ends p bp pp))
          ends x l h (no m) = omega (arith, spot_o x m, q.ends x l (older x l h m))

          used_x : (x : ℕ) → x < n → at place x < i + 1 → Dec (x ≡ v) → Dec (x ≡ p)
              → (k : ℕ) × (at next' x ≡ at spot' x + k) × Count (Used n parent place head (i + 1) x) k
          used_x x l h (yes e) o = rw e (1, omega (arith, next_v, spot_v), count_one v (inl refl) only)
            where
              only : (y : ℕ) → Used n parent place head (i + 1) v y → y ≡ v
              only y (inl k) = k
              only y (inr k) = absurd (omega (arith, child_later T k.tree.child, k.tree.placed, pv))
          used_x x l h (no m) (yes e) = rw e used_p
          used_x x l h (no m) (no o) =
              let t = q.used x l (older x l h m) in (
                t.0,
                omega (arith, next_o x m o, spot_o x m, t.1),
                count_same (newer x) (λ y k. less x y (λ j. o (its_parent j.child)) k) t.2,
              )

          main : (x y : ℕ) → Child n (at parent) x y → at place y < i + 1 → at head y ≡ at head x → Dec (y ≡ v)
              → at spot' y + at size y ≡ at spot' x + at size x
          main x y k h e (yes o) =
              let k' : Child n (at parent) x v = rw o at k in
              let w : x ≡ p = its_parent k' in
              let e' : at head v ≡ at head p = sym (ap (at head) o) ∙ e ∙ ap (at head) w in
              rw (o, w) (omega (arith, spot_v, spot_o p apart_v, (f.main e').0))
          main x y k h e (no o) =
              omega (arith, spot_o y o, spot_o x (older_parent k h), q.main x y k (older y k.fits h o) e)

          hung : (x y : ℕ) → Hanging n parent place head (i + 1) x y → Dec (y ≡ v) → Dec (x ≡ p)
              → (at spot' x < at spot' y) × (at spot' y + at size y ≤ at next' x)
          hung x y h (yes o) d =
              let h' : Hanging n parent place head (i + 1) x v = rw o at h in
              let w : x ≡ p = its_parent h'.child in
              let t : Hanging n parent place head (i + 1) p v = rw w at h' in
              let r = f.hung t.off in
              rw (o, w) (
                omega (arith, spot_v, spot_o p apart_v, r.0, used.1, used_some used.2),
                omega (arith, spot_v, next_p, r.0, r.1),
              )
          hung x y h (no o) (yes w) =
              let t = q.hung x y (older_tree h o) in
              let a = older_parent h.child h.placed in (
                omega (arith, spot_o y o, spot_o x a, t.0),
                omega (arith, spot_o y o, t.1, next_p, next_more, ap (at next') w, ap (at next) w),
              )
          hung x y h (no o) (no w) =
              let t = q.hung x y (older_tree h o) in
              let a = older_parent h.child h.placed in
              (omega (arith, spot_o y o, spot_o x a, t.0), omega (arith, spot_o y o, t.1, next_o x a w))

          -- v comes after the trees that hang from p already
          after : (x y : ℕ) → Hanging n parent place head (i + 1) x y → Hanging n parent place head (i + 1) x v → y ≢ v
              → at spot' y + at size y ≤ at spot' v
          after x y h k m =
              let w : x ≡ p = its_parent k.child in
              let h' : Hanging n parent place head i p y = rw w at (older_tree h m) in
              let k' : Hanging n parent place head (i + 1) p v = rw w at k in
              omega (arith, spot_o y m, spot_v, (q.hung p y h').1, (f.hung k'.off).0)

          apart : (x y w : ℕ) → Hanging n parent place head (i + 1) x y → Hanging n parent place head (i + 1) x w
              → y ≢ w → Dec (y ≡ v) → Dec (w ≡ v)
              → (at spot' y + at size y ≤ at spot' w) ⊎ (at spot' w + at size w ≤ at spot' y)
          apart x y w h k m (yes o) (yes u) = absurd (m (o ∙ sym u))
          apart x y w h k m (yes o) (no u) = inr (rw o (after x w k (rw o at h) u))
          apart x y w h k m (no o) (yes u) = inl (rw u (after x y h (rw u at k) o))
          apart x y w h k m (no o) (no u) =
              rw (spot_o y o, spot_o w u) (q.apart x y w (older_tree h o) (older_tree k u) m)
