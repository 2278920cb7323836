-- Counting below each node by one sweep backward over the order: the leaves, all nodes, the nodes of any list L. A node
-- whose place was passed has the count of what is below it, any other the count of what has come by its passed
-- children; a step adds two disjoint parts.
use Prim.Native.Nat.{ℕ, ◌+◌, ◌-◌, ◌≤◌, ◌<◌}
use mathlib.Core.Path.{◌≡◌, sym, ap, ◌∙◌}
use mathlib.Core.Logic.{◌⊎◌, inl, inr, ◌≢◌}
use mathlib.Core.List.{List}
use native.Mathlib.Omega.{arith}
use native.Mathlib.Decide.{ℕ_discrete}
use lib.ListN.{length, set, length-set}
use lib.Seq.{get_or-set_same, get_or-set_other}
use Rattle.arrays.specs.At.{at}
use Rattle.arrays.specs.work.Filled.{Filled}
use Rattle.net.specs.Count.{Count}
use Rattle.net.specs.work.Rooted.{Above}
use Rattle.reach.specs.work.Grown.{Grown}
use Rattle.net.proofs.Counts.{count_same, count_none, count_add, count_below}
use Rattle.net.proofs.Above.{Tree, place_up}
use Rattle.reach.proofs.Grown.{grown_tree, root_place, not_root, same_place}
use Rattle.spines.specs.work.Parents.{Child}
use Rattle.spines.specs.work.Sweeps.{Among, Owns, Sums}
use Rattle.spines.proofs.Below.{via, via_one, child_later, child_fits, child_below}

-- what is below a node by way of a child whose place is i or later
pub record Part (L : List ℕ) (n : ℕ) (par place : ℕ → ℕ) (i v x : ℕ) : Type 0 where
  pub by : ℕ
  pub child : Child n par v by
  pub late : i ≤ place by
  pub counted : Among L par by x

-- the places from i on have given their counts to their parents
pub record Given (L : List ℕ) (n : ℕ) (parent place : List ℕ) (i : ℕ) (lv : List ℕ) : Type 0 where
  pub long : length lv ≡ 4096
  pub done : (v : ℕ) → v < n → i ≤ at place v → Count (Among L (at parent) v) (at lv v)
  pub part : (v : ℕ) → v < n → at place v < i → Count (Part L n (at parent) (at place) i v) (at lv v)

module _ {n : ℕ} {parent order place : List ℕ} (g : Grown n parent order place) {L : List ℕ}
    {pre : ℕ → Type 0} {post : ℕ → ℕ → Type 0} (o : Owns L n parent pre post) where
  T : Tree n (at parent) (at place)
  T = grown_tree g

  pub given_none : {lv : List ℕ} → Filled 4096 0 lv → Given L n parent place n lv
  given_none f =
      record {
        long = f.long;
        done = λ v b l. absurd (omega (arith, (g.here v b).0));
        part = λ v b l. rw (f.each v (omega (arith, g.some.1)))
            (count_none (λ x h. omega (arith, h.late, (g.here h.by h.child.fits).0)));
      }

  -- when all its children have given, what is below a node is itself or has come by a child
  part_all : (i v : ℕ) (lv : List ℕ) → v < n → i ≤ at place v + 1 → at place v < i → Given L n parent place i lv
      → Count (λ x. Among L (at parent) v x × (x ≢ v)) (at lv v)
  part_all i v lv b le lt s = count_same lower upper (s.part v b lt)
    where
      lower : (x : ℕ) → Part L n (at parent) (at place) i v x → Among L (at parent) v x × (x ≢ v)
      lower x h = (
        record { is = h.counted.is; below = child_below T h.child h.counted.below },
        λ e. omega (
          arith,
          child_later T h.child,
          place_up T (o.fits x h.counted.is) h.counted.below,
          ap (at place) e,
        ),
      )

      upper : (x : ℕ) → Among L (at parent) v x × (x ≢ v) → Part L n (at parent) (at place) i v x
      upper x h = put (via T (o.fits x h.0.is) h.0.below (λ q. h.1 (sym q)))
        where
          put : (c : ℕ) × Child n (at parent) v c × Above (at parent) c x → Part L n (at parent) (at place) i v x
          put t =
              record {
                by = t.0;
                child = t.1;
                late = omega (arith, child_later T t.1);
                counted = record { is = h.0.is; below = t.2 };
              }

  -- so its number is its step's
  settled : (i v w : ℕ) (lv : List ℕ) → v < n → i ≤ at place v + 1 → at place v < i → Given L n parent place i lv
      → post (at lv v) w → Count (Among L (at parent) v) w
  settled i v w lv b le lt s e = o.own v (at lv v) w b (part_all i v lv b le lt s) e

  -- which may be taken
  can : (i v : ℕ) (lv : List ℕ) → v < n → at place v < i → Given L n parent place i lv → pre (at lv v)
  can i v lv b lt s = o.can (at lv v) (count_below n (λ x h. o.fits x h.counted.is) (s.part v b lt))

  -- the node v at place j gives its leaves w to its parent p, which then has y
  module _ (j : ℕ) (lv : List ℕ) (v p w : ℕ) (z : 0 < j) (b : j < n) (ev : v ≡ at order j) (ep : p ≡ at parent v)
      (s : Given L n parent place (j + 1) lv) (own : Count (Among L (at parent) v) w) where
    bv : v < n
    bv = rw ev (g.within j b)

    pv : at place v ≡ j
    pv = rw ev (g.back j b)

    zv : v ≢ 0
    zv q = not_root g j z b (sym ev ∙ q)

    kid : Child n (at parent) p v
    kid = record { fits = bv; low = zv; of = sym ep }

    bp : p < n
    bp = child_fits T kid

    pp : at place p < j
    pp = omega (arith, child_later T kid, pv)

    apart : v ≢ p
    apart q = omega (arith, pv, pp, ap (at place) q)

    more : Count (Part L n (at parent) (at place) j p) (at lv p + w)
    more =
        count_add (s.part p bp (omega (arith, pp))) own clash split
        (λ x h. record { by = h.by; child = h.child; late = omega (arith, h.late); counted = h.counted })
        (λ x h. record { by = v; child = kid; late = omega (arith, pv); counted = h })
      where
        clash : (x : ℕ) → Part L n (at parent) (at place) (j + 1) p x → Among L (at parent) v x → ⊥
        clash x h l =
            omega (arith, h.late, pv, ap (at place) (via_one T h.child kid h.counted.below l.below))

        split : (x : ℕ) → Part L n (at parent) (at place) j p x
            → Part L n (at parent) (at place) (j + 1) p x ⊎ Among L (at parent) v x
        split x h = pick (ℕ_discrete h.by v)
          where
            pick : Dec (h.by ≡ v) → Part L n (at parent) (at place) (j + 1) p x ⊎ Among L (at parent) v x
            pick (yes q) = inr (rw q at h.counted)
            pick (no m) =
                inl
                (record {
                  by = h.by;
                  child = h.child;
                  late = later (ℕ_discrete (at place h.by) j);
                  counted = h.counted;
                })
              where
                later : Dec (at place h.by ≡ j) → j + 1 ≤ at place h.by
                later (yes q) = absurd (m (same_place g h.by v h.child.fits bv (q ∙ sym pv)))
                later (no q) = omega (arith, h.late)

    more_fits : at lv p + w ≤ n
    more_fits = count_below n (λ x h. o.fits x h.counted.is) more

    abbrev new : List ℕ
    new = set (set lv v w) p (at lv p + w)

    at_p : at new p ≡ at lv p + w
    at_p = get_or-set_same (set lv v w) p (at lv p + w) 0 (simp length-set (omega (arith, bp, s.long, g.some.1)))

    at_v : at new v ≡ w
    at_v =
        get_or-set_other (set lv v w) p v (at lv p + w) 0 apart
        ∙ get_or-set_same lv v w 0 (omega (arith, bv, s.long, g.some.1))

    at_o : (q : ℕ) → q ≢ v → q ≢ p → at new q ≡ at lv q
    at_o q m o = get_or-set_other (set lv v w) p q (at lv p + w) 0 o ∙ get_or-set_other lv v q w 0 m

    given_more : Given L n parent place j (set (set lv v w) p (at lv p + w))
    given_more = record {
      long = simp length-set s.long;
      done = λ q l h. pick_done q l h (ℕ_discrete q v);
      part = λ q l h. pick_part q l h (ℕ_discrete q p);
    }
      where
        pick_done : (q : ℕ) → q < n → j ≤ at place q → Dec (q ≡ v) → Count (Among L (at parent) q) (at new q)
        pick_done q l h (yes k) = rw (k, at_v) own
        pick_done q l h (no m) =
            rw (at_o q m (λ k. omega (arith, pp, ap (at place) k))) (s.done q l (far (ℕ_discrete (at place q) j)))
          where
            far : Dec (at place q ≡ j) → j + 1 ≤ at place q
            far (yes k) = absurd (m (same_place g q v l bv (k ∙ sym pv)))
            far (no k) = omega arith

        pick_part : (q : ℕ) → q < n → at place q < j → Dec (q ≡ p)
            → Count (Part L n (at parent) (at place) j q) (at new q)
        pick_part q l h (yes k) = rw (k, at_p) more
        pick_part q l h (no m) =
            rw (at_o q (λ k. omega (arith, pv, ap (at place) k)) m)
            (count_same
            (λ x t. record { by = t.by; child = t.child; late = omega (arith, t.late); counted = t.counted })
            (λ x t. record {
              by = t.by;
              child = t.child;
              late = far t.by t.child t.late (ℕ_discrete (at place t.by) j);
              counted = t.counted;
            })
            (s.part q l (omega arith)))
          where
            far : (c : ℕ) → Child n (at parent) q c → j ≤ at place c → Dec (at place c ≡ j) → j + 1 ≤ at place c
            far c k d (yes f) =
                absurd (m (sym k.of ∙ ap (at parent) (same_place g c v k.fits bv (f ∙ sym pv)) ∙ sym ep))
            far c k d (no f) = omega arith

  -- as the code counts down: from i to i - 1
  module _ (i : ℕ) (lv : List ℕ) (v : ℕ) (z : 1 < i) (b : i ≤ n) (ev : v ≡ at order (i - 1))
      (s : Given L n parent place i lv) where
    node : v < n
    node = rw ev (g.within (i - 1) (omega arith))

    put : at place v ≡ i - 1
    put = rw ev (g.back (i - 1) (omega arith))

    pub node_can : pre (at lv v)
    node_can = can i v lv node (omega (arith, put)) s

    module _ (p w : ℕ) (ep : p ≡ at parent v) (e : post (at lv v) w) where
      back_one : (i - 1) + 1 ≡ i
      back_one = omega arith

      own : Count (Among L (at parent) v) w
      own = settled i v w lv node (omega (arith, put)) (omega (arith, put)) s e

      pub sum_fits : at lv p + w ≤ n
      sum_fits = more_fits (i - 1) lv v p w (omega arith) (omega arith) ev ep (rw back_one s) own

      pub given_next : Given L n parent place (i - 1) (set (set lv v w) p (at lv p + w))
      given_next = given_more (i - 1) lv v p w (omega arith) (omega arith) ev ep (rw back_one s) own

  -- at the end the root
  module _ (i : ℕ) (lv : List ℕ) (h : i ≤ 1) (z : 0 < i) (s : Given L n parent place i lv) where
    rp : at place 0 ≡ 0
    rp = root_place g

    pub root_can : pre (at lv 0)
    root_can = can i 0 lv g.some.0 (omega (arith, rp)) s

    pub given_all : (w : ℕ) → post (at lv 0) w → Sums L n parent (set lv 0 w)
    given_all w e = record { long = simp length-set s.long; each = λ t b. pick t b (ℕ_discrete t 0) }
      where
        pick : (t : ℕ) → t < n → Dec (t ≡ 0) → Count (Among L (at parent) t) (at (set lv 0 w) t)
        pick t b (yes q) =
            rw (q, get_or-set_same lv 0 w 0 (omega (arith, s.long)))
            (settled i 0 w lv g.some.0 (omega (arith, rp)) (omega (arith, rp)) s e)
        pick t b (no m) = rw (get_or-set_other lv 0 t w 0 m) (s.done t b (far (ℕ_discrete (at place t) 0)))
          where
            far : Dec (at place t ≡ 0) → i ≤ at place t
            far (yes q) = absurd (m (same_place g t 0 b g.some.0 (q ∙ sym rp)))
            far (no q) = omega arith
