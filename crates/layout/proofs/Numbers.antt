-- The numbering is what `whole` asks: by the local facts of `Numbered` and `Nested`, spot by spot.
use Prim.Native.Nat.{ℕ, ◌+◌, ◌≤◌, ◌<◌}
use mathlib.Core.Path.{◌≡◌, refl, sym, ap, ◌∙◌}
use mathlib.Core.Logic.{◌⊎◌, inl, inr, ◌≢◌}
use mathlib.Core.List.{List}
use native.Mathlib.Omega.{arith}
use native.Mathlib.Decide.{ℕ_discrete}
use Rattle.arrays.specs.At.{at}
use Rattle.net.specs.work.Rooted.{Above}
use Rattle.reach.specs.work.Grown.{Grown}
use Rattle.net.proofs.Rooted.{above_inv}
use Rattle.net.proofs.Above.{Tree, fits_up}
use Rattle.reach.proofs.Grown.{grown_tree}
use Rattle.spines.specs.work.Parents.{Child, HeadsAll, SizesAll}
use Rattle.spines.proofs.Below.{child_fits, via}
use Rattle.spines.proofs.Head.{head_above}
use Rattle.parts.specs.work.Parts.{Part}
use Rattle.parts.proofs.Numbered.{Numbered, numbered_part}
use Rattle.parts.proofs.Climbs.{Nested}
use Rattle.layout.specs.work.Seats.{Seating}
use Rattle.layout.specs.work.Laid.{Spots, Layable, LaidOut, Laid}
use Rattle.layout.proofs.Heads.{off_own, head_root}
use Rattle.layout.proofs.Spots as spots

-- the nodes' heads, sizes and spots, and the ends, heads, parents and names of all spots
pub record Numbering (n : ℕ) (parent place spot stops heads parents names : List ℕ) : Type 0 where
  pub head : List ℕ
  pub size : List ℕ
  pub next : List ℕ
  pub headed : HeadsAll n parent head
  pub sized : SizesAll n parent size
  pub seated : Seating n parent place head size n spot next
  pub ended : Laid 0 n spot (λ v. at spot v + at size v) stops
  pub top : Laid 1 n spot (λ v. at spot (at head v)) heads
  pub above : Laid 1 n spot (λ v. at spot (at parent v)) parents
  pub named : Laid 0 n spot (λ v. v) names

module _ {n : ℕ} {parent order place head size spot next : List ℕ} (g : Grown n parent order place)
    (h : HeadsAll n parent head) (z : SizesAll n parent size) (s : Seating n parent place head size n spot next) where
  -- a node's spot is its own, so nothing laid out is overwritten
  pub layable : Layable n parent head size spot
  layable =
      record {
        spots = spots.spots_of g h z s;
        spans = λ v b. s.ends v b (g.here v b).0;
        heads = λ v l b. fits_up (grown_tree g) b (head_above (h.each v b));
        parents = λ v l b. g.fits v b (omega arith);
      }

  pub numbering : {d w stops heads parents names far heavy : List ℕ}
      → LaidOut n parent head size spot d w stops heads parents names far heavy
      → Numbering n parent place spot stops heads parents names
  numbering o =
      record {
        head = head;
        size = size;
        next = next;
        headed = h;
        sized = z;
        seated = s;
        ended = o.ended;
        top = o.top;
        above = o.above;
        named = o.named;
      }

module _ {n : ℕ} {parent order place spot stops heads parents names : List ℕ} (g : Grown n parent order place)
    (m : Numbering n parent place spot stops heads parents names) where
  T : Tree n (at parent) (at place)
  T = grown_tree g

  -- where a node's span ends
  abbrev pub End : ℕ → ℕ
  End x = at spot x + at m.size x

  nest : {p c : ℕ} → Child n (at parent) p c → (at spot p < at spot c) × (End c ≤ End p)
  nest = spots.nest g m.headed m.sized m.seated

  pub nest_up : {t x : ℕ} → x < n → Above (at parent) t x → (at spot t ≤ at spot x) × (End x ≤ End t)
  nest_up = spots.nest_up g m.headed m.sized m.seated

  pub size_some : (x : ℕ) → x < n → 0 < at m.size x
  size_some = spots.size_some g m.headed m.sized m.seated

  pub spot_one : (x y : ℕ) → x < n → y < n → at spot x ≡ at spot y → x ≡ y
  spot_one = spots.spot_one g m.headed m.sized m.seated

  pub span_above : (t x : ℕ) → t < n → x < n → at spot t ≤ at spot x → at spot x < End t → Above (at parent) t x
  span_above = spots.span_above g m.headed m.sized m.seated

  pub spots_of : Spots n spot
  spots_of = spots.spots_of g m.headed m.sized m.seated

  onto : (t s : ℕ) → t < n → at spot t ≤ s → s < End t → (x : ℕ) × ((x < n) × Above (at parent) t x) × (at spot x ≡ s)
  onto = spots.onto g m.headed m.sized m.seated

  root : at spot 0 ≡ 0
  root = m.seated.root

  all_in : End 0 ≡ n
  all_in = omega (arith, root, spots.root_size g m.headed m.sized m.seated)

  end_in : (x : ℕ) → x < n → End x ≤ n
  end_in x b = m.seated.ends x b (g.here x b).0

  kid : (v : ℕ) → v < n → v ≢ 0 → Child n (at parent) (at parent v) v
  kid v b z = record { fits = b; low = z; of = refl }

  pub by_spot : (P : ℕ → Type 0) → ((v : ℕ) → v < n → P (at spot v)) → (s : ℕ) → s < n → P s
  by_spot = spots.by_spot g m.headed m.sized m.seated

  not_root : (v : ℕ) → 0 < at spot v → v ≢ 0
  not_root v h e = omega (arith, root, ap (at spot) e)

  -- the arrays at a node's spot
  pub stop_at : (v : ℕ) → v < n → at stops (at spot v) ≡ End v
  stop_at v b = m.ended.each v (omega arith) b

  pub name_at : (v : ℕ) → v < n → at names (at spot v) ≡ v
  name_at v b = m.named.each v (omega arith) b

  parent_at : (v : ℕ) → v < n → v ≢ 0 → at parents (at spot v) ≡ at spot (at parent v)
  parent_at v b z = m.above.each v (omega arith) b

  head_at : (v : ℕ) → v < n → at heads (at spot v) ≡ at spot (at m.head v)
  head_at v b = pick (ℕ_discrete v 0)
    where
      pick : Dec (v ≡ 0) → at heads (at spot v) ≡ at spot (at m.head v)
      pick (yes e) =
          rw (e, head_root g m.headed, root)
          (m.top.rest 0 (omega arith) (spots.off_root g m.headed m.sized m.seated))
      pick (no z) = m.top.each v (omega arith) b

  -- the child of p that begins where x, below p, stands, if nothing of another child lies before
  begins : (p x c : ℕ) → x < n → Child n (at parent) p c → Above (at parent) c x → at spot x ≤ at spot c
      → at parents (at spot x) ≡ at spot p
  begins p x c b k a l =
      let e : c ≡ x = spot_one c x k.fits b (omega (arith, (nest_up b a).0)) in
      let k' : Child n (at parent) p x = rw e at k in
      parent_at x b k'.low ∙ ap (at spot) k'.of

  first_at : (v : ℕ) → v < n → at spot v + 1 < at stops (at spot v) → at parents (at spot v + 1) ≡ at spot v
  first_at v b h = after (onto v (at spot v + 1) b (omega arith) (omega (arith, stop_at v b)))
    where
      after : (x : ℕ) × ((x < n) × Above (at parent) v x) × (at spot x ≡ at spot v + 1)
          → at parents (at spot v + 1) ≡ at spot v
      after t =
          let c = via T t.1.0 t.1.1 (λ e. omega (arith, t.2, ap (at spot) e)) in
          rw t.2 at (begins v t.0 c.0 t.1.0 c.1 c.2 (omega (arith, t.2, (nest c.1).0)))

  next_at : (v : ℕ) → v < n → v ≢ 0 → End v < End (at parent v) → at parents (End v) ≡ at spot (at parent v)
  next_at v b z h = after (onto p (End v) (child_fits T k) (omega (arith, (nest k).0)) h)
    where
      p : ℕ
      p = at parent v

      k : Child n (at parent) (at parent v) v
      k = kid v b z

      after : (x : ℕ) × ((x < n) × Above (at parent) (at parent v) x) × (at spot x ≡ End v)
          → at parents (End v) ≡ at spot (at parent v)
      after t =
          let c = via T t.1.0 t.1.1 (λ e. omega (arith, t.2, (nest k).0, ap (at spot) e)) in
          rw t.2 at (begins (at parent v) t.0 c.0 t.1.0 c.1 c.2 (side c (ℕ_discrete c.0 v)))
        where
          side : (c : (c : ℕ) × Child n (at parent) (at parent v) c × Above (at parent) c t.0) → Dec (c.0 ≡ v)
              → at spot t.0 ≤ at spot c.0
          side c (yes e) =
              let a : Above (at parent) v t.0 = rw e at c.2 in
              absurd (omega (arith, (nest_up t.1.0 a).1, t.2, size_some t.0 t.1.0))
          side c (no o) = pick (spots.apart g m.headed m.sized m.seated c.1 k o)
            where
              pick : (End c.0 ≤ at spot v) ⊎ (End v ≤ at spot c.0) → at spot t.0 ≤ at spot c.0
              pick (inl u) = absurd (omega (arith, u, (nest_up t.1.0 c.2).1, t.2, size_some v b))
              pick (inr u) = omega (arith, u, t.2)

  -- at a node that is not the root: its end and its parent's, as the arrays have them
  ends_at : (v : ℕ) → v < n → v ≢ 0 → at stops (at parents (at spot v)) ≡ End (at parent v)
  ends_at v b z = rw (parent_at v b z) (stop_at (at parent v) (g.fits v b z))

  last_at : (v : ℕ) → v < n → v ≢ 0 → End v ≡ End (at parent v)
      → at heads (at spot v) ≡ at heads (at parents (at spot v))
  last_at v b z e = pick (ℕ_discrete (at m.head v) (at m.head (at parent v)))
    where
      pick : Dec (at m.head v ≡ at m.head (at parent v))
          → at heads (at spot v) ≡ at heads (at parents (at spot v))
      pick (yes h) = rw (parent_at v b z, head_at v b, head_at (at parent v) (g.fits v b z)) (ap (at spot) h)
      pick (no o) = absurd (omega (arith, e, spots.hung_less g m.headed m.sized m.seated (kid v b z) o))

  own_at : (v : ℕ) → v < n → v ≢ 0 → End v < End (at parent v) → at heads (at spot v) ≡ at spot v
  own_at v b z h = pick (ℕ_discrete (at m.head v) (at m.head (at parent v)))
    where
      pick : Dec (at m.head v ≡ at m.head (at parent v)) → at heads (at spot v) ≡ at spot v
      pick (yes e) = absurd (omega (arith, h, spots.main_end g m.headed m.sized m.seated (kid v b z) e))
      pick (no o) = head_at v b ∙ ap (at spot) (off_own g m.headed (kid v b z) o)

  pub numbered : Numbered stops heads parents n
  numbered =
      record {
        within = g.some.1;
        all = rw root at (stop_at 0 g.some.0) ∙ (omega (arith, all_in, root));
        top = rw (head_root g m.headed, root) at (head_at 0 g.some.0);
        grows = by_spot (λ s. s < at stops s) (λ v b. omega (arith, stop_at v b, size_some v b));
        ends = by_spot (λ s. at stops s ≤ n) (λ v b. omega (arith, stop_at v b, end_in v b));
        heads = by_spot (λ s. at heads s ≤ s)
            (λ v b. omega (arith, head_at v b, (nest_up b (head_above (m.headed.each v b))).0));
        first = by_spot (λ s. s + 1 < at stops s → at parents (s + 1) ≡ s) first_at;
        inside = λ s o b. by_spot (λ s. 0 < s → at stops s ≤ at stops (at parents s))
            (λ v b h. let z = not_root v h in omega (arith, stop_at v b, ends_at v b z, (nest (kid v b z)).1)) s b o;
        last = λ s o b. by_spot
            (λ s. 0 < s → at stops s ≡ at stops (at parents s) → at heads s ≡ at heads (at parents s))
            (λ v b h e. let z = not_root v h in last_at v b z (sym (stop_at v b) ∙ e ∙ ends_at v b z)) s b o;
        own = λ s o b. by_spot (λ s. 0 < s → at stops s < at stops (at parents s) → at heads s ≡ s)
            (λ v b h l. let z = not_root v h in own_at v b z (omega (arith, l, stop_at v b, ends_at v b z))) s b o;
        next = λ s o b. by_spot
            (λ s. 0 < s → at stops s < at stops (at parents s) → at parents (at stops s) ≡ at parents s)
            (λ v b h l.
            let z = not_root v h in
            rw (stop_at v b, parent_at v b z) (next_at v b z (omega (arith, l, stop_at v b, ends_at v b z))))
            s b o;
      }

  pub nested : Nested stops parents n
  nested =
      record {
        up = λ s o b. by_spot (λ s. 0 < s → at parents s < s)
            (λ v b h. let z = not_root v h in omega (arith, parent_at v b z, (nest (kid v b z)).0)) s b o;
        shut = λ k a l b h. by_spot (λ k. k ≤ a → a < at stops k → at stops a ≤ at stops k)
            (λ t c. by_spot (λ a. at spot t ≤ a → a < at stops (at spot t) → at stops a ≤ at stops (at spot t))
            (λ x d i j. omega (
              arith,
              stop_at t c,
              stop_at x d,
              (nest_up d (span_above t x c d i (omega (arith, j, stop_at t c)))).1,
            ))
            a b)
            k (omega arith) l h;
        above = λ a k l b h. by_spot (λ a. a < k → k < at stops a → a ≤ at parents k)
            (λ t c. by_spot (λ k. at spot t < k → k < at stops (at spot t) → at spot t ≤ at parents k)
            (λ x d i j. over t x c d i (omega (arith, j, stop_at t c))) k b)
            a (omega arith) l h;
      }
    where
      over : (t x : ℕ) → t < n → x < n → at spot t < at spot x → at spot x < End t → at spot t ≤ at parents (at spot x)
      over t x c d i j = pick (above_inv (span_above t x c d (omega arith) j))
        where
          pick : (t ≡ x) ⊎ ((x ≢ 0) × Above (at parent) t (at parent x)) → at spot t ≤ at parents (at spot x)
          pick (inl e) = absurd (omega (arith, ap (at spot) e))
          pick (inr s) = omega (arith, parent_at x d s.0, (nest_up (g.fits x d s.0) s.1).0)

  pub part : Part stops heads parents 0 0 n
  part = numbered_part stops heads parents n numbered g.some.0
