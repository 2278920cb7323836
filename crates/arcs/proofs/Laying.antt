-- The rows laid one after the other. Of two texts that name the same branches, the nodes of each arc of the first stand
-- in the second's chunk, either way round, and are found there. The places of first arcs are marked, so an arc is its
-- branch's first exactly if the place of its opposite is not marked yet; then its row comes next, with the weight that
-- stands at its own place, and there is room for it, since the first arcs are half of at most 8,190.
use Prim.Native.Nat.{ℕ, ◌+◌, ◌-◌, ◌*◌, ◌/◌, ◌%◌, ◌≤◌, ◌<◌}
use mathlib.Core.Path.{◌≡◌, refl, sym, ap, ◌∙◌}
use mathlib.Core.Logic.{inl, ◌≢◌}
use mathlib.Core.List.{List, [], ◌∷◌, ◌++◌}
use native.Mathlib.Omega.{arith}
use native.Mathlib.Numerals.{add-one}
use native.Mathlib.Decide.{ℕ_discrete}
use lib.ListN.{length, set, length-set, length-append}
use lib.Seq.{sets, get_or-set_same, get_or-set_other}
use Rattle.std.proofs.Common.{Option, Some, None}
use Rattle.std.specs.Option.{IsSome}
use Rattle.arrays.specs.At.{at}
use Rattle.arrays.specs.work.Filled.{Filled}
use Rattle.arcs.specs.Arcs.{Arcs, Paired}
use Rattle.arcs.specs.Made.{Earlier, Firsts, again, RowFields, BranchRow, BranchRows, row_bytes, rows_bytes}
use Rattle.arcs.specs.Made as made
use Rattle.arcs.specs.work.Chunk.{arc_key, back_key, turned_key, key_at, number_at, NodesFit, WholeIn, link, LastAt}
use Rattle.arcs.specs.work.Lay.{arc_fields, RowsLaid, FirstsMarked, LayReady}
use Rattle.arcs.proofs.Keys.{same_from, same_to, back_from, back_to, flip, back_key_lem, key_from, key_to, back_is}
use Rattle.arcs.proofs.Chunks.{last_only, key_there, found_holds, found_some}
use Rattle.arcs.proofs.Pairs.{names_covers}
use Rattle.arcs.proofs.Halves.{earlier_back, back_earlier, earlier_first, room}
use Rattle.arcs.proofs.RowBytes.{rows_sets}
use Rattle.arcs.proofs.Branches.{branch_rows_long, branch_rows_snoc}

linked : (r : Option ℕ) → 0 < link r → IsSome r
linked None h = absurd (omega arith)
linked (Some x) h = grind arith

-- a chunk that begins with arc 0
module _ {A : Arcs} {m : ℕ} (chunk : List ℕ) (w : WholeIn A m chunk) (j : ℕ) (l : j < m) where
  zero_add : 0 + j ≡ j
  zero_add = omega arith

  whole_key : key_at chunk j ≡ arc_key A j
  whole_key = rw (zero_add) at (w.stands.key_is j l)

  whole_fits : A.to j < 65536
  whole_fits = rw (zero_add) at (w.stands.fits j l)

  whole_from : key_at chunk j / 65536 ≡ A.from j
  whole_from = key_from A j (key_at chunk j) whole_key whole_fits

  whole_to : key_at chunk j % 65536 ≡ A.to j
  whole_to = key_to A j (key_at chunk j) whole_key whole_fits

  whole_number : number_at chunk j ≡ A.number j
  whole_number = rw (zero_add) at (w.stands.number_is j l)

  whole_back : turned_key (key_at chunk j) ≡ back_key A j
  whole_back = back_is A j (key_at chunk j) whole_key whole_fits refl

-- marks
module _ (L : Arcs) (k : ℕ) (chunk : List ℕ) where
  marks_none : {seen : List ℕ} → Filled 8192 0 seen → k ≤ 8192 → FirstsMarked L k chunk 0 seen
  marks_none f b = record {
    long = f.long;
    marked = λ i l n. absurd (n (f.each i (omega arith)));
    every = λ h i l. absurd (omega arith);
  }

  marks_again : (j : ℕ) (seen : List ℕ) → Earlier L j → FirstsMarked L k chunk j seen
      → FirstsMarked L k chunk (j + 1) seen
  marks_again j seen e s = record {
    long = s.long;
    marked = λ i l n. let t = s.marked i l n in (t.0, omega (arith, t.1), t.2);
    every = λ h i l n b f. pick h i l n b f (ℕ_discrete h j);
  }
    where
      pick : (h i : ℕ) → h < j + 1 → ¬ Earlier L h → i < k → LastAt (key_at chunk) (arc_key L h) k (i + 1) → Dec (h ≡ j)
          → at seen i ≢ 0
      pick h i l n b f (yes q) = absurd (n (rw (q) e))
      pick h i l n b f (no m) = s.every h i (omega arith) n b f

  marks_more : (j x : ℕ) (seen : List ℕ) → LastAt (key_at chunk) (arc_key L j) k (x + 1) → k ≤ 8192
      → FirstsMarked L k chunk j seen → FirstsMarked L k chunk (j + 1) (set seen x 1)
  marks_more j x seen z few s = record {
    long = length-set seen x 1 ∙ s.long;
    marked = λ i l n. pick_marked i l n (ℕ_discrete i x);
    every = λ h i l n b f. pick_every h i l n b f (ℕ_discrete h j);
  }
    where
      one : at (set seen x 1) x ≡ 1
      one = get_or-set_same seen x 1 0 (omega (arith, s.long, z.below))

      pick_marked : (i : ℕ) → i < k → at (set seen x 1) i ≢ 0 → Dec (i ≡ x)
          → (h : ℕ) × (h < j + 1) × (arc_key L h ≡ key_at chunk i)
      pick_marked i l n (yes e) = (j, omega arith, rw (e) (sym (found_holds (key_at chunk) x z)))
      pick_marked i l n (no m) =
          let t = s.marked i l (λ q. n (get_or-set_other seen x i 1 0 m ∙ q)) in
          (t.0, omega (arith, t.1), t.2)

      keep : (i : ℕ) → at seen i ≢ 0 → Dec (i ≡ x) → at (set seen x 1) i ≢ 0
      keep i n (yes e) = λ q. omega (arith, sym one ∙ rw e at q)
      keep i n (no m) = λ q. n (sym (get_or-set_other seen x i 1 0 m) ∙ q)

      place : (i : ℕ) → LastAt (key_at chunk) (arc_key L j) k (i + 1) → i ≡ x
      place i f = omega (arith, last_only (key_at chunk) z f)

      pick_every : (h i : ℕ) → h < j + 1 → ¬ Earlier L h → i < k → LastAt (key_at chunk) (arc_key L h) k (i + 1)
          → Dec (h ≡ j) → at (set seen x 1) i ≢ 0
      pick_every h i l n b f (yes e) = rw (place i (rw e at f)) (λ q. omega (arith, sym one ∙ q))
      pick_every h i l n b f (no m) = keep i (s.every h i (omega arith) n b f) (ℕ_discrete i x)

  module _ (fit : NodesFit L) (j y : ℕ) (seen : List ℕ) (l : j < L.count)
      (z : LastAt (key_at chunk) (back_key L j) k (y + 1)) (s : FirstsMarked L k chunk j seen) where
    -- the opposite's place is marked exactly if the opposite came before
    marks_earlier : at seen y ≢ 0 → Earlier L j
    marks_earlier n =
        let t = s.marked y (omega (arith, z.below)) n in
        let q : arc_key L t.0 ≡ back_key L j = t.2 ∙ found_holds (key_at chunk) y z in
        let b : t.0 < L.count = omega (arith, t.1) in
        back_earlier L t.1
        (record { leaves = back_from L L fit fit t.0 j b l q; leads = back_to L L fit fit t.0 j b l q })

    marks_fresh : Paired L → at seen y ≡ 0 → ¬ Earlier L j
    marks_fresh p o e =
        let b = earlier_back L p l e in
        let q : arc_key L e.arc ≡ back_key L j = back_key_lem L L e.arc j b.leaves b.leads in
        s.every e.arc y e.before (earlier_first L p l e) (omega (arith, z.below)) (rw (q) z) o

-- what is laid before arc j: c rows, and the marks
pub record LaidBefore (L M : Arcs) (m : ℕ) (weights old : List ℕ) (j c : ℕ) (seen new : List ℕ) : Type 0 where
  pub laid : RowsLaid L M j old new
  pub many : length laid.rows ≡ c
  pub marks : FirstsMarked L m weights j seen

-- whatever two texts stand in the chunks
pub record Laying (m : ℕ) (lengths weights first next old : List ℕ) (j c : ℕ) (seen new : List ℕ) : Type 0 where
  pub so_far : (L M : Arcs) → LayReady L M m lengths weights first next
      → LaidBefore L M m weights old j c seen new

module _ (m : ℕ) (lengths weights first next : List ℕ) where
  -- the nodes of each arc stand in the second chunk, either way round
  module _ (L M : Arcs) (rd : LayReady L M m lengths weights first next) (j : ℕ) (l : j < m) where
    low : j < L.count
    low = omega (arith, rd.left.all)

    cover : (i : ℕ) × (i < M.count) × (back_key M i ≡ arc_key L j)
    cover = names_covers L M rd.left.fit rd.right.fit rd.paired_too rd.same.there j low

    held_back : (i : ℕ) × (i < m) × (key_at weights i ≡ back_key L j)
    held_back =
        let t = cover in
        let b : t.0 < m = omega (arith, t.1, rd.right.all) in (
          t.0,
          b,
          whole_key weights rd.right t.0 b
              ∙ sym (flip L M rd.left.fit rd.right.fit j t.0 low t.1 (sym t.2)),
        )

    held : (i : ℕ) × (i < m) × (key_at weights i ≡ arc_key L j)
    held =
        let t = cover in
        let o = rd.paired_too.opposite t.0 t.1 in
        let b : o.0 < m = omega (arith, o.1.within, rd.right.all) in (
          o.0,
          b,
          whole_key weights rd.right o.0 b
              ∙ back_key_lem M M o.0 t.0 o.1.leaves o.1.leads
              ∙ t.2,
        )

    key_is_here : key_at lengths j ≡ arc_key L j
    key_is_here = whole_key lengths rd.left j l

    back_is_here : turned_key (key_at lengths j) ≡ back_key L j
    back_is_here = whole_back lengths rd.left j l

    pub key_found : (r : Option ℕ) → LastAt (key_at weights) (key_at lengths j) m (link r) → IsSome r
    key_found r z = linked r (found_some (key_at weights) held (rw (key_is_here) at z))

    pub back_found : (r : Option ℕ) → LastAt (key_at weights) (turned_key (key_at lengths j)) m (link r) → IsSome r
    back_found r z = linked r (found_some (key_at weights) held_back (rw (back_is_here) at z))

    pub ends_some : (1 ≤ key_at lengths j / 65536) × (1 ≤ key_at lengths j % 65536)
    ends_some = (
      rw (whole_from lengths rd.left j l) (rd.left.fit.from_low j low),
      rw (whole_to lengths rd.left j l) (rd.left.fit.to_low j low),
    )

    key_place : {x : ℕ} → LastAt (key_at weights) (key_at lengths j) m x → LastAt (key_at weights) (arc_key L j) m x
    key_place z = key_there (key_at weights) key_is_here z

    back_place : {y : ℕ} → LastAt (key_at weights) (turned_key (key_at lengths j)) m y
        → LastAt (key_at weights) (back_key L j) m y
    back_place z = key_there (key_at weights) back_is_here z

    row_here : (x : ℕ) → LastAt (key_at weights) (key_at lengths j) m (x + 1)
        → BranchRow L M j (arc_fields (at lengths j) (at weights x))
    row_here x z =
        let w = key_place z in
        let b : x < m = omega (arith, w.below) in
        let d : x < M.count = omega (arith, rd.right.all) in
        let e = sym (whole_key weights rd.right x b) ∙ found_holds (key_at weights) x w in
        record {
          first = ap (λ y. y - 1) (whole_from lengths rd.left j l);
          second = ap (λ y. y - 1) (whole_to lengths rd.left j l);
          long = whole_number lengths rd.left j l;
          arc = x;
          within = d;
          along = inl (
            same_from M L rd.right.fit rd.left.fit x j d low e,
            same_to M L rd.right.fit rd.left.fit x j d low e,
          );
          heavy = whole_number weights rd.right x b;
        }

module _ (m : ℕ) (lengths weights first next old : List ℕ) where
  pub laying_none : {seen : List ℕ} → Filled 8192 0 seen
      → Laying m lengths weights first next old 0 0 seen old
  unfolding rows_bytes
  laying_none f = record {
    so_far = λ L M rd. record {
      laid = record {
        firsts = [];
        order = made.Firsts.none;
        rows = [];
        each = made.BranchRows.none;
        is = refl;
      };
      many = refl;
      marks = marks_none L m weights f (omega (arith, rd.few));
    };
  }

  -- one turn
  module _ (j c y : ℕ) (seen new : List ℕ) (l : j < m)
      (q : LastAt (key_at weights) (turned_key (key_at lengths j)) m (y + 1))
      (s : Laying m lengths weights first next old j c seen new) where
    pub laying_again : at seen y ≢ 0 → Laying m lengths weights first next old (j + 1) c seen new
    laying_again o = record { so_far = λ L M rd. go L M rd (s.so_far L M rd) }
      where
        go : (L M : Arcs) → LayReady L M m lengths weights first next → LaidBefore L M m weights old j c seen new
            → LaidBefore L M m weights old (j + 1) c seen new
        go L M rd b =
            let z = back_place m lengths weights first next L M rd j l q in
            let w = marks_earlier L m weights rd.left.fit j y seen
            (low m lengths weights first next L M rd j l) z b.marks o in
            record {
              laid = record {
                firsts = b.laid.firsts;
                order = rw add-one (again b.laid.order w);
                rows = b.laid.rows;
                each = b.laid.each;
                is = b.laid.is;
              };
              many = b.many;
              marks = marks_again L m weights j seen w b.marks;
            }

    fresh : (L M : Arcs) (rd : LayReady L M m lengths weights first next) → at seen y ≡ 0 → ¬ Earlier L j
    fresh L M rd o =
        marks_fresh L m weights rd.left.fit j y seen (low m lengths weights first next L M rd j l)
        (back_place m lengths weights first next L M rd j l q) (s.so_far L M rd).marks rd.paired o

    pub laying_room : (L M : Arcs) → LayReady L M m lengths weights first next → at seen y ≡ 0 → c < 4095
    laying_room L M rd o =
        let b = s.so_far L M rd in
        let r = room L rd.paired (low m lengths weights first next L M rd j l) b.laid.order (fresh L M rd o) in
        omega (arith, r, branch_rows_long b.laid.each, b.many, rd.few, rd.left.all)

    pub laying_new : at seen y ≡ 0 → (x : ℕ) → LastAt (key_at weights) (key_at lengths j) m (x + 1) → (after : List ℕ)
        → after ≡ sets new (12 * c + 12) (row_bytes (arc_fields (at lengths j) (at weights x)))
        → Laying m lengths weights first next old (j + 1) (c + 1) (set seen x 1) after
    laying_new o x p after w = record { so_far = λ L M rd. go L M rd (s.so_far L M rd) }
      where
        f : RowFields
        f = arc_fields (at lengths j) (at weights x)

        go : (L M : Arcs) → LayReady L M m lengths weights first next → LaidBefore L M m weights old j c seen new
            → LaidBefore L M m weights old (j + 1) (c + 1) (set seen x 1) after
        go L M rd b = record {
          laid = record {
            firsts = b.laid.firsts ++ j ∷ [];
            order = rw add-one (made.Firsts.new b.laid.order (fresh L M rd o));
            rows = b.laid.rows ++ f ∷ [];
            each = branch_rows_snoc b.laid.each (row_here m lengths weights first next L M rd j l x p);
            is = w ∙ rw b.laid.is (rows_sets old b.laid.rows f c b.many);
          };
          many = omega (arith, b.many, length-append b.laid.rows (f ∷ []));
          marks = marks_more L m weights j x seen (key_place m lengths weights first next L M rd j l p)
              (omega (arith, rd.few)) b.marks;
        }

  pub laying_all : (j c : ℕ) (seen new : List ℕ) → j ≡ m
      → Laying m lengths weights first next old j c seen new → (L M : Arcs)
      → LayReady L M m lengths weights first next → RowsLaid L M L.count old new
  laying_all j c seen new e s L M rd =
      let q : j ≡ L.count = e ∙ rd.left.all in
      until q (s.so_far L M rd).laid
    where
      until : {L M : Arcs} {j k : ℕ} {old new : List ℕ} → j ≡ k → RowsLaid L M j old new → RowsLaid L M k old new
      until e x = rw (e) at x
