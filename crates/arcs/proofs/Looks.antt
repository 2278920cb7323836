-- One look through the arcs of B for the opposites of a chunk of A. Each arc of B looks its opposite up once, and a
-- place is marked where it is found. So two arcs that are the same find one place twice; a repeat in the chunk is never
-- found; and once every place is marked, each arc of the chunk has its one opposite in B.
use Prim.Native.Nat.{ℕ, ◌+◌, ◌-◌, ◌≤◌, ◌<◌}
use mathlib.Core.Path.{◌≡◌, sym, ◌∙◌}
use mathlib.Core.Bool.{Bool, true, false, true≢false, false≢true}
use mathlib.Core.Logic.{◌≢◌}
use mathlib.Core.List.{List}
use native.Mathlib.Omega.{arith}
use native.Mathlib.Decide.{ℕ_discrete, dec_lt}
use lib.ListN.{set, length-set}
use lib.Seq.{get_or-set_same, get_or-set_other}
use Rattle.arrays.specs.At.{at}
use Rattle.arrays.specs.work.Filled.{Filled}
use Rattle.arcs.specs.Arcs.{Arcs}
use Rattle.arcs.specs.work.Chunk.{arc_key, back_key, turned_key, key_at, number_at, LastAt, ChunkOf, WholeIn, Answers}
use Rattle.arcs.specs.work.Look.{Matches, MatchedBelow, LookedUp, ChunkIn, ArcsIn, Looked}
use Rattle.arcs.proofs.Keys.{back_is}
use Rattle.arcs.proofs.Chunks.{last_only, key_there, found_holds}

-- one arc of B more
module _ (strict : Bool) (B : Arcs) (k : ℕ) (chunk : List ℕ) where
  pub looked_none : {seen : List ℕ} → Filled 8192 0 seen → k ≤ 8192 → LookedUp strict B k chunk 0 seen
  looked_none f b = record {
    long = f.long;
    apart = λ h l. absurd (omega arith);
    marked = λ i l n. absurd (n (f.each i (omega arith)));
    every = λ h i l. absurd (omega arith);
    lone = λ i g h a l. absurd (omega arith);
    numbers = λ s h i l. absurd (omega arith);
  }

  looked_miss : (j : ℕ) (seen : List ℕ) → arc_key B j ≢ back_key B j → LastAt (key_at chunk) (back_key B j) k 0
      → LookedUp strict B k chunk j seen → LookedUp strict B k chunk (j + 1) seen
  looked_miss j seen a z s = record {
    long = s.long;
    apart = λ h l. pick_apart h l (ℕ_discrete h j);
    marked = λ i l n. let t = s.marked i l n in (t.0, omega (arith, t.1), t.2);
    every = λ h i l b f. pick_every h i l b f (ℕ_discrete h j);
    lone = λ i g h b l m p q. pick_lone i g h b l m p q (ℕ_discrete g j) (ℕ_discrete h j);
    numbers = λ t h i l b f. pick_num t h i l b f (ℕ_discrete h j);
  }
    where
      pick_apart : (h : ℕ) → h < j + 1 → Dec (h ≡ j) → arc_key B h ≢ back_key B h
      pick_apart h l (yes e) = rw e a
      pick_apart h l (no n) = s.apart h (omega arith)

      none : (i : ℕ) → LastAt (key_at chunk) (back_key B j) k (i + 1) → ⊥
      none i f = omega (arith, last_only (key_at chunk) z f)

      pick_every : (h i : ℕ) → h < j + 1 → i < k → LastAt (key_at chunk) (back_key B h) k (i + 1) → Dec (h ≡ j)
          → at seen i ≢ 0
      pick_every h i l b f (yes e) = absurd (none i (rw e at f))
      pick_every h i l b f (no n) = s.every h i (omega arith) b f

      miss : (i : ℕ) → i < k → back_key B j ≢ key_at chunk i
      miss i b p = z.none i (omega arith) b (sym p)

      pick_lone : (i g h : ℕ) → i < k → g < j + 1 → h < j + 1 → back_key B g ≡ key_at chunk i
          → back_key B h ≡ key_at chunk i → Dec (g ≡ j) → Dec (h ≡ j) → g ≡ h
      pick_lone i g h b l m p q (yes e) d = absurd (miss i b (rw e at p))
      pick_lone i g h b l m p q (no n) (yes e) = absurd (miss i b (rw e at q))
      pick_lone i g h b l m p q (no n) (no o) = s.lone i g h b (omega arith) (omega arith) p q

      pick_num : strict ≡ true → (h i : ℕ) → h < j + 1 → i < k → LastAt (key_at chunk) (back_key B h) k (i + 1)
          → Dec (h ≡ j) → B.number h ≡ number_at chunk i
      pick_num t h i l b f (yes e) = absurd (none i (rw e at f))
      pick_num t h i l b f (no n) = s.numbers t h i (omega arith) b f

  looked_hit : (j i₀ : ℕ) (seen : List ℕ) → arc_key B j ≢ back_key B j → LastAt (key_at chunk) (back_key B j) k (i₀ + 1)
      → k ≤ 8192 → at seen i₀ ≡ 0 → (strict ≡ true → B.number j ≡ number_at chunk i₀) → LookedUp strict B k chunk j seen
      → LookedUp strict B k chunk (j + 1) (set seen i₀ 1)
  looked_hit j i₀ seen a z few o u s = record {
    long = length-set seen i₀ 1 ∙ s.long;
    apart = λ h l. pick_apart h l (ℕ_discrete h j);
    marked = λ i l n. pick_marked i l n (ℕ_discrete i i₀);
    every = λ h i l b f. pick_every h i l b f (ℕ_discrete h j);
    lone = λ i g h b l m p q. pick_lone i g h b l m p q (ℕ_discrete g j) (ℕ_discrete h j);
    numbers = λ t h i l b f. pick_num t h i l b f (ℕ_discrete h j);
  }
    where
      pick_apart : (h : ℕ) → h < j + 1 → Dec (h ≡ j) → arc_key B h ≢ back_key B h
      pick_apart h l (yes e) = rw e a
      pick_apart h l (no n) = s.apart h (omega arith)

      one : at (set seen i₀ 1) i₀ ≡ 1
      one = get_or-set_same seen i₀ 1 0 (omega (arith, s.long, z.below))

      pick_marked : (i : ℕ) → i < k → at (set seen i₀ 1) i ≢ 0 → Dec (i ≡ i₀)
          → (h : ℕ) × (h < j + 1) × LastAt (key_at chunk) (back_key B h) k (i + 1)
      pick_marked i l n (yes e) = (j, omega arith, rw e z)
      pick_marked i l n (no m) =
          let t = s.marked i l (λ q. n (get_or-set_other seen i₀ i 1 0 m ∙ q)) in
          (t.0, omega (arith, t.1), t.2)

      keep : (i : ℕ) → at seen i ≢ 0 → Dec (i ≡ i₀) → at (set seen i₀ 1) i ≢ 0
      keep i n (yes e) = λ q. omega (arith, sym one ∙ rw e at q)
      keep i n (no m) = λ q. n (sym (get_or-set_other seen i₀ i 1 0 m) ∙ q)

      place : (i : ℕ) → LastAt (key_at chunk) (back_key B j) k (i + 1) → i ≡ i₀
      place i f = omega (arith, last_only (key_at chunk) z f)

      pick_every : (h i : ℕ) → h < j + 1 → i < k → LastAt (key_at chunk) (back_key B h) k (i + 1) → Dec (h ≡ j)
          → at (set seen i₀ 1) i ≢ 0
      pick_every h i l b f (yes e) = rw (place i (rw e at f)) (λ q. omega (arith, sym one ∙ q))
      pick_every h i l b f (no n) = keep i (s.every h i (omega arith) b f) (ℕ_discrete i i₀)

      -- an earlier arc with the same nodes would have found the same place
      first_time : (g i : ℕ) → g < j → back_key B g ≡ key_at chunk i → back_key B j ≡ key_at chunk i → ⊥
      first_time g i l p q = s.every g i₀ l (omega (arith, z.below)) (rw (p ∙ sym q) z) o

      pick_lone : (i g h : ℕ) → i < k → g < j + 1 → h < j + 1 → back_key B g ≡ key_at chunk i
          → back_key B h ≡ key_at chunk i → Dec (g ≡ j) → Dec (h ≡ j) → g ≡ h
      pick_lone i g h b l m p q (yes e) (yes f) = e ∙ sym f
      pick_lone i g h b l m p q (yes e) (no n) = absurd (first_time h i (omega arith) q (rw e at p))
      pick_lone i g h b l m p q (no n) (yes e) = absurd (first_time g i (omega arith) p (rw e at q))
      pick_lone i g h b l m p q (no n) (no o) = s.lone i g h b (omega arith) (omega arith) p q

      pick_num : strict ≡ true → (h i : ℕ) → h < j + 1 → i < k → LastAt (key_at chunk) (back_key B h) k (i + 1)
          → Dec (h ≡ j) → B.number h ≡ number_at chunk i
      pick_num t h i l b f (yes e) = rw (e, place i (rw e at f)) (u t)
      pick_num t h i l b f (no n) = s.numbers t h i (omega arith) b f

  -- a place found twice, or another number there
  unfit : (j i : ℕ) (seen : List ℕ) → j < B.count → LastAt (key_at chunk) (back_key B j) k (i + 1)
      → ¬ ((at seen i ≡ 0) × (strict ≡ true → B.number j ≡ number_at chunk i)) → LookedUp strict B k chunk j seen
      → (A : Arcs) (from : ℕ) → ChunkOf A from k chunk → ¬ Matches strict A B
  unfit j i seen l z n s A from c g = n (free (ℕ_discrete (at seen i) 0), equal)
    where
      key : key_at chunk i ≡ arc_key A (from + i)
      key = c.key_is i (omega (arith, z.below))

      arc : back_key B j ≡ arc_key A (from + i)
      arc = sym (found_holds (key_at chunk) i z) ∙ key

      free : Dec (at seen i ≡ 0) → at seen i ≡ 0
      free (yes e) = e
      free (no m) =
          let t = s.marked i (omega (arith, z.below)) m in
          let p = sym (found_holds (key_at chunk) i t.2) ∙ key in
          let o = g.lone (from + i) t.0 j (omega (arith, c.within, z.below)) (omega (arith, t.1)) l p arc in
          absurd (omega (arith, t.1, o))

      equal : strict ≡ true → B.number j ≡ number_at chunk i
      equal t =
          g.numbers t (from + i) j (omega (arith, c.within, z.below)) l arc
          ∙ sym (c.number_is i (omega (arith, z.below)))

-- the arcs of one chunk, looked up in another one by one
pub record Looking (strict : Bool) (many : ℕ) (others : List ℕ) (k : ℕ) (chunk old : List ℕ) (t : ℕ) (seen
    : List ℕ) : Type 0 where
  pub so_far : (B : Arcs) (start : ℕ) → ChunkOf B start many others → LookedUp strict B k chunk start old
      → LookedUp strict B k chunk (start + t) seen

module _ (strict : Bool) (many : ℕ) (others : List ℕ) (k : ℕ) (chunk old : List ℕ) where
  pub looking_none : Looking strict many others k chunk old 0 old
  looking_none = record { so_far = λ B start c l. let e : start + 0 ≡ start = omega arith in rw (e) l }

  -- an arc's key and its opposite's
  arc_key_lem : {B : Arcs} {start : ℕ} (t : ℕ) → t < many → ChunkOf B start many others
      → key_at others t ≡ arc_key B (start + t)
  arc_key_lem t l c = c.key_is t l

  opposite_key : {B : Arcs} {start : ℕ} (t y : ℕ) → t < many → y ≡ turned_key (key_at others t)
      → ChunkOf B start many others → y ≡ back_key B (start + t)
  opposite_key {B} {start} t y l e c = back_is B (start + t) (key_at others t) (c.key_is t l) (c.fits t l) e

  apart : {B : Arcs} {start : ℕ} (t y : ℕ) → t < many → y ≡ turned_key (key_at others t) → key_at others t ≢ y
      → ChunkOf B start many others → arc_key B (start + t) ≢ back_key B (start + t)
  apart t y l e n c q = n (arc_key_lem t l c ∙ q ∙ sym (opposite_key t y l e c))

  -- a fault: from a node to itself
  pub in_loop : (t y : ℕ) → t < many → y ≡ turned_key (key_at others t) → key_at others t ≡ y → {after : List ℕ}
      → ChunkIn strict many others k chunk old after false
  in_loop t y l e q =
      record { there = λ h. absurd (false≢true h); fault = λ _ B start c w A from d g. none B start c A g }
    where
      none : (B : Arcs) (start : ℕ) → ChunkOf B start many others → (A : Arcs) → Matches strict A B → ⊥
      none B start c A g =
          g.apart (start + t) (omega (arith, c.within)) (sym (arc_key_lem t l c) ∙ q ∙ opposite_key t y l e c)

  module _ (t y : ℕ) (seen : List ℕ) (l : t < many) (e : y ≡ turned_key (key_at others t))
      (s : Looking strict many others k chunk old t seen) where
    pub looking_miss : key_at others t ≢ y → LastAt (key_at chunk) y k 0
        → Looking strict many others k chunk old (t + 1) seen
    looking_miss n z = record { so_far = λ B start c w. more B start c (s.so_far B start c w) }
      where
        more : (B : Arcs) (start : ℕ) → ChunkOf B start many others
            → LookedUp strict B k chunk (start + t) seen → LookedUp strict B k chunk (start + (t + 1)) seen
        more B start c w =
            let q : start + (t + 1) ≡ start + t + 1 = omega arith in
            rw (q)
            (looked_miss strict B k chunk (start + t) seen (apart t y l e n c)
            (key_there (key_at chunk) (opposite_key t y l e c) z) w)

    pub looking_hit : (i : ℕ) → key_at others t ≢ y → LastAt (key_at chunk) y k (i + 1) → k ≤ 8192 → at seen i ≡ 0
        → (strict ≡ true → number_at others t ≡ number_at chunk i)
        → Looking strict many others k chunk old (t + 1) (set seen i 1)
    looking_hit i n z few f u = record { so_far = λ B start c w. more B start c (s.so_far B start c w) }
      where
        more : (B : Arcs) (start : ℕ) → ChunkOf B start many others
            → LookedUp strict B k chunk (start + t) seen
            → LookedUp strict B k chunk (start + (t + 1)) (set seen i 1)
        more B start c w =
            let q : start + (t + 1) ≡ start + t + 1 = omega arith in
            rw (q)
            (looked_hit strict B k chunk (start + t) i seen (apart t y l e n c)
            (key_there (key_at chunk) (opposite_key t y l e c) z) few f (λ h. sym (c.number_is t l) ∙ u h) w)

    -- a fault: a place that is marked already, or has another number
    pub in_unfit : (i : ℕ) → LastAt (key_at chunk) y k (i + 1)
        → ¬ ((at seen i ≡ 0) × (strict ≡ true → number_at others t ≡ number_at chunk i)) → {after : List ℕ}
        → ChunkIn strict many others k chunk old after false
    in_unfit i z n =
        record { there = λ h. absurd (false≢true h); fault = λ _ B start c w. none B start c (s.so_far B start c w) }
      where
        none : (B : Arcs) (start : ℕ) → ChunkOf B start many others
            → LookedUp strict B k chunk (start + t) seen → (A : Arcs) (from : ℕ) → ChunkOf A from k chunk
            → ¬ Matches strict A B
        none B start c w =
            unfit strict B k chunk (start + t) i seen (omega (arith, c.within))
            (key_there (key_at chunk) (opposite_key t y l e c) z) (λ h. n (h.0, λ g. c.number_is t l ∙ h.1 g)) w

  pub in_all : (t : ℕ) (seen : List ℕ) → t ≡ many → Looking strict many others k chunk old t seen
      → ChunkIn strict many others k chunk old seen true
  in_all t seen e s = record { there = λ _. rw (e) at s.so_far; fault = λ h. absurd (true≢false h) }

-- from the marks to the arcs of the chunk
module _ (strict : Bool) (B : Arcs) (k : ℕ) (chunk seen : List ℕ) where
  -- a place that no arc found
  unseen : (A : Arcs) (start : ℕ) → ChunkOf A start k chunk → LookedUp strict B k chunk B.count seen
      → Matches strict A B → (i : ℕ) → i < k → at seen i ≢ 0
  unseen A start c s g i l =
      let t = g.each (start + i) (omega (arith, c.within)) in
      s.every t.0 i t.1 l (last t.0 t.2)
    where
      last : (h : ℕ) → back_key B h ≡ arc_key A (start + i) → LastAt (key_at chunk) (back_key B h) k (i + 1)
      last h p = record {
        below = omega arith;
        hit = λ _. let e : i + 1 - 1 ≡ i = omega arith in rw (e) (c.key_is i l ∙ sym p);
        none = λ x a b q. omega (
          arith,
          g.once (start + x) (start + i) (omega (arith, c.within)) (omega (arith, c.within))
              (sym (c.key_is x b) ∙ q ∙ p),
        );
      }

  matched_more : (A : Arcs) (start : ℕ) → ChunkOf A start k chunk → LookedUp strict B k chunk B.count seen
      → ((i : ℕ) → i < k → at seen i ≢ 0) → MatchedBelow strict A B start → MatchedBelow strict A B (start + k)
  matched_more A start c s all m = record {
    apart = λ _. s.apart;
    each = λ i l. each i l (dec_lt i start);
    lone = λ i g h l a b p q. lone i g h l a b p q (dec_lt i start);
    numbers = λ t i j l a p. numbers t i j l a p (dec_lt i start);
  }
    where
      is : (i : ℕ) → i < start + k → ¬ (i < start) → key_at chunk (i - start) ≡ arc_key A i
      is i l n =
          let e : start + (i - start) ≡ i = omega arith in
          rw (e) at (c.key_is (i - start) (omega arith))

      hit : (x h : ℕ) → LastAt (key_at chunk) (back_key B h) k (x + 1) → back_key B h ≡ key_at chunk x
      hit x h z = sym (found_holds (key_at chunk) x z)

      each : (i : ℕ) → i < start + k → Dec (i < start) → (j : ℕ) × (j < B.count) × (back_key B j ≡ arc_key A i)
      each i l (yes h) = m.each i h
      each i l (no n) =
          let t = s.marked (i - start) (omega arith) (all (i - start) (omega arith)) in
          (t.0, t.1, hit (i - start) t.0 t.2 ∙ is i l n)

      lone : (i g h : ℕ) → i < start + k → g < B.count → h < B.count → back_key B g ≡ arc_key A i
          → back_key B h ≡ arc_key A i → Dec (i < start) → g ≡ h
      lone i g h l a b p q (yes d) = m.lone i g h d a b p q
      lone i g h l a b p q (no n) =
          s.lone (i - start) g h (omega arith) a b (p ∙ sym (is i l n)) (q ∙ sym (is i l n))

      numbers : strict ≡ true → (i j : ℕ) → i < start + k → j < B.count → back_key B j ≡ arc_key A i → Dec (i < start)
          → B.number j ≡ A.number i
      numbers t i j l a p (yes d) = m.numbers t i j d a p
      numbers t i j l a p (no n) =
          let f = s.marked (i - start) (omega arith) (all (i - start) (omega arith)) in
          let e : j ≡ f.0 = lone i j f.0 l a f.1 p (hit (i - start) f.0 f.2 ∙ is i l n) (no n) in
          let q : start + (i - start) ≡ i = omega arith in
          rw (e)
          (s.numbers t f.0 (i - start) f.1 (omega arith) f.2
          ∙ rw (q) at (c.number_is (i - start) (omega arith)))

  -- all arcs are looked up, and it is told whether all places are marked
  pub arcs_in : {r : Bool} → LookedUp strict B k chunk B.count seen
      → Answers ((i : ℕ) → i < k → at seen i ≡ 0 → ⊥) r → ArcsIn strict B k chunk r
  arcs_in s d = record {
    there = λ e A start c m. matched_more A start c s (d.holds e) m;
    fault = λ e A start c g. d.fails e (unseen A start c s g);
  }

pub arcs_not_in : {strict : Bool} {B : Arcs} {k : ℕ} {chunk : List ℕ}
    → ((A : Arcs) (start : ℕ) → ChunkOf A start k chunk → ¬ Matches strict A B) → ArcsIn strict B k chunk false
arcs_not_in n = record { there = λ h. absurd (false≢true h); fault = λ _. n }

-- the whole of A
pub matched_none : (strict : Bool) (A B : Arcs) → MatchedBelow strict A B 0
matched_none strict A B = record {
  apart = λ h. absurd (omega arith);
  each = λ i l. absurd (omega arith);
  lone = λ i g h l. absurd (omega arith);
  numbers = λ t i j l. absurd (omega arith);
}

pub looked_fault : (strict : Bool) (A B : Arcs) → ¬ Matches strict A B → Looked strict A B false
looked_fault strict A B n = record { there = λ h. absurd (false≢true h); fault = λ _. n }

pub looked_all : (strict : Bool) (A B : Arcs) (e : ℕ) → e ≡ A.count → MatchedBelow strict A B e
    → Looked strict A B true
looked_all strict A B e q m = record { there = λ _. rw (q) at m; fault = λ h. absurd (true≢false h) }

-- in one chunk
pub looked_whole : {strict : Bool} {A B : Arcs} {k : ℕ} {chunk : List ℕ} {r : Bool} → WholeIn A k chunk
    → ArcsIn strict B k chunk r → Looked strict A B r
looked_whole {strict} {A} {B} {k} w d =
    let q : 0 + k ≡ A.count = omega (arith, w.all) in
    record {
      there = λ h. rw (q) at (d.there h A 0 w.stands (matched_none strict A B));
      fault = λ h. d.fault h A 0 w.stands;
    }

-- the look of a text that stands whole in one chunk
module _ {strict : Bool} {many : ℕ} {others : List ℕ} {k : ℕ} {chunk old seen : List ℕ} {r : Bool}
    (n : Filled 8192 0 old) (few : k ≤ 8192) (i : ChunkIn strict many others k chunk old seen r) where
  pub whole_fault : r ≡ false → (B : Arcs) → WholeIn B many others → ArcsIn strict B k chunk false
  whole_fault e B w = arcs_not_in (i.fault e B 0 w.stands (looked_none strict B k chunk n few))

  pub whole_told : r ≡ true → {q : Bool} → Answers ((i : ℕ) → i < k → at seen i ≡ 0 → ⊥) q → (B : Arcs)
      → WholeIn B many others → ArcsIn strict B k chunk q
  whole_told e t B w =
      let h = i.there e B 0 w.stands (looked_none strict B k chunk n few) in
      let p : 0 + many ≡ B.count = omega (arith, w.all) in
      arcs_in strict B k chunk seen (rw (p) at h) t
