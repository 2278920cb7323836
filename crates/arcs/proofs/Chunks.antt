-- Chunks: arcs copied one by one, chained by buckets, and found by going down a chain. A chain's places fall, so the
-- place found is the last that holds the key, and where the chain ends no place holds it.
use Prim.Native.Nat.{ℕ, ◌+◌, ◌-◌, ◌/◌, ◌%◌, ◌≤◌, ◌<◌}
use mathlib.Core.Path.{◌≡◌, sym, ap, ◌∙◌}
use mathlib.Core.Bool.{true, false, true≢false, false≢true}
use mathlib.Core.Logic.{◌≢◌}
use mathlib.Core.List.{List}
use native.Mathlib.Omega.{arith}
use native.Mathlib.Decide.{ℕ_discrete, dec_lt}
use lib.ListN.{length, set, length-set}
use lib.Seq.{get_or-set_same, get_or-set_other}
use Rattle.arrays.specs.At.{at}
use Rattle.arrays.specs.work.Filled.{Filled}
use Rattle.arcs.specs.Arcs.{Arcs}
use Rattle.arcs.specs.work.Chunk.{arc_key, key_at, number_at, bucket, ChunkOf, LastAt, Buckets, Downward, Answers}

pub tells_true : {P : Type 0} → P → Answers P true
tells_true p = record { holds = λ _. p; fails = λ h. absurd (true≢false h) }

pub tells_false : {P : Type 0} → (P → ⊥) → Answers P false
tells_false n = record { holds = λ h. absurd (false≢true h); fails = λ _. n }

module _ (q : ℕ → ℕ) where
  pub last_none : (v : ℕ) → LastAt q v 0 0
  last_none v =
      record { below = omega arith; hit = λ h. absurd (omega arith); none = λ h a b. absurd (omega arith) }

  pub last_hit : (k v : ℕ) → q k ≡ v → LastAt q v (k + 1) (k + 1)
  last_hit k v e =
      let same : k + 1 - 1 ≡ k = omega arith in
      record { below = omega arith; hit = λ h. rw (same) e; none = λ h a b. absurd (omega arith) }

  pub last_miss : (k v x : ℕ) → q k ≢ v → LastAt q v k x → LastAt q v (k + 1) x
  last_miss k v x n l =
      record { below = omega (arith, l.below); hit = l.hit; none = λ h a b. pick h a b (ℕ_discrete h k) }
    where
      pick : (h : ℕ) → x ≤ h → h < k + 1 → Dec (h ≡ k) → q h ≢ v
      pick h a b (yes e) = rw e n
      pick h a b (no m) = l.none h a (omega arith)

  later : {v k x y : ℕ} → LastAt q v k x → LastAt q v k y → x < y → ⊥
  later {v} {k} {x} {y} a b h =
      a.none (y - 1) (omega arith) (omega (arith, b.below)) (b.hit (omega arith))

  -- there is one last place
  pub last_only : {v k x y : ℕ} → LastAt q v k x → LastAt q v k y → x ≡ y
  last_only {v} {k} {x} {y} a b = pick (dec_lt x y) (dec_lt y x)
    where
      pick : Dec (x < y) → Dec (y < x) → x ≡ y
      pick (yes h) d = absurd (later a b h)
      pick (no n) (yes h) = absurd (later b a h)
      pick (no n) (no m) = omega arith

  pub key_there : {v w k x : ℕ} → v ≡ w → LastAt q v k x → LastAt q w k x
  key_there e l = rw (e) at l

  -- what a place found holds
  pub found_holds : {v k : ℕ} (i : ℕ) → LastAt q v k (i + 1) → q i ≡ v
  found_holds i l = let e : i + 1 - 1 ≡ i = omega arith in rw (e) at (l.hit (omega arith))

  -- what stands there is found
  pub found_some : {v k x : ℕ} → ((i : ℕ) × (i < k) × (q i ≡ v)) → LastAt q v k x → 0 < x
  found_some {v} {k} {x} t l = pick (ℕ_discrete x 0)
    where
      pick : Dec (x ≡ 0) → 0 < x
      pick (yes e) = absurd (l.none t.0 (omega arith) t.1 t.2)
      pick (no n) = omega arith

module _ (chunk : List ℕ) where
  pub buckets_none : (first next : List ℕ) → Filled 8192 0 first → length next ≡ 8192 → Buckets chunk 0 first next
  buckets_none first next f m = record {
    few = omega arith;
    long_first = f.long;
    long_next = m;
    firsts = λ v h. rw (f.each v h) (last_none _ v);
    nexts = λ h b. absurd (omega arith);
  }

  pub buckets_more : (k v : ℕ) (first next : List ℕ) → k < 8192 → v ≡ bucket (key_at chunk k) → v < 8192
      → Buckets chunk k first next → Buckets chunk (k + 1) (set first v (k + 1)) (set next k (at first v))
  buckets_more k v first next b e fits c = record {
    few = omega arith;
    long_first = length-set first v _ ∙ c.long_first;
    long_next = length-set next k _ ∙ c.long_next;
    firsts = λ w h. pick_first w h (ℕ_discrete w v);
    nexts = λ h b. pick_next h b (ℕ_discrete h k);
  }
    where
      q : ℕ → ℕ
      q i = bucket (key_at chunk i)

      pick_first : (w : ℕ) → w < 8192 → Dec (w ≡ v) → LastAt q w (k + 1) (at (set first v (k + 1)) w)
      pick_first w h (yes p) =
          rw (p, get_or-set_same first v (k + 1) 0 (omega (arith, fits, c.long_first))) (last_hit q k v (sym e))
      pick_first w h (no m) =
          rw (get_or-set_other first v w (k + 1) 0 m) (last_miss q k w _ (λ p. m (sym p ∙ sym e)) (c.firsts w h))

      pick_next : (h : ℕ) → h < k + 1 → Dec (h ≡ k) → LastAt q (q h) h (at (set next k (at first v)) h)
      pick_next h b₁ (yes p) =
          rw (p, get_or-set_same next k (at first v) 0 (omega (arith, c.long_next)))
          (rw e (c.firsts (bucket (key_at chunk k)) (rw (sym e) fits)))
      pick_next h b₁ (no m) = rw (get_or-set_other next k h (at first v) 0 m) (c.nexts h (omega arith))

  -- down the chain for x
  pub down_first : (k x v : ℕ) (first next : List ℕ) → v ≡ bucket x → v < 8192 → Buckets chunk k first next
      → Downward chunk x k (at first v)
  down_first k x v first next e f c =
      let l = c.firsts v f in
      record { below = l.below; same = λ h. l.hit h ∙ e; none = λ h a b p. l.none h a b (ap bucket p ∙ sym e) }

  pub down_next : (k x i : ℕ) (first next : List ℕ) → Buckets chunk k first next → Downward chunk x k i → 0 < i
      → key_at chunk (i - 1) ≢ x → Downward chunk x k (at next (i - 1))
  down_next k x i first next c d s n =
      let l = c.nexts (i - 1) (omega (arith, d.below)) in
      record {
        below = omega (arith, l.below, d.below);
        same = λ h. l.hit h ∙ d.same s;
        none = λ h a b. pick h a b (ℕ_discrete h (i - 1)) (dec_lt h (i - 1));
      }
    where
      pick : (h : ℕ) → at next (i - 1) ≤ h → h < k → Dec (h ≡ i - 1) → Dec (h < i - 1) → key_at chunk h ≢ x
      pick h a b (yes e) t = rw e n
      pick h a b (no m) (yes t) = λ p.
          (c.nexts (i - 1) (omega (arith, d.below))).none h a t (ap bucket p ∙ sym (d.same s))
      pick h a b (no m) (no t) = d.none h (omega arith) b

  pub down_hit : (k x i : ℕ) → Downward chunk x k i → 0 < i → key_at chunk (i - 1) ≡ x → LastAt (key_at chunk) x k i
  down_hit k x i d s e = record { below = d.below; hit = λ h. e; none = d.none }

  pub down_miss : (k x i : ℕ) → Downward chunk x k i → i ≤ 0 → LastAt (key_at chunk) x k 0
  down_miss k x i d z = record {
    below = omega arith;
    hit = λ h. absurd (omega arith);
    none = λ h a b. d.none h (omega arith) b;
  }

-- copying
module _ (A : Arcs) (start : ℕ) where
  pub chunk_none : {chunk : List ℕ} → length chunk ≡ 8192 → start ≤ A.count → ChunkOf A start 0 chunk
  chunk_none r c = record {
    few = omega arith;
    within = omega arith;
    long = r;
    fits = λ i h. absurd (omega arith);
    key_is = λ i h. absurd (omega arith);
    number_is = λ i h. absurd (omega arith);
  }

  pub chunk_more : (k x : ℕ) (chunk : List ℕ) → k < 8192 → start + k < A.count → A.to (start + k) < 65536
      → x / 4294967296 ≡ arc_key A (start + k) → x % 4294967296 ≡ A.number (start + k) → ChunkOf A start k chunk
      → ChunkOf A start (k + 1) (set chunk k x)
  chunk_more k x chunk f w et ek en c = record {
    few = omega arith;
    within = omega arith;
    long = length-set chunk k x ∙ c.long;
    fits = λ i h. pick_to i h (ℕ_discrete i k);
    key_is = λ i h. pick_key i h (ℕ_discrete i k);
    number_is = λ i h. pick_number i h (ℕ_discrete i k);
  }
    where
      here : at (set chunk k x) k ≡ x
      here = get_or-set_same chunk k x 0 (omega (arith, c.long))

      pick_to : (i : ℕ) → i < k + 1 → Dec (i ≡ k) → A.to (start + i) < 65536
      pick_to i h (yes p) = rw (p) et
      pick_to i h (no m) = c.fits i (omega arith)

      pick_key : (i : ℕ) → i < k + 1 → Dec (i ≡ k) → key_at (set chunk k x) i ≡ arc_key A (start + i)
      pick_key i h (yes p) = rw (p, here) ek
      pick_key i h (no m) = rw (get_or-set_other chunk k i x 0 m) (c.key_is i (omega arith))

      pick_number : (i : ℕ) → i < k + 1 → Dec (i ≡ k) → number_at (set chunk k x) i ≡ A.number (start + i)
      pick_number i h (yes p) = rw (p, here) en
      pick_number i h (no m) = rw (get_or-set_other chunk k i x 0 m) (c.number_is i (omega arith))
