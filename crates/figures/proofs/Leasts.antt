-- The least over a span of places: of two spans side by side, of one place more in each table, and by the tables.
use Prim.Native.Nat.{ℕ, zero, suc, ◌+◌, ◌-◌, ◌*◌, ◌/◌, ◌%◌, ◌≤◌, ◌<◌, min}
use mathlib.Core.Path.{◌≡◌, refl, sym, ap, ◌∙◌}
use mathlib.Core.Logic.{◌≢◌}
use mathlib.Core.List.{List}
use native.Mathlib.Omega.{arith}
use native.Mathlib.Decide.{dec_lt, dec_le, ℕ_discrete}
use lib.ListN.{set, length-set}
use lib.Seq.{get_or-set_same, get_or-set_other}
use Rattle.arrays.specs.At.{at}
use Rattle.layout.specs.work.Spotted.{LeastOf}
use Rattle.figures.specs.work.Bins.{LeastOrNone, Tails, Fronts, Gaps, TailTurn, FrontTurn, GapTurn}
use Rattle.figures.specs.work.Bins.{LeastAsked}

pub least_none : {f : ℕ → ℕ} {a b : ℕ} → b ≤ a → LeastOrNone f a b 65535
least_none h = record { all = λ k l m. absurd (omega arith); some = λ l. absurd (omega arith) }

least_one : (f : ℕ → ℕ) (k : ℕ) → LeastOrNone f k (k + 1) (f k)
least_one f k = record { all = λ j l m. same j l m; some = λ l. (k, omega arith, omega arith, refl) }
  where
    same : (j : ℕ) → k ≤ j → j < k + 1 → f k ≤ f j
    same j l m = let e : j ≡ k = omega arith in omega (arith, ap f e)

-- two spans side by side
least_join : {f : ℕ → ℕ} {a b c x y r : ℕ} → a ≤ b → b ≤ c → LeastOrNone f a b x → LeastOrNone f b c y → r ≡ min x y
    → LeastOrNone f a c r
least_join {f} {a} {b} {c} {x} {y} {r} ab bc p q l =
    record { all = λ k i j. low k i j (dec_lt k b); some = λ s. from s (dec_lt x y) }
  where
    low : (k : ℕ) → a ≤ k → k < c → Dec (k < b) → r ≤ f k
    low k i j (yes m) = omega (arith, l, p.all k i m)
    low k i j (no m) = omega (arith, l, q.all k (omega arith) j)

    from : r < 65535 → Dec (x < y) → (k : ℕ) × (a ≤ k) × (k < c) × (f k ≡ r)
    from s (yes h) =
        let e : r ≡ x = omega arith in
        let t = p.some (omega (arith, e)) in
        (t.0, t.1, omega (arith, t.2), t.3 ∙ sym e)
    from s (no h) =
        let e : r ≡ y = omega arith in
        let t = q.some (omega (arith, e)) in
        (t.0, omega (arith, t.1), t.2, t.3 ∙ sym e)

same_span : {f : ℕ → ℕ} {a b c d m n : ℕ} → a ≡ c → b ≡ d → m ≡ n → LeastOrNone f a b m → LeastOrNone f c d n
same_span p q r h = rw (← p, ← q, ← r) h

-- where one of them is below 65535, what was found is the least
least_of : {f : ℕ → ℕ} {a b m : ℕ} → a ≤ b → f b < 65535 → LeastOrNone f a (b + 1) m → LeastOf f a b m
least_of {f} {a} {b} h s p =
    let t = p.some (omega (arith, p.all b h (omega arith))) in
    record { all = λ k i j. p.all k i (omega arith); some = (t.0, t.1, omega (arith, t.2), t.3) }

-- there is a least, and no other
pub least_some : (f : ℕ → ℕ) (a d : ℕ) → (m : ℕ) × LeastOf f a (a + d) m
least_some f a zero =
    let e : a + 0 ≡ a = omega arith in
    rw e (f a, record { all = λ k l h. same k (omega arith); some = (a, omega arith, omega arith, refl) })
  where
    same : (k : ℕ) → k ≡ a → f a ≤ f k
    same k e = omega (arith, ap f e)
least_some f a (suc d) = pick (least_some f a d) (dec_lt (f (a + suc d)) (least_some f a d).0)
  where
    pick : (t : (m : ℕ) × LeastOf f a (a + d) m) → Dec (f (a + suc d) < t.0) → (m : ℕ) × LeastOf f a (a + suc d) m
    pick t (yes h) = (
      f (a + suc d),
      record {
        all = λ k l u. low k l u (ℕ_discrete k (a + suc d));
        some = (a + suc d, omega arith, omega arith, refl);
      },
    )
      where
        low : (k : ℕ) → a ≤ k → k ≤ a + suc d → Dec (k ≡ a + suc d) → f (a + suc d) ≤ f k
        low k l u (yes e) = omega (arith, ap f e)
        low k l u (no n) = omega (arith, t.1.all k l (omega arith))
    pick t (no h) =
        let s = t.1.some in (
          t.0,
          record {
            all = λ k l u. low k l u (ℕ_discrete k (a + suc d));
            some = (s.0, s.1, omega (arith, s.2), s.3);
          },
        )
      where
        low : (k : ℕ) → a ≤ k → k ≤ a + suc d → Dec (k ≡ a + suc d) → t.0 ≤ f k
        low k l u (yes e) = omega (arith, ap f e)
        low k l u (no n) = t.1.all k l (omega arith)

pub least_only : {f : ℕ → ℕ} {a b m k : ℕ} → LeastOf f a b m → LeastOf f a b k → m ≡ k
least_only p q =
    let s = p.some in
    let t = q.some in
    omega (arith, p.all t.0 t.1 t.2, t.3, q.all s.0 s.1 s.2, s.3)

module _ {above : List ℕ} where
  -- one place more
  tail_step : {tail : List ℕ} {i x r : ℕ} → i < 4096 → Tails above (i + 1) tail → TailTurn tail i x
      → r ≡ min (at above i) x → Tails above i (set tail i r)
  tail_step {tail} {i} {x} {r} h t w l =
      record { long = length-set tail i r ∙ t.long; each = λ k a b. pick k a b (ℕ_discrete k i) }
    where
      rest : Dec (i % 64 ≡ 63) → LeastOrNone (at above) (i + 1) (64 * (i / 64) + 64) x
      rest (yes e) = rw (w.last e) (least_none (omega arith))
      rest (no n) =
          same_span refl (omega arith) (sym (w.rest n)) (t.each (i + 1) (omega arith) (omega arith))

      pick : (k : ℕ) → i ≤ k → k < 4096 → Dec (k ≡ i)
          → LeastOrNone (at above) k (64 * (k / 64) + 64) (at (set tail i r) k)
      pick k a b (yes e) =
          rw (e, get_or-set_same tail i r 0 (omega (arith, t.long)))
          (least_join (omega arith) (omega arith) (least_one (at above) i) (rest (ℕ_discrete (i % 64) 63)) l)
      pick k a b (no n) = rw (get_or-set_other tail i k r 0 n) (t.each k (omega arith) b)

  -- as the loop, which counts down, has it
  pub tail_down : {tail : List ℕ} {i x r : ℕ} → 0 < i → i ≤ 4096 → Tails above i tail → TailTurn tail (i - 1) x
      → r ≡ min (at above (i - 1)) x → Tails above (i - 1) (set tail (i - 1) r)
  tail_down {tail} {i} z h t w l = let e : (i - 1) + 1 ≡ i = omega arith in tail_step (omega arith) (rw e t) w l

  pub front_step : {front : List ℕ} {i x r : ℕ} → i < 4096 → Fronts above i front → FrontTurn front i x
      → r ≡ min x (at above i) → Fronts above (i + 1) (set front i r)
  front_step {front} {i} {x} {r} h t w l =
      record { long = length-set front i r ∙ t.long; each = λ k b. pick k b (ℕ_discrete k i) }
    where
      rest : Dec (i % 64 ≡ 0) → LeastOrNone (at above) (64 * (i / 64)) i x
      rest (yes e) = rw (w.first e) (least_none (omega arith))
      rest (no n) =
          same_span (omega arith) (omega arith) (sym (w.rest n)) (t.each (i - 1) (omega arith))

      pick : (k : ℕ) → k < i + 1 → Dec (k ≡ i)
          → LeastOrNone (at above) (64 * (k / 64)) (k + 1) (at (set front i r) k)
      pick k b (yes e) =
          rw (e, get_or-set_same front i r 0 (omega (arith, t.long)))
          (least_join (omega arith) (omega arith) (rest (ℕ_discrete (i % 64) 0)) (least_one (at above) i) l)
      pick k b (no n) = rw (get_or-set_other front i k r 0 n) (t.each k (omega arith))

  pub gap_step : {tail gap : List ℕ} {i x : ℕ} → i < 4096 → Tails above 0 tail → Gaps above i gap
      → GapTurn gap tail i x → Gaps above (i + 1) (set gap i x)
  gap_step {tail} {gap} {i} {x} h s t w =
      record { long = length-set gap i x ∙ t.long; each = λ k b. pick k b (ℕ_discrete k i) }
    where
      here : Dec (i % 64 ≤ i / 64 + 1) → LeastOrNone (at above) (64 * (i / 64) + 64) (64 * (i % 64)) x
      here (yes e) = rw (w.near e) (least_none (omega arith))
      here (no n) =
          least_join (omega arith) (omega arith)
          (same_span (omega arith) (omega arith) refl (t.each (i - 1) (omega arith)))
          (same_span refl (omega arith) refl (s.each (64 * (i % 64 - 1)) (omega arith) (omega arith)))
          (w.far (omega arith))

      pick : (k : ℕ) → k < i + 1 → Dec (k ≡ i)
          → LeastOrNone (at above) (64 * (k / 64) + 64) (64 * (k % 64)) (at (set gap i x) k)
      pick k b (yes e) =
          rw (e, get_or-set_same gap i x 0 (omega (arith, t.long))) (here (dec_le (i % 64) (i / 64 + 1)))
      pick k b (no n) = rw (get_or-set_other gap i k x 0 n) (t.each k (omega arith))

-- place by place
pub scan_step : (above : List ℕ) {a k m r : ℕ} → a ≤ k → LeastOrNone (at above) a k m → r ≡ min m (at above k)
    → LeastOrNone (at above) a (k + 1) r
scan_step above {a} {k} h p l = least_join h (omega arith) p (least_one (at above) k) l

-- the search, in one bin and over several
module _ {above tail front gap : List ℕ} {i j : ℕ} (S : LeastAsked above tail front gap i j) where
  near : {r : ℕ} → LeastOrNone (at above) (i + 1) (j + 1) r → LeastOf (at above) (i + 1) j r
  near p = least_of (omega (arith, S.order)) S.small p

  pub search_near : {s r : ℕ} → r ≡ s → LeastOrNone (at above) (i + 1) (j + 1) s → LeastOf (at above) (i + 1) j r
  search_near e p = rw e (near p)

  pub search_far : {x s r : ℕ} → r ≡ s → (i + 1) / 64 ≢ j / 64
      → x ≡ min (at tail (i + 1)) (at gap (64 * ((i + 1) / 64) + j / 64)) → s ≡ min x (at front j)
      → LeastOf (at above) (i + 1) j r
  search_far {x} {s} {r} e n l m =
      let o = S.order in
      let w = S.place in
      let t = S.tables.tails.each (i + 1) (omega arith) (omega arith) in
      let g = S.tables.gaps.each (64 * ((i + 1) / 64) + j / 64) (omega arith) in
      let f = S.tables.fronts.each j (omega arith) in
      rw e
      (near
      (least_join {b = 64 * (j / 64)} (omega arith) (omega arith)
      (least_join {b = 64 * ((i + 1) / 64) + 64} (omega arith) (omega arith) t
      (same_span (omega arith) (omega arith) refl g) l)
      f m))
