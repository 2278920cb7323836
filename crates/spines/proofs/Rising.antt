-- A climb with the heads that it passes: a node that heads its own spine has at most half its parent's leaves, so they
-- are few. Where two climbs meet, one spine more is touched than heads were passed.
use Prim.Native.Nat.{ℕ, ◌+◌, ◌*◌, ◌^◌, ◌≤◌, ◌<◌}
use mathlib.Core.Path.{◌≡◌, refl, sym, ap}
use mathlib.Core.Logic.{◌⊎◌, inl, inr, ◌≢◌, ⊎_elim}
use native.Mathlib.Omega.{arith}
use native.Mathlib.Numerals.{add-one}
use native.Mathlib.Decide.{ℕ_discrete}
use native.Mathlib.Nat.{pow-suc}
use Rattle.net.specs.Count.{Count}
use Rattle.net.specs.work.Rooted.{Above, self, up, Passed}
use Rattle.net.proofs.Counts.{count_same, count_none, count_one, count_add}
use Rattle.net.proofs.Above.{Tree, above_trans, above_chain, fits_up, place_up, place_less}
use Rattle.net.proofs.Climbs.{none_passed, passed_more, passed_new, passed_inv}
use Rattle.spines.specs.Spine.{Head}
use Rattle.spines.specs.FloorLog.{FloorLog}
use Rattle.spines.specs.work.Parents.{Child}
use Rattle.spines.specs.work.Climbs.{Leaving}
use Rattle.spines.proofs.Leaves.{leaves_two, leaves_up, many, many_leaves, many_some}
use Rattle.spines.proofs.Main.{main_some}
use Rattle.spines.proofs.Head.{head_one, head_own, head_above, head_between, own_not_main, head_of}
use Rattle.spines.proofs.FloorLog.{log_least}

pow_more : (k : ℕ) → 2 ^ (k + 1) ≡ 2 ^ k + 2 ^ k
pow_more k = rw (add-one k) (omega (arith, pow-suc 2 k))

module _ {n : ℕ} {par place : ℕ → ℕ} (T : Tree n par place) where
  -- the climb from x stands at a and has passed i heads, which are few
  pub record Rising (x a i : ℕ) : Type 0 where
    pub fits : x < n
    pub above : Above par a x
    pub heads : Count (Leaving n par a x) i
    pub few : 2 ^ i ≤ many T a

  pub rising_start : {x : ℕ} → x < n → Rising x x 0
  rising_start {x} b =
      record {
        fits = b;
        above = self;
        heads = count_none (λ z h. none_passed T b h.passed);
        few = omega (arith, many_some T x b);
      }

  -- one more where a is its own head, and else the same
  pub record Counted (a i k : ℕ) : Type 0 where
    pub own : Head (Child n par) n a a → k ≡ i + 1
    pub other : ¬ Head (Child n par) n a a → k ≡ i

  own? : (a : ℕ) → a < n → Dec (Head (Child n par) n a a)
  own? a b = let t = head_of T a b in same t (ℕ_discrete t.0 a)
    where
      same : (t : (h : ℕ) × Head (Child n par) n h a) → Dec (t.0 ≡ a) → Dec (Head (Child n par) n a a)
      same t (yes e) = yes (rw e at t.1)
      same t (no m) = no (λ h. m (head_one t.1 h))

  counted : (a i : ℕ) → a < n → (k : ℕ) × Counted a i k
  counted a i b = pick (own? a b)
    where
      pick : Dec (Head (Child n par) n a a) → (k : ℕ) × Counted a i k
      pick (yes o) = (i + 1, record { own = λ h. refl; other = λ m. absurd (m o) })
      pick (no m) = (i, record { own = λ h. absurd (m h); other = λ h. refl })

  -- a child that heads its own spine has at most half its parent's leaves
  half : {a : ℕ} → a < n → a ≢ 0 → Head (Child n par) n a a → many T a + many T a ≤ many T (par a)
  half {a} b q o =
      let kid : Child n par (par a) a = record { fits = b; low = q; of = refl } in
      let m = main_some T kid in
      let w = m.1.most a (many T m.0) (many T a) kid (many_leaves T m.0) (many_leaves T a) in
      omega (
        arith,
        w.0,
        leaves_two T kid m.1.child (λ e. own_not_main T o (rw (sym e) at m.1)) (many_leaves T a)
            (many_leaves T m.0) (many_leaves T (par a)),
      )

  module _ {x a i : ℕ} (c : Rising x a i) (q : a ≢ 0) where
    fa : a < n
    fa = fits_up T c.fits c.above

    counts : (k : ℕ) → Dec (Head (Child n par) n a a) → Counted a i k → Count (Leaving n par (par a) x) k
    counts k (no m) t =
        rw (t.other m)
        (count_same (λ z h. record { passed = passed_more T c.fits c.above q z h.passed; own = h.own })
        (λ z h. record {
          passed = ⊎_elim (λ p. p) (λ e. absurd (m (rw e at h.own)))
              (passed_inv T c.fits c.above q z h.passed);
          own = h.own;
        })
        c.heads)
    counts k (yes o) t =
        rw (t.own o)
        (count_add {Q = λ z. z ≡ a} c.heads (count_one a refl (λ z e. e)) (λ z h e. h.passed.not e) split
        (λ z h. record { passed = passed_more T c.fits c.above q z h.passed; own = h.own })
        (λ z e. rw e (record { passed = passed_new T c.fits c.above q; own = o })))
      where
        split : (z : ℕ) → Leaving n par (par a) x z → Leaving n par a x z ⊎ (z ≡ a)
        split z h =
            ⊎_elim (λ p. inl (record { passed = p; own = h.own })) inr
            (passed_inv T c.fits c.above q z h.passed)

    few_up : (k : ℕ) → Dec (Head (Child n par) n a a) → Counted a i k → 2 ^ k ≤ many T (par a)
    few_up k (no m) t =
        rw (t.other m) (omega (arith, c.few, leaves_up T (up q refl self) (many_leaves T a) (many_leaves T (par a))))
    few_up k (yes o) t = rw (t.own o) (omega (arith, c.few, half fa q o, pow_more i))

    pub rising_step : (k : ℕ) → Counted a i k → Rising x (par a) k
    rising_step k t =
        record {
          fits = c.fits;
          above = above_trans (up q refl self) c.above;
          heads = counts k (own? a fa) t;
          few = few_up k (own? a fa) t;
        }

  -- every climb has passed some number of heads
  pub rising_some : {t x : ℕ} → x < n → Above par t x → (i : ℕ) × Rising x t i
  rising_some {t} {x} b h = go_on (rising_start b) h
    where
      go_on : {w i : ℕ} → Rising x w i → Above par t w → (i : ℕ) × Rising x t i
      go_on {w} {i} r self = (i, r)
      go_on {w} {i} r (up q e k) =
          let c = counted w i (fits_up T r.fits r.above) in
          go_on (rw e at (rising_step r q c.0 c.1)) k

  -- where two climbs meet
  module _ {x y t i j : ℕ} (bx : x < n) (by : y < n) (left : Above par t x) (p : Count (Leaving n par t x) i)
      (q : Count (Leaving n par t y) j) (apart : (z : ℕ) → Passed par t x z → Passed par t y z → ⊥) where
    ft : t < n
    ft = fits_up T bx left

    -- h heads a node on one of the climbs
    pub record Heads (h : ℕ) : Type 0 where
      pub node : ℕ
      pub below : Above par t node
      pub above : Above par node x ⊎ Above par node y
      pub head : Head (Child n par) n h node

    abbrev Parts : ℕ → ℕ → Type 0
    Parts g h = (h ≡ g) ⊎ (Leaving n par t x h ⊎ Leaving n par t y h)

    -- as many heads as were passed, and one
    pub heads_count : Count Heads (1 + (i + j))
    heads_count = total (head_of T t ft)
      where
        low : (w h : ℕ) → Passed par t w h → w < n → (g : ℕ) → Head (Child n par) n g t → h ≢ g
        low w h d b g k e =
            omega (
              arith,
              place_up T ft (head_above k),
              place_less T (fits_up T b d.above) d.below (λ o. d.not (sym o)),
              ap place e,
            )

        side : (w : ℕ) → (z h : ℕ) → Above par t z → Above par z w → Head (Child n par) n h z → (g : ℕ)
            → Head (Child n par) n g t → (h ≡ g) ⊎ Leaving n par t w h
        side w z h d r k g f = pick (ℕ_discrete h t) (above_chain (head_above k) d)
          where
            pick : Dec (h ≡ t) → Above par h t ⊎ Above par t h → (h ≡ g) ⊎ Leaving n par t w h
            pick d' (inl u) = inl (head_one (head_between T k d u) f)
            pick (yes e) (inr u) = let o : Head (Child n par) n h t = rw (sym e) (head_own k) in inl (head_one o f)
            pick (no m) (inr u) =
                inr
                (record {
                  passed = record { above = above_trans (head_above k) r; below = u; not = m };
                  own = head_own k;
                })

        split : (g : ℕ) → Head (Child n par) n g t → (h : ℕ) → Heads h → Parts g h
        split g f h k = pick k.above
          where
            pick : Above par k.node x ⊎ Above par k.node y → Parts g h
            pick (inl a) = ⊎_elim inl (λ l. inr (inl l)) (side x k.node h k.below a k.head g f)
            pick (inr a) = ⊎_elim inl (λ l. inr (inr l)) (side y k.node h k.below a k.head g f)

        two : Count (λ h. Leaving n par t x h ⊎ Leaving n par t y h) (i + j)
        two = count_add p q (λ z l m. apart z l.passed m.passed) (λ z h. h) (λ z h. inl h) (λ z h. inr h)

        back : (h : ℕ) → Leaving n par t x h ⊎ Leaving n par t y h → Heads h
        back h (inl l) = record { node = h; below = l.passed.below; above = inl l.passed.above; head = l.own }
        back h (inr l) = record { node = h; below = l.passed.below; above = inr l.passed.above; head = l.own }

        total : (g : ℕ) × Head (Child n par) n g t → Count Heads (1 + (i + j))
        total f =
            count_add {P = λ h. h ≡ f.0} (count_one f.0 refl (λ y e. e)) two (λ h e l. clash h e l)
            (split f.0 f.1) (λ h e. record { node = t; below = self; above = inl left; head = rw e f.1 }) back
          where
            clash : (h : ℕ) → h ≡ f.0 → Leaving n par t x h ⊎ Leaving n par t y h → ⊥
            clash h e (inl l) = low x h l.passed bx f.0 f.1 e
            clash h e (inr l) = low y h l.passed by f.0 f.1 e

  -- the heads that a climb passed are at most the logarithm of the leaves where it stands
  pub bounded : {x y t i j : ℕ} → Rising x t i → Rising y t j → (l k : ℕ) → many T t ≤ l → FloorLog l k
      → 1 + (i + j) ≤ 1 + 2 * k
  bounded {i = i} {j = j} p q l k h f =
      omega (arith, log_least i l k (omega (arith, p.few)) f, log_least j l k (omega (arith, q.few)) f)
