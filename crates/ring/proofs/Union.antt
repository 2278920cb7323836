-- Union by rank: what its loop keeps of the rows before row r, and that one row more keeps it; and that one row only is
-- the first.
use Prim.Native.Nat.{ℕ, suc, ◌+◌, ◌≤◌, ◌<◌}
use mathlib.Core.Path.{◌≡◌, refl, sym, ap, ◌∙◌}
use mathlib.Core.Logic.{◌⊎◌, inl, inr, ◌≢◌}
use mathlib.Core.List.{List}
use native.Mathlib.Omega.{arith}
use native.Mathlib.Numerals.{add-one}
use native.Mathlib.Decide.{ℕ_discrete, dec_lt}
use lib.ListN.{length, set, length-set}
use lib.Seq.{get_or-set_same, get_or-set_other}
use Rattle.arrays.specs.At.{at}
use Rattle.table.specs.Refuse.{Only}
use Rattle.net.specs.Graph.{First, Joined}
use Rattle.net.specs.work.Forest.{Forest}
use Rattle.net.specs.work.Rows.{RowsFit}
use Rattle.ring.specs.work.Union.{Climb, here, step, Rises, Root, FirstRing, Linked, Numbered, Union}
use Rattle.net.proofs.Rows.{End}
use Rattle.net.proofs.Joined.{alone, joined_refl, joined_step, joined_trans, joined_sym, joined_up}
use Rattle.net.proofs.Bridge.{through}

pub climb_more : {up : List ℕ} {x y t : ℕ} → Climb up x y → at up y ≡ t → Climb up x t
climb_more here e = step e here
climb_more (step e c) f = step e (climb_more c f)

pub rises_more : {up rank : List ℕ} {k m : ℕ} → k ≤ m → Rises up rank k → Rises up rank m
rises_more h s = record { within = s.within; rises = s.rises; most = λ x b. omega (arith, s.most x b) }

-- the loop: the rows below r have been seen
pub record Seen (us vs : ℕ → ℕ) (rows : ℕ) (r : ℕ) (up rank : List ℕ) : Type 0 where
  pub within : r ≤ rows
  pub long : (length up ≡ 4096) × (length rank ≡ 4096)
  pub ranks : Rises up rank r
  pub sound : (x : ℕ) → x < 4096 → Joined us vs (First r) x (at up x)
  pub whole : (x y : ℕ) → x < 4096 → y < 4096 → at up x ≡ x → at up y ≡ y → Joined us vs (First r) x y → x ≡ y
  pub forest : Forest us vs r

pub climb_joined : {us vs : ℕ → ℕ} {rows : ℕ} {up rank : List ℕ} {r x t : ℕ} → Seen us vs rows r up rank → x < 4096
    → Climb up x t → Joined us vs (First r) x t
climb_joined s b here = joined_refl _ _ _
climb_joined {us} {vs} {r} s b (step {x} {y} e c) =
    joined_trans us vs (rw e at (s.sound x b)) (climb_joined s (rw e at (s.ranks.within x b)) c)

module _ (us vs : ℕ → ℕ) (rows : ℕ) (up rank : List ℕ) where
  pub seen_none : length up ≡ 4096 → length rank ≡ 4096 → ((x : ℕ) → x < 4096 → at up x ≡ x)
      → ((x : ℕ) → x < 4096 → at rank x ≡ 0) → Seen us vs rows 0 up rank
  seen_none l m f g =
      record {
        within = omega arith;
        long = (l, m);
        ranks = record {
          within = λ x h. omega (arith, f x h);
          rises = λ x h n. absurd (n (f x h));
          most = λ x h. omega (arith, g x h);
        };
        sound = λ x h. rw (f x h) (joined_refl _ _ x);
        whole = λ x y h k e d j. alone _ _ (λ r q. omega arith) j;
        forest = λ r h. absurd (omega arith);
      }

  module _ (r p q : ℕ) (s : Seen us vs rows r up rank) (fit : RowsFit us vs rows 4096) (b : r < rows)
      (f : Root up (us r) p) (g : Root up (vs r) q) where
    abbrev J : ℕ → ℕ → Type 0
    J = Joined us vs (First r)

    ju : J (us r) p
    ju = climb_joined s (fit.first r b) f.climbs

    jv : J (vs r) q
    jv = climb_joined s (fit.second r b) g.climbs

    pub seen_ring : p ≡ q → FirstRing us vs rows r
    seen_ring e =
        record { within = s.within; forest = s.forest; closes = λ h. joined_trans _ _ ju (rw e (joined_sym _ _ jv)) }

    pub apart : p ≢ q → ¬ J (us r) (vs r)
    apart n j =
        n
        (s.whole p q f.within g.within f.root g.root
        (joined_trans _ _ (joined_sym _ _ ju) (joined_trans _ _ j jv)))

module _ (us vs : ℕ → ℕ) (rows : ℕ) (up rank : List ℕ) (r a b : ℕ) (s : Seen us vs rows r up rank) (in-a : a < 4096)
    (in_b : b < 4096) (n : a ≢ b) (ra : at up a ≡ a) (rb : at up b ≡ b) where
  pub seen_link : (up₂ rank₂ : List ℕ) → r < rows → Linked a b up rank up₂ rank₂ → Joined us vs (First (suc r)) a b
      → ¬ Joined us vs (First r) (us r) (vs r)
      → ((e : ℕ) → End us vs r e → Joined us vs (First r) e a ⊎ Joined us vs (First r) e b)
      → Seen us vs rows (r + 1) up₂ rank₂
  seen_link up₂ rank₂ lt l j apart ends = rw add-one (record {
    within = lt;
    long = (ap length l.put ∙ length-set up a b ∙ s.long.0, l.long ∙ s.long.1);
    ranks = record {
      within = λ x h. pick_within x h (ℕ_discrete x a);
      rises = λ x h m. pick_rises x h m (ℕ_discrete x a) (ℕ_discrete x b);
      most = λ x h. pick_most x h (ℕ_discrete x b);
    };
    sound = λ x h. pick_sound x h (ℕ_discrete x a);
    whole = λ x y hx hy rx ry w. both x y hx hy (root x hx rx) (root y hy ry) (through _ _ w);
    forest = λ x h. pick_forest x h (ℕ_discrete x r);
  })
    where
      la : at up₂ a ≡ b
      la = rw l.put (get_or-set_same up a b 0 (omega (arith, s.long.0)))

      lo : (x : ℕ) → x ≢ a → at up₂ x ≡ at up x
      lo x m = rw l.put (get_or-set_other up a x b 0 m)

      pick_within : (x : ℕ) → x < 4096 → Dec (x ≡ a) → at up₂ x < 4096
      pick_within x h (yes e) = rw (e, la) in_b
      pick_within x h (no m) = rw (lo x m) (s.ranks.within x h)

      pick_rises : (x : ℕ) → x < 4096 → (at up₂ x ≢ x) → Dec (x ≡ a) → Dec (x ≡ b) → at rank₂ x < at rank₂ (at up₂ x)
      pick_rises x h m (yes e) (yes d) = absurd (n (sym e ∙ d))
      pick_rises x h m (yes e) (no d) = rw (l.same x d, e, la) l.above
      pick_rises x h m (no e) (yes d) = absurd (m (lo x e ∙ rw d rb))
      pick_rises x h m (no e) (no d) = rw (l.same x d, lo x e) (higher (ℕ_discrete (at up x) b))
        where
          old : at rank x < at rank (at up x)
          old = s.ranks.rises x h (λ q. m (lo x e ∙ q))

          higher : Dec (at up x ≡ b) → at rank x < at rank₂ (at up x)
          higher (yes q) = rw q (omega (arith, rw q at old, l.grows))
          higher (no q) = rw (l.same (at up x) q) old

      pick_most : (x : ℕ) → x < 4096 → Dec (x ≡ b) → at rank₂ x ≤ suc r
      pick_most x h (yes e) = rw e (up_to l.most)
        where
          up_to : (at rank₂ b ≡ at rank b) ⊎ ((at rank₂ b ≡ at rank b + 1) × (at rank a ≡ at rank b))
              → at rank₂ b ≤ suc r
          up_to (inl q) = omega (arith, s.ranks.most b in_b)
          up_to (inr q) = omega (arith, q.0, s.ranks.most b in_b)
      pick_most x h (no m) = rw (l.same x m) (omega (arith, s.ranks.most x h))

      pick_sound : (x : ℕ) → x < 4096 → Dec (x ≡ a) → Joined us vs (First (suc r)) x (at up₂ x)
      pick_sound x h (yes e) = rw (e, la) j
      pick_sound x h (no m) = rw (lo x m) (joined_up _ _ (s.sound x h))

      Plain : ℕ → Type 0
      Plain x = (at up x ≡ x) × (x ≢ a)

      root : (x : ℕ) → x < 4096 → at up₂ x ≡ x → Plain x
      root x h e = pick (ℕ_discrete x a)
        where
          pick : Dec (x ≡ a) → Plain x
          pick (yes q) = absurd (n (sym (sym la ∙ (rw q at e))))
          pick (no m) = (sym (lo x m) ∙ e, m)

      -- a root other than a that is joined to an end of the row is b
      one : (x : ℕ) → x < 4096 → Plain x → (e : ℕ) → Joined us vs (First r) x e
          → Joined us vs (First r) e a ⊎ Joined us vs (First r) e b → x ≡ b
      one x h p e j (inl k) = absurd (p.1 (s.whole x a h in-a p.0 ra (joined_trans _ _ j k)))
      one x h p e j (inr k) = s.whole x b h in_b p.0 rb (joined_trans _ _ j k)

      both : (x y : ℕ) → x < 4096 → y < 4096 → Plain x → Plain y
          → Joined us vs (First r) x y
          ⊎ ((e : ℕ)
          × (d : ℕ)
          × End us vs r e
          × End us vs r d
          × Joined us vs (First r) x e
          × Joined us vs (First r) d y)
          → x ≡ y
      both x y hx hy px py (inl w) = s.whole x y hx hy px.0 py.0 w
      both x y hx hy px py (inr c) =
          one x hx px c.0 c.4 (ends c.0 c.2)
          ∙ sym (one y hy py c.1 (joined_sym _ _ c.5) (ends c.1 c.3))

      pick_forest : (x : ℕ) → x < suc r → Dec (x ≡ r) → ¬ Joined us vs (First x) (us x) (vs x)
      pick_forest x h (yes e) = rw e apart
      pick_forest x h (no m) = s.forest x (omega arith)

module _ (a b : ℕ) (up rank : List ℕ) where
  pub put_low : at rank a < at rank b → Linked a b up rank (set up a b) rank
  put_low h = record { put = refl; long = refl; same = λ x m. refl; above = h; grows = omega arith; most = inl refl }

  pub put_equal : b < length rank → a ≢ b → at rank a ≡ at rank b
      → Linked a b up rank (set up a b) (set rank b (at rank b + 1))
  put_equal h n e = record {
    put = refl;
    long = length-set rank b _;
    same = λ x m. get_or-set_other rank b x _ 0 m;
    above = omega (arith, now, e);
    grows = omega (arith, now);
    most = inr (now, e);
  }
    where
      now : at (set rank b (at rank b + 1)) b ≡ at rank b + 1
      now = get_or-set_same rank b _ 0 h

module _ (us vs : ℕ → ℕ) (rows : ℕ) (up rank : List ℕ) (r p q : ℕ) (s : Seen us vs rows r up rank)
    (fit : RowsFit us vs rows 4096) (b : r < rows) (f : Root up (us r) p) (g : Root up (vs r) q) (n : p ≢ q) where
  abbrev J₁ : ℕ → ℕ → Type 0
  J₁ = Joined us vs (First r)

  over : Joined us vs (First (suc r)) p q
  over =
      joined_trans _ _ (joined_up _ _ (joined_sym _ _ (ju us vs rows up rank r p q s fit b f g)))
      (joined_step _ _ (omega arith) (inl (refl, refl)) (joined_up _ _ (jv us vs rows up rank r p q s fit b f g)))

  ends₁ : (e : ℕ) → End us vs r e → J₁ e p ⊎ J₁ e q
  ends₁ e (inl h) = inl (rw h at (ju us vs rows up rank r p q s fit b f g))
  ends₁ e (inr h) = inr (rw h at (jv us vs rows up rank r p q s fit b f g))

  swap : {A B : Type 0} → A ⊎ B → B ⊎ A
  swap (inl x) = inr x
  swap (inr x) = inl x

  pub seen_more : (up₂ rank₂ : List ℕ) → Union p q up rank up₂ rank₂ → Seen us vs rows (r + 1) up₂ rank₂
  seen_more up₂ rank₂ (inl l) =
      seen_link us vs rows up rank r p q s f.within g.within n f.root g.root up₂ rank₂ b l over
      (apart us vs rows up rank r p q s fit b f g n) ends₁
  seen_more up₂ rank₂ (inr l) =
      seen_link us vs rows up rank r q p s g.within f.within (λ e. n (sym e)) g.root f.root up₂ rank₂ b l
      (joined_sym _ _ over) (apart us vs rows up rank r p q s fit b f g n) (λ e h. swap (ends₁ e h))

-- numbering the places, from the front
pub numbered_none : (l : List ℕ) → length l ≡ 4096 → Numbered 0 l
numbered_none l e = record { long = e; each = λ k h. absurd (omega arith) }

pub numbered_more : (i : ℕ) (l : List ℕ) → i < 4096 → Numbered i l → Numbered (i + 1) (set l i i)
numbered_more i l b n = record { long = length-set l i i ∙ n.long; each = λ k h. pick k h (ℕ_discrete k i) }
  where
    pick : (k : ℕ) → k < i + 1 → Dec (k ≡ i) → at (set l i i) k ≡ k
    pick k h (yes e) = rw e (get_or-set_same l i i 0 (omega (arith, n.long)))
    pick k h (no m) = get_or-set_other l i k i 0 m ∙ n.each k (omega arith)

-- one answer: an earlier row that closes a ring would stand in the later one's forest
pub first_ring_only : (us vs : ℕ → ℕ) (rows : ℕ) → Only (FirstRing us vs rows)
first_ring_only us vs rows x y p q = pick (dec_lt x y) (dec_lt y x)
  where
    pick : Dec (x < y) → Dec (y < x) → x ≡ y
    pick (yes l) d = absurd (q.forest x l (p.closes (omega (arith, q.within))))
    pick (no l) (yes g) = absurd (p.forest y g (q.closes (omega (arith, p.within))))
    pick (no l) (no g) = omega arith
