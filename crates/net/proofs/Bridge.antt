-- The bridge: where other rows join the ends of a row, some row closes a ring with the rows before it. By the cut of a
-- walk at its highest row, from which also: one row more joins two nodes only through its ends.
use Prim.Native.Nat.{ℕ, zero, suc, ◌<◌}
use mathlib.Core.Path.{◌≡◌, refl, sym, ◌∙◌}
use mathlib.Core.Logic.{◌⊎◌, inl, inr}
use mathlib.Core.List.{List}
use native.Mathlib.Omega.{arith}
use native.Mathlib.Nat.{not-suc-le-zero}
use native.Mathlib.Decide.{ℕ_discrete}
use Rattle.net.specs.Graph.{First, Ends, Walk, stop, go, Joined}
use Rattle.net.proofs.Rows.{But, End, Closes, ends_flip, ends_left}
use Rattle.net.proofs.Joined.{joined_refl, joined_step, joined_trans, joined_sym, joined_mono}

module _ (u v : ℕ → ℕ) where
  -- A walk, cut at the first and the last use of row k
  abbrev pub Cut : (ℕ → Type 0) → ℕ → ℕ → ℕ → Type 0
  Cut P k a b =
      Joined u v (But P k) a b
      ⊎ ((x : ℕ) × (y : ℕ) × End u v k x × End u v k y × Joined u v (But P k) a x × Joined u v (But P k) y b)

  pub walk_cut : {P : ℕ → Type 0} (k : ℕ) {a b : ℕ} {rs ns : List ℕ} → Walk u v P a rs ns b → Cut P k a b
  walk_cut k stop = inl (joined_refl u v _)
  walk_cut {P} k {b} (go {r} {a} {c} h e w) = pick (ℕ_discrete r k) (walk_cut k w)
    where
      pick : Dec (r ≡ k) → Cut P k c b → Cut P k a b
      pick (no n) (inl t) = inl (joined_step u v (h, n) e t)
      pick (no n) (inr t) = inr (t.0, t.1, t.2, t.3, joined_step u v (h, n) e t.4, t.5)
      pick (yes q) (inl t) =
          inr (a, c, rw q at (ends_left u v e), rw q at (ends_left u v (ends_flip u v e)), joined_refl u v a, t)
      pick (yes q) (inr t) = inr (a, t.1, rw q at (ends_left u v e), t.3, joined_refl u v a, t.5)

  -- one row more joins x and y only through its ends
  pub through : {r x y : ℕ} → Joined u v (First (suc r)) x y
      → Joined u v (First r) x y
      ⊎ ((a : ℕ) × (b : ℕ) × End u v r a × End u v r b × Joined u v (First r) x a × Joined u v (First r) b y)
  through {r} w = pick (walk_cut r w.2)
    where
      low : {a b : ℕ} → Joined u v (But (First (suc r)) r) a b → Joined u v (First r) a b
      low = joined_mono u v (λ s h. omega (arith, h.0, h.1))

      pick : {x y : ℕ} → Cut (First (suc r)) r x y
          → Joined u v (First r) x y
          ⊎ ((a : ℕ) × (b : ℕ) × End u v r a × End u v r b × Joined u v (First r) x a × Joined u v (First r) b y)
      pick (inl t) = inl (low t)
      pick (inr c) = inr (c.0, c.1, c.2, c.3, low c.4, low c.5)

  -- The ends of row r are joined by other rows: then some row closes a ring with rows before it
  pub bridge : (k r : ℕ) → r < k → Joined u v (But (First k) r) (u r) (v r) → Closes u v k
  bridge zero r h w = absurd (not-suc-le-zero h)
  bridge (suc k) r h w = pick (ℕ_discrete r k) (walk_cut k w.2) (bridge k r)
    where
      J : ℕ → ℕ → Type 0
      J = Joined u v (But (But (First (suc k)) r) k)

      IH : Type 0
      IH = r < k → Joined u v (But (First k) r) (u r) (v r) → Closes u v k

      up : Closes u v k → Closes u v (suc k)
      up c = (c.0, omega (arith, c.1), c.2)

      low : {a b : ℕ} → J a b → Joined u v (But (First k) r) a b
      low = joined_mono u v (λ s h'. (omega (arith, h'.0.0, h'.1), h'.0.1))

      through : r < k → {x y : ℕ} → J (u r) x → J y (v r) → Joined u v (First k) x y
      through l p q =
          joined_trans u v (joined_sym u v (joined_mono u v (λ s h. h.0) (low p)))
          (joined_step u v l (inl (refl, refl)) (joined_sym u v (joined_mono u v (λ s h. h.0) (low q))))

      meet : r < k → IH → (x y : ℕ) → End u v k x → End u v k y → J (u r) x → J y (v r) → Closes u v (suc k)
      meet l ih x y (inl e) (inl f) p q = up (ih l (joined_trans u v (low p) (rw (sym f ∙ e) at (low q))))
      meet l ih x y (inl e) (inr f) p q = (k, omega arith, rw (e, f) (through l p q))
      meet l ih x y (inr e) (inl f) p q = (k, omega arith, rw (e, f) (joined_sym u v (through l p q)))
      meet l ih x y (inr e) (inr f) p q = up (ih l (joined_trans u v (low p) (rw (sym f ∙ e) at (low q))))

      pick : Dec (r ≡ k) → Cut (But (First (suc k)) r) k (u r) (v r) → IH → Closes u v (suc k)
      pick (yes e) d ih = (r, h, joined_mono u v (λ s h'. omega (arith, h'.0, h'.1)) w)
      pick (no n) (inl t) ih = up (ih (omega arith) (low t))
      pick (no n) (inr c) ih = meet (omega arith) ih c.0 c.1 c.2 c.3 c.4 c.5

  pub detour : {k r a c : ℕ} → r < k → Ends u v r a c → Joined u v (But (First k) r) c a → Closes u v k
  detour h (inl e) w = bridge _ _ h (rw (e.0, e.1) (joined_sym u v w))
  detour h (inr e) w = bridge _ _ h (rw (e.0, e.1) w)
