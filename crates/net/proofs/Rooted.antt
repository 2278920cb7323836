-- A net hung up at node 0: every row is the row of one of its ends; along any row but t's own, below t stays below t;
-- from this a step away.
use Prim.Native.Nat.{ℕ, zero, suc, ◌+◌, ◌<◌}
use mathlib.Core.Path.{◌≡◌, refl, sym, ap, ◌∙◌}
use mathlib.Core.Logic.{◌⊎◌, inl, inr, ◌≢◌}
use mathlib.Core.List.{List, [], ◌∷◌, ◌++◌}
use native.Mathlib.Omega.{arith}
use native.Mathlib.Decide.{ℕ_discrete}
use Rattle.arrays.specs.Members.{In, at, past, Distinct}
use Rattle.net.specs.Graph.{First, Ends, Walk, stop, go, Joined}
use Rattle.net.specs.Path.{Sum, Path}
use Rattle.net.specs.work.Rooted.{Above, self, up, Rooted}
use Rattle.arrays.proofs.Members.{not_nil, distinct_snoc}
use Rattle.net.proofs.Above.{place_rises}
use Rattle.net.proofs.Rows.{But, Closes, ends_flip, ends_left, ends_one, other}
use Rattle.net.proofs.Joined.{joined_refl, joined_step, joined_trans, joined_sym, walk_mono, walk_snoc}
use Rattle.net.proofs.Bridge.{Cut, walk_cut, detour}
use Rattle.net.proofs.OnePath.{unique}
use Rattle.net.proofs.Erase.{simple}

pub above_inv : {par : ℕ → ℕ} {t x : ℕ} → Above par t x → (t ≡ x) ⊎ ((x ≢ 0) × Above par t (par x))
above_inv self = inl refl
above_inv (up z e h) = inr (z, rw e h)

pub sum_snoc : (f : ℕ → ℕ) (rs : List ℕ) (r : ℕ) → Sum f (rs ++ (r ∷ [])) ≡ Sum f rs + f r
sum_snoc f [] r = omega arith
sum_snoc f (s ∷ rs) r = omega (arith, sum_snoc f rs r)

module _ (u v : ℕ → ℕ) where
  module _ {k n : ℕ} {par row place : ℕ → ℕ} (T : Rooted u v k n par row place) where
    -- the climb from x uses no row r that is no row of a node above x
    climb_but : (r : ℕ) (m x : ℕ) → place x < m → x < n → ((y : ℕ) → y < n → y ≢ 0 → Above par y x → row y ≢ r)
        → Joined u v (But (First k) r) x 0
    climb_but r zero x l b h = absurd (omega arith)
    climb_but r (suc m) x l b h = pick (ℕ_discrete x 0) (climb_but r m)
      where
        pick : Dec (x ≡ 0)
            → ((x : ℕ) → place x < m → x < n → ((y : ℕ) → y < n → y ≢ 0 → Above par y x → row y ≢ r)
            → Joined u v (But (First k) r) x 0)
            → Joined u v (But (First k) r) x 0
        pick (yes e) ih = rw e (joined_refl u v 0)
        pick (no z) ih =
            joined_step u v (T.row_fits x b z, h x b z self) (T.ends x b z)
            (ih (par x) (omega (arith, T.earlier x b z)) (T.par_fits x b z) (λ y c d a. h y c d (up z refl a)))

    abbrev Owns : ℕ → ℕ → ℕ → Type 0
    Owns r a c = (a ≢ 0) × (row a ≡ r) × (par a ≡ c)

    -- every row is the row of one of its ends
    pub owner : (r a c : ℕ) → r < k → a < n → c < n → Ends u v r a c → Owns r a c ⊎ Owns r c a
    owner r a c l ba bc e = pick (owns? a c ba e) (owns? c a bc (ends_flip u v e))
      where
        owns? : (a c : ℕ) → a < n → Ends u v r a c → Owns r a c ⊎ ((a ≢ 0) → row a ≢ r)
        owns? a c b e = go_on (ℕ_discrete a 0) (ℕ_discrete (row a) r)
          where
            go_on : Dec (a ≡ 0) → Dec (row a ≡ r) → Owns r a c ⊎ ((a ≢ 0) → row a ≢ r)
            go_on (yes z) d = inr (λ m. absurd (m z))
            go_on (no z) (yes d) = inl (z, d, other u v (rw d at (T.ends a b z)) e)
            go_on (no z) (no d) = inr (λ m. d)

        not_above : (a ≢ 0 → row a ≢ r) → (c ≢ 0 → row c ≢ r) → (y : ℕ) → y < n → y ≢ 0 → row y ≢ r
        not_above p q y b z d = which (ends_one u v e (ends_left u v (rw d at (T.ends y b z))))
          where
            which : (a ≡ y) ⊎ (c ≡ y) → ⊥
            which (inl f) = p (rw f z) (rw f d)
            which (inr f) = q (rw f z) (rw f d)

        pick : Owns r a c ⊎ ((a ≢ 0) → row a ≢ r) → Owns r c a ⊎ ((c ≢ 0) → row c ≢ r) → Owns r a c ⊎ Owns r c a
        pick (inl o) q = inl o
        pick (inr p) (inl o) = inr o
        pick (inr p) (inr q) =
            let x : Joined u v (But (First k) r) a 0 = climb_but r (suc (place a)) a (omega arith) ba
            (λ y b z t. not_above p q y b z) in
            let y : Joined u v (But (First k) r) c 0 = climb_but r (suc (place c)) c (omega arith) bc
            (λ y b z t. not_above p q y b z) in
            let o : Closes u v k = detour u v l e (joined_trans u v y (joined_sym u v x)) in
            absurd (T.forest o.0 o.1 o.2)

    ends_fit : {r a c : ℕ} → r < k → Ends u v r a c → (a < n) × (c < n)
    ends_fit {r} l (inl e) = (rw e.0 at (T.fits r l).0, rw e.1 at (T.fits r l).1)
    ends_fit {r} l (inr e) = (rw e.1 at (T.fits r l).1, rw e.0 at (T.fits r l).0)

    module _ (t : ℕ) (bt : t < n) (zt : t ≢ 0) where
      -- along a row that is not t's, below t stays below t
      above_row : {r a c : ℕ} → But (First k) (row t) r → Ends u v r a c → Above par t a → Above par t c
      above_row {r} {a} {c} h e w =
          pick (owner r a c h.0 (ends_fit h.0 e).0 (ends_fit h.0 e).1 e) (above_inv w)
        where
          pick : Owns r a c ⊎ Owns r c a → (t ≡ a) ⊎ ((a ≢ 0) × Above par t (par a)) → Above par t c
          pick (inl o) (inl q) = absurd (h.1 (sym (ap row q ∙ o.1)))
          pick (inl o) (inr s) = rw o.2 at s.1
          pick (inr o) s = up o.0 o.2 w

      above_in : {x a b : ℕ} {rs ns : List ℕ} → Walk u v (But (First k) (row t)) a rs ns b → Above par t a
          → In x (a ∷ ns) → Above par t x
      above_in w h (at e) = rw e h
      above_in stop h (past m) = absurd (not_nil m)
      above_in (go p e w) h (past m) = above_in w (above_row p e h) m

      in_above : {x a b : ℕ} {rs ns : List ℕ} → Walk u v (But (First k) (row t)) a rs ns b → In x (a ∷ ns)
          → Above par t x → Above par t a
      in_above w (at e) h = rw (sym e) h
      in_above stop (past m) h = absurd (not_nil m)
      in_above (go p e w) (past m) h = above_row p (ends_flip u v e) (in_above w m h)

      last_above : {a b : ℕ} {rs ns : List ℕ} → Walk u v (But (First k) (row t)) a rs ns b → Above par t b
          → Above par t a
      last_above stop h = h
      last_above (go p e w) h = above_row p (ends_flip u v e) (last_above w h)

      above_last : {a b : ℕ} {rs ns : List ℕ} → Walk u v (But (First k) (row t)) a rs ns b → Above par t a
          → Above par t b
      above_last stop h = h
      above_last (go p e w) h = above_last w (above_row p e h)

      not_up : ¬ Above par t (par t)
      not_up h = omega (arith, place_rises T.par_fits T.earlier (T.par_fits t bt zt) h, T.earlier t bt zt)

      -- from x outside to t's parent, and from x inside to t, without t's row
      outside : {x : ℕ} → ¬ Above par t x → Joined u v (First k) x (par t)
          → Joined u v (But (First k) (row t)) x (par t)
      outside {x} n w = pick (walk_cut u v (row t) w.2)
        where
          side : (e : ℕ) → (t ≡ e) ⊎ (par t ≡ e) → Joined u v (But (First k) (row t)) x e
              → Joined u v (But (First k) (row t)) x (par t)
          side e (inl q) j = absurd (n (last_above j.2 (rw (sym q) self)))
          side e (inr q) j = rw q j

          pick : Cut u v (First k) (row t) x (par t) → Joined u v (But (First k) (row t)) x (par t)
          pick (inl j) = j
          pick (inr c) = side c.0 (ends_one u v (T.ends t bt zt) c.2) c.4

      inside : {x : ℕ} → Above par t x → Joined u v (First k) x t → Joined u v (But (First k) (row t)) x t
      inside {x} h w = pick (walk_cut u v (row t) w.2)
        where
          side : (e : ℕ) → (t ≡ e) ⊎ (par t ≡ e) → Joined u v (But (First k) (row t)) x e
              → Joined u v (But (First k) (row t)) x t
          side e (inl q) j = rw (sym q) at j
          side e (inr q) j = absurd (not_up (rw q (above_last j.2 h)))

          pick : Cut u v (First k) (row t) x t → Joined u v (But (First k) (row t)) x t
          pick (inl j) = j
          pick (inr c) = side c.0 (ends_one u v (T.ends t bt zt) c.2) c.4

      -- A step away
      pub away_down : {x : ℕ} {rs ns : List ℕ} → ¬ Above par t x → Walk u v (First k) x rs ns (par t)
          → Distinct (x ∷ ns)
          → Walk u v (First k) x (rs ++ (row t ∷ [])) (ns ++ (t ∷ [])) t × Distinct (x ∷ (ns ++ (t ∷ [])))
      away_down {x} {rs} {ns} n w d =
          let s = simple u v (outside n (rs, ns, w)) in
          let q = unique u v T.forest w (walk_mono u v (λ r h. h.0) s.2) d s.3 in (
            walk_snoc u v w (T.row_fits t bt zt) (ends_flip u v (T.ends t bt zt)),
            distinct_snoc (x ∷ ns) t d (λ m. n (in_above s.2 (rw q.1 at m) self)),
          )

      pub away_up : {x : ℕ} {rs ns : List ℕ} → Above par t x → Walk u v (First k) x rs ns t → Distinct (x ∷ ns)
          → Walk u v (First k) x (rs ++ (row t ∷ [])) (ns ++ (par t ∷ [])) (par t) × Distinct (x ∷ (ns ++ (par t ∷ [])))
      away_up {x} {rs} {ns} h w d =
          let s = simple u v (inside h (rs, ns, w)) in
          let q = unique u v T.forest w (walk_mono u v (λ r h. h.0) s.2) d s.3 in (
            walk_snoc u v w (T.row_fits t bt zt) (T.ends t bt zt),
            distinct_snoc (x ∷ ns) (par t) d (λ m. not_up (above_in s.2 h (rw q.1 at m))),
          )

      -- the same of a path
      pub path_down : {x : ℕ} {rs : List ℕ} → ¬ Above par t x → Path u v k x rs (par t)
          → Path u v k x (rs ++ (row t ∷ [])) t
      path_down n p = let q = away_down n p.1 p.2 in (p.0 ++ (t ∷ []), q.0, q.1)

      pub path_up : {x : ℕ} {rs : List ℕ} → Above par t x → Path u v k x rs t
          → Path u v k x (rs ++ (row t ∷ [])) (par t)
      path_up h p = let q = away_up h p.1 p.2 in (p.0 ++ (par t ∷ []), q.0, q.1)
