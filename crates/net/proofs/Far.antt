-- The sum of f along the climb from a node to the root, as a function: every f has one.
use Prim.Native.Nat.{ℕ, zero, suc, ◌+◌, ◌<◌}
use mathlib.Core.Path.{◌≡◌, refl, sym, ◌∙◌}
use mathlib.Core.Logic.{◌≢◌}
use native.Mathlib.Omega.{arith}
use native.Mathlib.Decide.{ℕ_discrete}
use Rattle.net.proofs.Above.{Tree}
use Rattle.net.proofs.Route.{Sums}

choose : {x : ℕ} → Dec (x ≡ 0) → ℕ → ℕ
choose (yes e) s = 0
choose (no q) s = s

-- in at most m steps
dist : (ℕ → ℕ) → (ℕ → ℕ) → (ℕ → ℕ) → ℕ → ℕ → ℕ
dist par row f zero x = 0
dist par row f (suc m) x = choose (ℕ_discrete x 0) (dist par row f m (par x) + f (row x))

choose_no : {x : ℕ} (d : Dec (x ≡ 0)) (s : ℕ) → x ≢ 0 → choose d s ≡ s
unfolding choose
choose_no (yes e) s q = absurd (q e)
choose_no (no m) s q = refl

choose_yes : {x : ℕ} (d : Dec (x ≡ 0)) (s : ℕ) → x ≡ 0 → choose d s ≡ 0
unfolding choose
choose_yes (yes e) s q = refl
choose_yes (no m) s q = absurd (m q)

dist_more : (par row f : ℕ → ℕ) (m x : ℕ) → x ≢ 0 → dist par row f (suc m) x ≡ dist par row f m (par x) + f (row x)
unfolding dist
dist_more par row f m x q = choose_no (ℕ_discrete x 0) (dist par row f m (par x) + f (row x)) q

dist_root : (par row f : ℕ → ℕ) (m x : ℕ) → x ≡ 0 → dist par row f (suc m) x ≡ 0
unfolding dist
dist_root par row f m x q = choose_yes (ℕ_discrete x 0) (dist par row f m (par x) + f (row x)) q

-- more steps than the place make no difference
dist_any : {n : ℕ} {par place : ℕ → ℕ} → Tree n par place → (row f : ℕ → ℕ) (m k x : ℕ) → x < n → place x < m
    → place x < k → dist par row f m x ≡ dist par row f k x
dist_any T row f zero k x b l h = absurd (omega arith)
dist_any T row f (suc m) zero x b l h = absurd (omega arith)
dist_any {n} {par} {place} T row f (suc m) (suc k) x b l h = pick (ℕ_discrete x 0) (dist_any T row f m k (par x))
  where
    pick : Dec (x ≡ 0)
        → (par x < n → place (par x) < m → place (par x) < k → dist par row f m (par x) ≡ dist par row f k (par x))
        → dist par row f (suc m) x ≡ dist par row f (suc k) x
    pick (yes e) ih = dist_root par row f m x e ∙ sym (dist_root par row f k x e)
    pick (no q) ih =
        omega (
          arith,
          dist_more par row f m x q,
          dist_more par row f k x q,
          ih (T.fits x b q) (omega (arith, T.earlier x b q)) (omega (arith, T.earlier x b q)),
        )

pub far : (ℕ → ℕ) → (ℕ → ℕ) → ℕ → (ℕ → ℕ) → ℕ → ℕ
far par row n f x = dist par row f n x

pub far_sums : {n : ℕ} {par place : ℕ → ℕ} → Tree n par place → (row f : ℕ → ℕ) → Sums par row n f (far par row n f)
unfolding far
far_sums {n} {par} T row f x b q =
    dist_any T row f n (suc n) x b (T.within x b) (omega (arith, T.within x b)) ∙ dist_more par row f n x q
