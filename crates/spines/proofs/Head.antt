-- Heads: each node has one, a spine is one stretch of a climb, and a node heads its own spine exactly if it is no one's
-- main child.
use Prim.Native.Nat.{ℕ, zero, suc, ◌<◌}
use mathlib.Core.Path.{◌≡◌, refl, sym, ap, ◌∙◌}
use mathlib.Core.Logic.{◌⊎◌, inl, inr, ◌≢◌}
use native.Mathlib.Omega.{arith}
use native.Mathlib.Decide.{ℕ_discrete}
use Rattle.net.specs.work.Rooted.{Above, self, up}
use Rattle.net.proofs.Rooted.{above_inv}
use Rattle.net.proofs.Above.{Tree, place_up, above_anti}
use Rattle.spines.specs.Spine.{Main, Head, top, down}
use Rattle.spines.specs.work.Parents.{Child}
use Rattle.spines.proofs.Below.{child_later}
use Rattle.spines.proofs.Main.{main?}

pub head_fits : {n : ℕ} {par : ℕ → ℕ} {h x : ℕ} → Head (Child n par) n h x → x < n
head_fits (top b o) = b
head_fits (down m h) = m.child.fits

pub head_above : {n : ℕ} {par : ℕ → ℕ} {h x : ℕ} → Head (Child n par) n h x → Above par h x
head_above (top b o) = self
head_above (down m h) = up m.child.low m.child.of (head_above h)

-- where a child has one parent, a node has one head
pub head_only : {C : ℕ → ℕ → Type 0} {n : ℕ} → ((p q c : ℕ) → C p c → C q c → p ≡ q) → {h g x : ℕ} → Head C n h x
    → Head C n g x → h ≡ g
head_only one (top b o) (top b' o') = refl
head_only one (top b o) (down {p} m k) = absurd (o p m)
head_only one (down {p} m k) (top b o) = absurd (o p m)
head_only one (down {h} {p} {x} m k) (down {p = q} m' k') =
    head_only one k (rw (one q p x m'.child m.child) at k')

pub head_one : {n : ℕ} {par : ℕ → ℕ} {h g x : ℕ} → Head (Child n par) n h x → Head (Child n par) n g x → h ≡ g
head_one k l = head_only (λ p q c i j. sym i.of ∙ j.of) k l

pub head_own : {n : ℕ} {par : ℕ → ℕ} {h x : ℕ} → Head (Child n par) n h x → Head (Child n par) n h h
head_own (top b o) = top b o
head_own (down m h) = head_own h

module _ {n : ℕ} {par place : ℕ → ℕ} (T : Tree n par place) where
  -- a spine is one stretch of the climb
  pub head_between : {h x t : ℕ} → Head (Child n par) n h x → Above par t x → Above par h t → Head (Child n par) n h t
  head_between {h} {t} (top b o) a k = rw (above_anti T b a k) (top b o)
  head_between {h} {x} {t} (down {p} m j) a k = pick (above_inv a) (head_between j)
    where
      pick : (t ≡ x) ⊎ ((x ≢ 0) × Above par t (par x)) → (Above par t p → Above par h t → Head (Child n par) n h t)
          → Head (Child n par) n h t
      pick (inl e) ih = rw e (down m j)
      pick (inr s) ih = ih (rw m.child.of at s.1) k

  -- a node that is its own head is no main child
  own_not_main_at : {p h x : ℕ} → Head (Child n par) n h x → h ≡ x → ¬ Main (Child n par) n p x
  own_not_main_at {p} (top b o) e m = o p m
  own_not_main_at {p} {h} {x} (down m' k) e m =
      omega (arith, e, ap place e, child_later T m'.child, place_up T (head_fits k) (head_above k))

  pub own_not_main : {p x : ℕ} → Head (Child n par) n x x → ¬ Main (Child n par) n p x
  own_not_main k m = own_not_main_at k refl m

  unfoldable pub head_some : (m x : ℕ) → x < n → place x < m → (h : ℕ) × Head (Child n par) n h x
  head_some zero x b l = absurd (omega arith)
  head_some (suc m) x b l = pick (ℕ_discrete x 0) (main? T (par x) x) (head_some m (par x))
    where
      pick : Dec (x ≡ 0) → Dec (Main (Child n par) n (par x) x)
          → (par x < n → place (par x) < m → (h : ℕ) × Head (Child n par) n h (par x))
          → (h : ℕ) × Head (Child n par) n h x
      pick (yes z) d ih = (x, top b (λ p k. k.child.low z))
      pick (no z) (no q) ih = (x, top b (λ p k. q (rw k.child.of k)))
      pick (no z) (yes k) ih = let t = ih (T.fits x b z) (omega (arith, T.earlier x b z)) in (t.0, down k t.1)

  -- the head of x
  pub head_of : (x : ℕ) → x < n → (h : ℕ) × Head (Child n par) n h x
  head_of x b = head_some (suc (place x)) x b (omega arith)
