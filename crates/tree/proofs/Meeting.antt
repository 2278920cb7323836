-- The climb that finds where two climbs meet: whatever is above both nodes is above where both climbs stand. The later
-- of the two is above the other's climb nowhere, so nothing common is lost when it steps up.
use Prim.Native.Nat.{ℕ, ◌-◌, ◌≤◌, ◌<◌}
use mathlib.Core.Path.{◌≡◌, refl, ap}
use mathlib.Core.Logic.{◌⊎◌, inl, inr, ◌≢◌}
use mathlib.Core.List.{List}
use native.Mathlib.Omega.{arith}
use native.Mathlib.Decide.{dec_lt}
use Rattle.arrays.specs.At.{at}
use Rattle.net.specs.Net.{first_end, second_end}
use Rattle.net.specs.work.Net.{Net}
use Rattle.net.specs.work.Rooted.{Above, self, up}
use Rattle.net.specs.work.Rise.{Rise, row_of}
use Rattle.reach.specs.work.Grown.{Grown}
use Rattle.reach.specs.work.Walked.{Walked}
use Rattle.tree.specs.work.Meet.{Meets, Hung}
use Rattle.net.proofs.Rooted.{above_inv}
use Rattle.net.proofs.Above.{above_trans}
use Rattle.net.proofs.Rises.{TwoRises, two_rises}
use Rattle.reach.proofs.Grown.{same_place, root_place}
use Rattle.reach.proofs.NetWalk.{walk_grown, walk_rooted}

pub grown_hung : {n : ℕ} {parent order place : List ℕ} → Grown n parent order place → Hung n parent place
grown_hung g =
    record { few = g.some.1; fits = g.fits; earlier = g.earlier; same = same_place g; first = root_place g }

-- climbs from x and y stand at a and b
pub record Meeting (n : ℕ) (par : ℕ → ℕ) (x y a b : ℕ) : Type 0 where
  pub fits_a : a < n
  pub fits_b : b < n
  pub above_x : Above par a x
  pub above_y : Above par b y
  pub common : (z : ℕ) → Above par z x → Above par z y → Above par z a × Above par z b

pub meeting_flip : {n : ℕ} {par : ℕ → ℕ} {x y a b : ℕ} → Meeting n par x y a b → Meeting n par y x b a
meeting_flip m =
    record {
      fits_a = m.fits_b;
      fits_b = m.fits_a;
      above_x = m.above_y;
      above_y = m.above_x;
      common = λ z h k. let t = m.common z k h in (t.1, t.0);
    }

pub meeting_start : {n : ℕ} (par : ℕ → ℕ) {x y : ℕ} → x < n → y < n → Meeting n par x y x y
meeting_start par b c = record { fits_a = b; fits_b = c; above_x = self; above_y = self; common = λ z h k. (h, k) }

pub meeting_end : {n : ℕ} {par : ℕ → ℕ} {x y a b : ℕ} → a ≡ b → Meeting n par x y a b → Meets par x y a
meeting_end {par = par} e m =
    record { first = m.above_x; second = rw e m.above_y; lowest = λ z h k. (m.common z h k).0 }

module _ {n : ℕ} {parent place : List ℕ} (H : Hung n parent place) where
  later_up : {t x : ℕ} → x < n → Above (at parent) t x → at place t ≤ at place x
  later_up b self = omega arith
  later_up {t} {x} b (up z e h) = omega (arith, rw e at (H.earlier x b z), later_up (rw e at (H.fits x b z)) h)

  -- the later one is not node 0, and its parent stands earlier
  pub later_low : {a b : ℕ} → b < n → at place b < at place a → a ≢ 0
  later_low c l e = omega (arith, ap (at place) e, H.first)

  pub apart_later : {a b : ℕ} → a < n → b < n → a ≢ b → at place b ≤ at place a → at place b < at place a
  apart_later {a} {b} fa fb m l = pick (dec_lt (at place b) (at place a))
    where
      pick : Dec (at place b < at place a) → at place b < at place a
      pick (yes h) = h
      pick (no h) = absurd (m (H.same a b fa fb (omega arith)))

  pub meeting_step : {x y a b p : ℕ} → at place b < at place a → p ≡ at parent a → Meeting n (at parent) x y a b
      → Meeting n (at parent) x y p b
  meeting_step {x} {y} {a} {b} {p} l q m =
      let z = later_low m.fits_b l in
      rw q (record {
        fits_a = H.fits a m.fits_a z;
        fits_b = m.fits_b;
        above_x = above_trans (up z refl self) m.above_x;
        above_y = m.above_y;
        common = λ w h k. let t = m.common w h k in (one_up w t.1 (above_inv t.0), t.1);
      })
    where
      one_up : (w : ℕ) → Above (at parent) w b → (w ≡ a) ⊎ ((a ≢ 0) × Above (at parent) w (at parent a))
          → Above (at parent) w (at parent a)
      one_up w h (inl e) = absurd (omega (arith, later_up m.fits_b h, ap (at place) e))
      one_up w h (inr s) = s.1

  -- they meet at one node
  fits_above : {t x : ℕ} → x < n → Above (at parent) t x → t < n
  fits_above b self = b
  fits_above {t} {x} b (up z e h) = fits_above (rw e at (H.fits x b z)) h

  pub meets_only : {x y t w : ℕ} → x < n → Meets (at parent) x y t → Meets (at parent) x y w → t ≡ w
  meets_only {x} {y} {t} {w} b p q =
      let ft = fits_above b p.first in
      let fw = fits_above b q.first in
      H.same t w ft fw
      (omega (
        arith,
        later_up fw (q.lowest t p.first p.second),
        later_up ft (p.lowest w q.first q.second),
      ))

  -- what is on the climb of y below the meeting is not above x
  meets_apart : {x y t z : ℕ} → x < n → Meets (at parent) x y t → Above (at parent) t z → Above (at parent) z y
      → z ≢ t → ¬ Above (at parent) z x
  meets_apart {x} {y} {t} {z} b m h k d a =
      let ft = fits_above b m.first in
      let fz = fits_above b a in
      d (H.same z t fz ft (omega (arith, later_up ft (m.lowest z a k), later_up fz h)))

-- In the walk of an accepted net: the path from x to y has the rows of their climbs to where they meet
module _ {s : List ℕ} {n : ℕ} {parent half order place : List ℕ} (N : Net s n)
    (W : Walked (first_end s) (second_end s) (n - 1) n parent half order place) where
  pub walk_hung : Hung n parent place
  walk_hung = grown_hung (walk_grown N W)

  pub walk_rises : {x y t : ℕ} {ups downs : List ℕ} → x < n → y < n → Meets (at parent) x y t
      → Rise (at parent) (row_of half) t x ups → Rise (at parent) (row_of half) t y downs
      → TwoRises (walk_rooted N W) x y ups downs
  walk_rises bx by m h j = two_rises (walk_rooted N W) bx by h j (λ z a b d. meets_apart walk_hung bx m a b d)
