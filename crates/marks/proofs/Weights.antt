-- What `lifted_under` gives is the lift of what the branch weighs under its mark, and one number only: the lesser of
-- two lifts is the lift of the lesser. Marks that are free at the same places weigh every branch alike: whoever reads
-- marks through `weight_under` cannot tell holders apart; and marks that are free at more places weigh no branch less.
use mathlib.Core.Path.{◌≡◌, refl, sym, ap, ◌∙◌}
use mathlib.Core.List.{List}
use Prim.Native.Nat.{ℕ, zero, suc, ◌-◌, ◌≤◌, ◌<◌, min}
use native.Mathlib.Nat.{min-eq_left, min-eq_right, min-le_right}
use native.Mathlib.Decide.{ℕ_discrete}
use native.Mathlib.Omega.{arith}
use lib.Dec.{leb-zero}
use lib.IntN.{ℤ, pos, negsuc, nat_abs}
use lib.Signed.{◌≤ℤ◌, ≤ℤ_refl}
use Rattle.arrays.specs.At.{at}
use Rattle.table.specs.Bound.{SameButBound}
use Rattle.table.specs.Refuse.{Only}
use Rattle.table.specs.work.Diff.{Diff, up, down}
use Rattle.table.proofs.Only.{lifted_only}
use Rattle.table.proofs.Near.{within_near}
use Rattle.net.specs.work.Net.{Net}
use Rattle.net.specs.Net.{weight_of}
use Rattle.net.proofs.Bound.{weight_same}
use Rattle.marks.specs.Mark.{Free}
use Rattle.marks.specs.Weighs.{lesser, weighs, weight_under}
use Rattle.marks.specs.work.Lifted.{LiftedUnder}

pub weighs_free : (m : ℕ) (w : ℤ) → Free m → weighs m w ≡ w
unfolding weighs
weighs_free zero w e = refl
weighs_free (suc m) w e = absurd (omega arith)

pub weighs_marked : (m : ℕ) (w : ℤ) → (Free m → ⊥) → weighs m w ≡ lesser (pos 0) w
unfolding weighs
weighs_marked zero w n = absurd (n refl)
weighs_marked (suc m) w n = refl

lesser_lifts : {q c : ℕ} {w : ℤ} → Diff q c w → Diff (min q c) c (lesser (pos 0) w)
lesser_lifts {q} {c} (up n h) = rw (leb-zero n, min-eq_right {n = c} {m = q} (omega arith)) (up 0 (omega arith))
lesser_lifts {q} {c} (down n h) = rw (min-eq_left {n = q} {m = c} (omega arith)) (down n h)

lesser_near : (w : ℤ) → nat_abs (lesser (pos 0) w) ≤ nat_abs w
lesser_near (pos n) = rw (leb-zero n) (omega arith)
lesser_near (negsuc n) = omega arith

-- of a net's row
module _ {s marks : List ℕ} {n r q : ℕ} (N : Net s n) (h : r < n - 1) (l : LiftedUnder s marks r q) where
  pub under_lifts : Diff q 1000000 (weight_under s marks r)
  unfolding weight_under weight_of
  under_lifts = pick (ℕ_discrete (at marks r) 0)
    where
      own : Diff l.lift 1000000 (weight_of s r)
      own = l.own.lifts (N.stands r h) (N.within r h)

      pick : Dec (Free (at marks r)) → Diff q 1000000 (weighs (at marks r) (weight_of s r))
      pick (yes e) = rw (weighs_free (at marks r) (weight_of s r) e) (rw (l.free e) own)
      pick (no m) = rw (weighs_marked (at marks r) (weight_of s r) m, l.marked m) (lesser_lifts own)

  pub under_small : q ≤ 2000000
  under_small = pick (ℕ_discrete (at marks r) 0)
    where
      pick : Dec (Free (at marks r)) → q ≤ 2000000
      pick (yes e) = omega (arith, l.free e, l.own.small)
      pick (no m) = omega (arith, l.marked m, min-le_right l.lift 1000000)

-- marked or not, no branch weighs farther than 1,000,000 from 0
pub under_near : {s : List ℕ} {n r : ℕ} (marks : List ℕ) → Net s n → r < n - 1
    → nat_abs (weight_under s marks r) ≤ 1000000
unfolding weight_under
under_near {s} {n} {r} marks N h = pick (ℕ_discrete (at marks r) 0)
  where
    near : nat_abs (weight_of s r) ≤ 1000000
    near = within_near (weight_of s r) (N.within r h)

    pick : Dec (Free (at marks r)) → nat_abs (weighs (at marks r) (weight_of s r)) ≤ 1000000
    pick (yes e) = rw (weighs_free (at marks r) (weight_of s r) e) near
    pick (no m) = rw (weighs_marked (at marks r) (weight_of s r) m) (omega (arith, near, lesser_near (weight_of s r)))

pub under_only : (s marks : List ℕ) (r : ℕ) → Only (LiftedUnder s marks r)
under_only s marks r x y p q = pick (ℕ_discrete (at marks r) 0)
  where
    lift : p.lift ≡ q.lift
    lift = lifted_only s r p.lift q.lift p.own q.own

    pick : Dec (Free (at marks r)) → x ≡ y
    pick (yes e) = p.free e ∙ lift ∙ sym (q.free e)
    pick (no m) = p.marked m ∙ ap (λ l. min l 1000000) lift ∙ sym (q.marked m)

-- HOLDERS NEVER SHOW. Free at the same places: every branch weighs the same
abbrev pub Alike : List ℕ → List ℕ → Type 0
Alike marks marks' = (r : ℕ) → (Free (at marks r) → Free (at marks' r)) × (Free (at marks' r) → Free (at marks r))

pub holders_alike : (s marks marks' : List ℕ) → Alike marks marks' → (r : ℕ)
    → weight_under s marks r ≡ weight_under s marks' r
unfolding weight_under
holders_alike s marks marks' a r = pick (ℕ_discrete (at marks r) 0)
  where
    w : ℤ
    w = weight_of s r

    pick : Dec (Free (at marks r)) → weighs (at marks r) w ≡ weighs (at marks' r) w
    pick (yes e) = weighs_free (at marks r) w e ∙ sym (weighs_free (at marks' r) w ((a r).0 e))
    pick (no m) = weighs_marked (at marks r) w m ∙ sym (weighs_marked (at marks' r) w (λ e. m ((a r).1 e)))

-- FREEING NEVER COSTS. What is free under the first marks is free under the second: no branch weighs less under these
abbrev pub Freer : List ℕ → List ℕ → Type 0
Freer marks marks' = (r : ℕ) → Free (at marks r) → Free (at marks' r)

lesser_at_most : (w : ℤ) → lesser (pos 0) w ≤ℤ w
lesser_at_most (pos n) = rw (leb-zero n) (record { le = rw (leb-zero n) tt })
lesser_at_most (negsuc n) = ≤ℤ_refl (negsuc n)

pub freer_weighs : (s marks marks' : List ℕ) → Freer marks marks' → (r : ℕ)
    → weight_under s marks r ≤ℤ weight_under s marks' r
unfolding weight_under
freer_weighs s marks marks' f r = pick (ℕ_discrete (at marks r) 0) (ℕ_discrete (at marks' r) 0)
  where
    w : ℤ
    w = weight_of s r

    pick : Dec (Free (at marks r)) → Dec (Free (at marks' r)) → weighs (at marks r) w ≤ℤ weighs (at marks' r) w
    pick (yes e) (yes g) = rw (weighs_free (at marks r) w e, weighs_free (at marks' r) w g) (≤ℤ_refl w)
    pick (yes e) (no m) = absurd (m (f r e))
    pick (no m) (yes g) = rw (weighs_marked (at marks r) w m, weighs_free (at marks' r) w g) (lesser_at_most w)
    pick (no m) (no o) =
        rw (weighs_marked (at marks r) w m, weighs_marked (at marks' r) w o) (≤ℤ_refl (lesser (pos 0) w))

-- two tables equal but for the bytes of B weigh every branch alike
pub under_same : {s t : List ℕ} → SameButBound s t → (marks : List ℕ) → weight_under s marks ≡ weight_under t marks
unfolding weight_under
under_same e marks = λ i r. weighs (at marks r) (weight_same e i r)
