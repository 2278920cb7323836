-- Answers to a test; and what a length that passes has, whichever way the limit is meant.
use Prim.Native.Nat.{ℕ, ◌+◌, ◌≤◌}
use mathlib.Core.Path.{◌≡◌, refl}
use mathlib.Core.Bool.{Bool, true, false, false≢true}
use native.Mathlib.Omega.{arith}
use Rattle.limits.specs.work.Fits.{Within, Fits, Decides}
use Rattle.limits.specs.declared.Limit.{Limit}

pub decides_false : {P : Type 0} → (P → ⊥) → Decides P false
decides_false n = record { holds = λ h. absurd (false≢true h); fails = λ _. n }

-- one test more, which holds
pub decides_both : {P Q : Type 0} {r : Bool} → Q → Decides P r → Decides (P × Q) r
decides_both q d = record { holds = λ h. (d.holds h, q); fails = λ h p. d.fails h p.0 }

-- an answer to a test is one
pub decides_only : {P : Type 0} (x y : Bool) → Decides P x → Decides P y → x ≡ y
decides_only true true p q = refl
decides_only true false p q = absurd (q.fails refl (p.holds refl))
decides_only false true p q = absurd (p.fails refl (q.holds refl))
decides_only false false p q = refl

-- a length fits exactly if it is at most the limit and, where that is exact, no less
within_most : (exact : Bool) (most x : ℕ) → Within exact most x → x ≤ most
within_most false most x h = h
within_most true most x h = omega (arith, h)

within_least : (exact : Bool) (most x : ℕ) → Within exact most x → exact ≡ true → most ≤ x
within_least false most x h e = absurd (false≢true e)
within_least true most x h e = omega (arith, h)

within : (exact : Bool) (most x : ℕ) → x ≤ most → (exact ≡ true → most ≤ x) → Within exact most x
within false most x h k = h
within true most x h k = omega (arith, h, k refl)

pub fits_most : (limit : Limit) (x : ℕ) → Fits limit x → x ≤ limit.most
fits_most limit = within_most limit.exact limit.most

pub fits_least : (limit : Limit) (x : ℕ) → Fits limit x → limit.exact ≡ true → limit.most ≤ x
fits_least limit = within_least limit.exact limit.most

pub fits_both : (limit : Limit) (x : ℕ) → x ≤ limit.most → (limit.exact ≡ true → limit.most ≤ x) → Fits limit x
fits_both limit = within limit.exact limit.most

-- the same limit and the same length, both raised by k
pub within_raised : (k : ℕ) (exact : Bool) (most x : ℕ) → Within exact most x → Within exact (most + k) (k + x)
within_raised k false most x h = omega (arith, h)
within_raised k true most x h = omega (arith, h)

pub within_lowered : (k : ℕ) (exact : Bool) (most x : ℕ) → Within exact (most + k) (k + x) → Within exact most x
within_lowered k false most x h = omega (arith, h)
within_lowered k true most x h = omega (arith, h)
