-- The form of every refusal, stated by the good condition, and what it is that a promise allows one outcome.
use Rattle.std.specs.Prelude.{◌≡◌, ℕ, ◌<◌}

-- unless Ok holds the outcome is `no`; where it holds, the outcome is as the rest says
pub data Unless (A : Type 0) (no : A) (Ok : Type 0) (rest : A → Type 0) : A → Type 0 where
  refused : (Ok → ⊥) → Unless A no Ok rest no
  passed : {x : A} → Ok → rest x → Unless A no Ok rest x

-- each row below m has a number, 0 for a good one: the first row whose number is not 0 is named; where there is none,
-- the outcome is as the rest says
pub data FirstBad (A : Type 0) (refusal : ℕ → ℕ → A) (m : ℕ) (Number : ℕ → ℕ → Type 0) (rest : A → Type 0) : A → Type
    0 where
  bad : (r k : ℕ) → r < m → ((i : ℕ) → i < r → Number i 0) → Number r k → (k ≡ 0 → ⊥)
      → FirstBad A refusal m Number rest (refusal k r)
  fine : {x : A} → ((i : ℕ) → i < m → Number i 0) → rest x → FirstBad A refusal m Number rest x

-- no two differing outcomes satisfy P
abbrev pub Only : {A : Type 0} → (A → Type 0) → Type 0
Only {A} P = (x y : A) → P x → P y → x ≡ y
