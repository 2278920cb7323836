-- The two ends of a row, the rows but one, a row that closes a ring, and that fewer rows fit too.
use Prim.Native.Nat.{ℕ, ◌≤◌, ◌<◌}
use mathlib.Core.Path.{◌≡◌}
use mathlib.Core.Logic.{◌⊎◌, inl, inr, ◌≢◌}
use native.Mathlib.Omega.{arith}
use Rattle.net.specs.Graph.{Ends, RingAt}
use Rattle.net.specs.work.Rows.{RowsFit}

-- the rows of P other than r
abbrev pub But : (ℕ → Type 0) → ℕ → ℕ → Type 0
But P r s = P s × (s ≢ r)

module _ (u v : ℕ → ℕ) where
  -- a is an end of row r
  abbrev pub End : ℕ → ℕ → Type 0
  End r a = (u r ≡ a) ⊎ (v r ≡ a)

  -- one of the first k rows closes a ring
  abbrev pub Closes : ℕ → Type 0
  Closes k = (r : ℕ) × (r < k) × RingAt u v r

  pub ends_flip : {r a c : ℕ} → Ends u v r a c → Ends u v r c a
  ends_flip (inl e) = inr e
  ends_flip (inr e) = inl e

  pub ends_left : {r a c : ℕ} → Ends u v r a c → End r a
  ends_left (inl e) = inl e.0
  ends_left (inr e) = inr e.1

  pub other : {r a c d : ℕ} → Ends u v r a c → Ends u v r a d → c ≡ d
  other (inl e) (inl f) = cc
  other (inl e) (inr f) = cc
  other (inr e) (inl f) = cc
  other (inr e) (inr f) = cc

  pub ends_one : {r a c x : ℕ} → Ends u v r a c → End r x → (a ≡ x) ⊎ (c ≡ x)
  ends_one (inl e) (inl f) = inl (cc)
  ends_one (inl e) (inr f) = inr (cc)
  ends_one (inr e) (inl f) = inr (cc)
  ends_one (inr e) (inr f) = inl (cc)

pub fit_less : {us vs : ℕ → ℕ} {k m n : ℕ} → m ≤ k → RowsFit us vs k n → RowsFit us vs m n
fit_less l f = record { first = λ r h. f.first r (omega arith); second = λ r h. f.second r (omega arith) }
