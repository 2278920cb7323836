-- The row reader: what it holds after opening, what a step hands back and where the reader then stands.
use Rattle.std.specs.Prelude.{◌≡◌, List, [], ℕ}
use Rattle.table.specs.Header.{Header}
use Rattle.table.specs.Row.{PartOf, NextOf}

-- what a reader holds of the table s, which lies at `home`: all of it, or where the header is refused an empty part;
-- and where that lies
pub record HeldOf (s : List ℕ) (home : ℕ × ℕ) (q : List ℕ) (place : ℕ × ℕ) : Type 0 where
  pub own : place ≡ home
  pub bytes : Header (List ℕ) (λ _ _. []) s (λ x. x ≡ s) q

-- a step of a reader that holds s and stands at row r: the part handed back, and the row it then stands at
pub record Stepped (s : List ℕ) (home : ℕ × ℕ) (r : ℕ) (q : List ℕ) (place : ℕ × ℕ) (next : ℕ) : Type 0 where
  pub part : PartOf s home r q place
  pub moved : NextOf s r next

-- the part of row 0 of what a reader of s holds
pub record FirstOf (s : List ℕ) (home : ℕ × ℕ) (q : List ℕ) (place : ℕ × ℕ) : Type 0 where
  pub kept : List ℕ
  pub kept_at : ℕ × ℕ
  pub of : HeldOf s home kept kept_at
  pub part : PartOf kept kept_at 0 q place
