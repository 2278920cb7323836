-- What a C function leaves: the number returned, the eight numbers of `answer`, and the memory lent to be written.
use Rattle.std.specs.Prelude.{ℕ, List, [], ◌∷◌, ℤ, pos}

-- number, row, ring, up to four fields of the operation, 0
abbrev pub eight_of : ℕ → ℕ → ℕ → ℤ → ℤ → ℤ → ℤ → List ℤ
eight_of k r g a b c d = pos k ∷ pos r ∷ pos g ∷ a ∷ b ∷ c ∷ d ∷ pos 0 ∷ []

-- all that a call leaves; the lent memory is [] where none is lent to be written
pub record Call : Type 0 where
  pub returned : ℕ
  pub answer : List ℤ
  pub lent : List ℕ

abbrev pub call : ℕ → List ℤ → List ℕ → Call
call k l m = record { returned = k; answer = l; lent = m }

-- the number that is returned is the first of the eight
abbrev pub in_c : ℕ → ℕ → ℕ → ℤ → ℤ → ℤ → ℤ → List ℕ → Call
in_c k r g a b c d m = call k (eight_of k r g a b c d) m
