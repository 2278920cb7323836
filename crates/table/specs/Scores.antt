-- Cell kinds and their scores, which give the weight of a version 2 row.
use Rattle.std.specs.Prelude.{cond, List, [], ◌∷◌, ℕ, ltb, get_or, ℤ, pos, negsuc}

-- kinds 0 to 23, in order
abbrev pub scores : List ℕ
scores =
    1 ∷ 2 ∷ 2 ∷ 3 ∷ 3 ∷ 4 ∷ 4 ∷ 5 ∷ 6 ∷ 6 ∷ 8 ∷ 8 ∷ 10 ∷ 10 ∷ 12 ∷ 12 ∷ 14 ∷ 14 ∷ 16 ∷ 16 ∷ 18 ∷ 20 ∷ 22 ∷ 24 ∷ []

-- 24 to 31 are filler and score 0; 32 to 63 are blocked ground and score −50 (`negsuc n` is −1 − n); higher ones are
-- unknown, which 22 refuses, and here they score 0
abbrev pub score_of : ℕ → ℤ
score_of kind =
    cond (ltb kind 24) (pos (get_or scores kind 0))
    (cond (ltb kind 32) (pos 0)
    (cond (ltb kind 64) (negsuc 49)
    (pos 0)))
