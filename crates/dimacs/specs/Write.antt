-- Writing: the two road-graph texts of a table of version 1.
use Rattle.std.specs.Prelude.{ℕ, ◌-◌, ◌≤◌, ◌≡◌, List, ◌++◌, length, drop, Result, Ok, Err}
use Rattle.table.specs.Refuse.{Unless}
use Rattle.table.specs.Header.{Lettered, version_of, nodes_of}
use Rattle.tree.specs.Accept.{Begins}
use Rattle.written.specs.Written.{Written, length_arc, weight_arc}
use Rattle.tree.specs.declared.Refusal.{Refusal}
use Rattle.dimacs.specs.declared.Texts.{Texts}

-- the sizes of the two texts, or why not
abbrev pub WriteAnswer : Type 0
WriteAnswer = Result Texts Refusal

abbrev pub both_texts : ℕ → ℕ → WriteAnswer
both_texts k j = Ok (record { lengths = k; weights = j })

-- the answer, and the two lent memories after
abbrev pub Wrote : Type 0
Wrote = WriteAnswer × List ℕ × List ℕ

abbrev pub write_refused : ℕ → ℕ → ℕ → WriteAnswer
write_refused k r g = Err (record { number = k; row = r; ring = g })

-- a refusal leaves both as they were
abbrev pub write_refusal : List ℕ → List ℕ → ℕ → ℕ → ℕ → Wrote
write_refusal lengths weights k r g = (write_refused k r g, lengths, weights)

-- the text t in lent bytes, those beyond it as they were
abbrev pub text_in : List ℕ → List ℕ → List ℕ
text_in t old = t ++ drop (length t) old

-- the two texts of the rows of an accepted table of n nodes; 29 where there is no room for either, else both, and their
-- sizes
pub record GivesTexts (s : List ℕ) (n : ℕ) (lengths weights : List ℕ) (o : Wrote) : Type 0 where
  pub long : List ℕ
  pub heavy : List ℕ
  pub long_is : Written 4294967295 0 n (length_arc s) (n - 1) long
  pub heavy_is : Written 2147483647 2147483648 n (weight_arc s) (n - 1) heavy
  pub outcome : Unless Wrote (write_refusal lengths weights 29 0 0)
      ((length long ≤ length lengths) × (length heavy ≤ length weights))
      (λ x. x ≡ (both_texts (length long) (length heavy), text_in long lengths, text_in heavy weights)) o

-- what says of a table whether it is of version 1
abbrev pub version_refusal : ℕ → ℕ → ℕ → Result Unit Refusal
version_refusal k r g = Err (record { number = k; row = r; ring = g })

-- 1, 2, and 3 for any other version than 1; and then as the rest says
abbrev pub VersionOne : (A : Type 0) → (ℕ → ℕ → ℕ → A) → List ℕ → (A → Type 0) → A → Type 0
VersionOne A refuse s rest =
    Unless A (refuse 1 0 0) (12 ≤ length s)
    (Unless A (refuse 2 0 0) (Lettered s)
    (Unless A (refuse 3 0 0) (version_of s ≡ 1)
    rest))

-- 1 to 11, where 3 is any other version than 1; then the texts
abbrev pub WriteOf : List ℕ → List ℕ → List ℕ → Wrote → Type 0
WriteOf s lengths weights =
    VersionOne Wrote (write_refusal lengths weights) s
    (Begins Wrote (write_refusal lengths weights) s (GivesTexts s (nodes_of s) lengths weights))
