-- Convert: an old set of marks is brought over, with no number changed, where every mark then reads as it did.
use Rattle.std.specs.Prelude.{◌≡◌, List, ℕ, ◌-◌, ◌≤◌, ◌<◌, length, Result, Ok, Err}
use Rattle.arrays.specs.At.{at}
use Rattle.table.specs.Refuse.{Unless, FirstBad}
use Rattle.table.specs.Header.{nodes_of}
use Rattle.tree.specs.Accept.{Begins}
use Rattle.convert.specs.Old.{ReadsOn}
use Rattle.tree.specs.declared.Refusal.{Refusal}

-- brought over, or why not
abbrev pub Conversion : Type 0
Conversion = Result (Unit {0}) Refusal

abbrev pub conversion_refusal : ℕ → ℕ → ℕ → Conversion
conversion_refusal k r g = Err (record { number = k; row = r; ring = g })

-- an old mark from 32,767 to 65,534: held by a run whose number is none any more
abbrev pub TooHigh : ℕ → Type 0
TooHigh m = (32767 ≤ m) × (m ≤ 65534)

-- k is 24 where row r has such a mark, 0 where not
abbrev pub MarkNumber : List ℕ → ℕ → ℕ → Type 0
MarkNumber marks r = Unless ℕ 24 (TooHigh (at marks r) → ⊥) (λ k. k ≡ 0)

-- every mark reads as it did
abbrev pub GivesMarks : List ℕ → Conversion → Type 0
GivesMarks marks (Ok done) = (r : ℕ) → r < length marks → ReadsOn (at marks r)
GivesMarks marks (Err why) = ⊥

-- 24 over all marks, the first such row named
abbrev pub EachMark : List ℕ → Conversion → Type 0
EachMark marks =
    FirstBad Conversion (λ k r. conversion_refusal k r 0) (length marks) (MarkNumber marks) (GivesMarks marks)

-- 13, of a net of n nodes, then each mark
abbrev pub Converting : ℕ → List ℕ → Conversion → Type 0
Converting n marks = Unless Conversion (conversion_refusal 13 0 0) (length marks ≡ n - 1) (EachMark marks)

abbrev pub Converts : List ℕ → List ℕ → Conversion → Type 0
Converts s marks = Begins Conversion conversion_refusal s (Converting (nodes_of s) marks)
