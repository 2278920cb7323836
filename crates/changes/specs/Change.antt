-- What claim, commit and abort leave: the answer, which is why they were refused or how many marks changed, and the
-- lent marks. And what commit and abort promise.
use Rattle.std.specs.Prelude.{◌≡◌, List, ℕ, ◌-◌, length, Result, Ok, Err}
use Rattle.arrays.specs.At.{at}
use Rattle.table.specs.Refuse.{Unless}
use Rattle.table.specs.Header.{nodes_of}
use Rattle.net.specs.Count.{Count}
use Rattle.tree.specs.Accept.{Begins}
use Rattle.marks.specs.Mark.{free, spend, HeldBy, RunNumber}
use Rattle.tree.specs.declared.Refusal.{Refusal}

-- how many marks changed, or why none
abbrev pub Change : Type 0
Change = Result ℕ Refusal

-- a refusal: number, row and ring, and the marks as they were
abbrev pub change_refusal : List ℕ → ℕ → ℕ → ℕ → Change × List ℕ
change_refusal before k r g = (Err (record { number = k; row = r; ring = g }), before)

-- each mark at a place of P becomes m, no other mark changes, and k is how many places P has
pub record Changes (P : ℕ → Type 0) (m : ℕ) (before after : List ℕ) (k : ℕ) : Type 0 where
  pub same_many : length after ≡ length before
  pub becomes : (r : ℕ) → P r → at after r ≡ m
  pub stays : (r : ℕ) → (P r → ⊥) → at after r ≡ at before r
  pub count : Count P k

-- nothing is refused, and the marks change so
abbrev pub Done : (ℕ → Type 0) → ℕ → List ℕ → Change × List ℕ → Type 0
Done P m before (Ok k, after) = Changes P m before after k
Done P m before (Err w, after) = ⊥

-- 13 and 14, of a net of n nodes: one mark for each branch, and a run's number; then as the rest says
abbrev pub MarksAndRun : ℕ → List ℕ → ℕ → (Change × List ℕ → Type 0) → Change × List ℕ → Type 0
MarksAndRun n before run rest =
    Unless (Change × List ℕ) (change_refusal before 13 0 0) (length before ≡ n - 1)
    (Unless (Change × List ℕ) (change_refusal before 14 0 0) (RunNumber run)
    rest)

-- each branch that the run holds, unspent, becomes m
abbrev pub Settling : ℕ → ℕ → List ℕ → ℕ → Change × List ℕ → Type 0
Settling m n before run = MarksAndRun n before run (Done (λ r. HeldBy run (at before r)) m before)

abbrev pub Settles : ℕ → List ℕ → List ℕ → ℕ → Change × List ℕ → Type 0
Settles m s before run = Begins (Change × List ℕ) (change_refusal before) s (Settling m (nodes_of s) before run)

-- commit: spent, the run staying in the mark; abort: free
abbrev pub Commits : List ℕ → List ℕ → ℕ → Change × List ℕ → Type 0
Commits s before run = Settles (spend run) s before run

abbrev pub Aborts : List ℕ → List ℕ → ℕ → Change × List ℕ → Type 0
Aborts s before run = Settles free s before run
