-- The report of a table as text, all branches free; and how much of it has gone before.
use Rattle.std.specs.Prelude.{ℕ, ◌-◌, ◌≤◌, ◌<◌, ◌≡◌, List, ◌++◌, length, replicate}
use Rattle.tree.specs.Accept.{acceptance, acceptance_refusal, Accepts}
use Rattle.marks.specs.Mark.{free}
use Rattle.pages.specs.Listing.{Entry, Listing}
use Rattle.pages.specs.Passes.{Passes}
use Rattle.ground.specs.PathOf.{PathOf}
use Rattle.heaviest.specs.Heaviest.{between, heaviest_refusal, HeaviestOf}
use Rattle.lines.specs.Lines.{refused_text, net_text, best_text, pairs_text, total_text}

-- every branch of a net of n nodes is free
abbrev pub all_free : ℕ → List ℕ
all_free n = replicate (n - 1) free

-- the pairs within the bound that weigh what e weighs
abbrev pub Weighing : List ℕ → ℕ → ℕ → Entry → Entry → Type 0
Weighing s n b e = Passes (PathOf s (all_free n) n) (λ l. l ≤ b) (λ w. w ≡ e.weight) n

-- t is the report of the table s: one line where acceptance or heaviest refuses; else node count and bound, the
-- heaviest run, every pair of that weight within the bound in pair order, and their number
pub data ReportOf (s : List ℕ) : List ℕ → Type 0 where
  refused : {k r g : ℕ} → Accepts s (acceptance_refusal k r g) → ReportOf s (refused_text k r g)
  none : {n b k r g : ℕ} → Accepts s (acceptance n b) → HeaviestOf s (all_free n) (heaviest_refusal k r g)
      → ReportOf s (refused_text k r g)
  lines : {n b : ℕ} {e : Entry} {l : List Entry} → Accepts s (acceptance n b)
      → HeaviestOf s (all_free n) (between e.low e.high e.length e.weight) → Listing (Weighing s n b e) l
      → ReportOf s ((net_text n b ++ best_text e) ++ (pairs_text l ++ total_text (length l)))

-- of the report of s so many bytes went before, and these are still to come; none to come: it has ended. (No report is
-- so long that a place in it would not fit 64 bits.)
pub record Rest (s : List ℕ) (gone : ℕ) (bytes : List ℕ) : Type 0 where
  pub before : List ℕ
  pub report : ReportOf s (before ++ bytes)
  pub place : length before ≡ gone
  pub few : length (before ++ bytes) < 9223372036854775808

-- the bytes that come next
pub record Next (s : List ℕ) (gone : ℕ) (bytes : List ℕ) : Type 0 where
  pub later : List ℕ
  pub rest : Rest s gone (bytes ++ later)
