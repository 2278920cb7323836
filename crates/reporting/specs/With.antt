-- The report of a table with a change set: 1 to 6 of the table, 33 and 34 as its one line, and then the report of the
-- changed table.
use Rattle.std.specs.Prelude.{ℕ, ◌≡◌, List, length}
use Rattle.changeset.specs.With.{With}
use Rattle.lines.specs.Lines.{refused_text}
use Rattle.reporting.specs.Report.{ReportOf}

abbrev pub ReportWith : List ℕ → List ℕ → List ℕ → Type 0
ReportWith s c = With (List ℕ) refused_text s c ReportOf

-- so many bytes are the whole report of s with c
pub record WholeWith (s c : List ℕ) (gone : ℕ) : Type 0 where
  pub text : List ℕ
  pub report : ReportWith s c text
  pub all : length text ≡ gone
