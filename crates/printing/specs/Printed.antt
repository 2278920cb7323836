-- What a writer whose bytes are known has, behind those that it had, when a report was printed: the whole of it, or
-- after an error a front of it.
use Rattle.std.specs.Prelude.{ℕ, List, Option}
use Rattle.std.specs.Io.KnownBytes.{Appends}
use Rattle.streams.specs.Front.{HasWritten}
use Rattle.reporting.specs.Report.{ReportOf}
use Rattle.reporting.specs.With.{ReportWith}

-- the report of the table s
abbrev pub Prints : List ℕ → Option (List ℕ) → Option (List ℕ) → Type 0
Prints s old new = (text : List ℕ) × ReportOf s text × Appends old new text

abbrev pub PrintsFront : List ℕ → Option (List ℕ) → Option (List ℕ) → Type 0
PrintsFront s old new = (text : List ℕ) × ReportOf s text × HasWritten old new text

-- the report of s with the change set c
abbrev pub PrintsWith : List ℕ → List ℕ → Option (List ℕ) → Option (List ℕ) → Type 0
PrintsWith s c old new = (text : List ℕ) × ReportWith s c text × Appends old new text

abbrev pub PrintsFrontWith : List ℕ → List ℕ → Option (List ℕ) → Option (List ℕ) → Type 0
PrintsFrontWith s c old new = (text : List ℕ) × ReportWith s c text × HasWritten old new text
