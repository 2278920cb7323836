-- Why acceptance refuses: its refusal, and zeros where it accepts.
use Rattle.std.specs.Prelude.{Ok, Err}
use Rattle.tree.specs.declared.Refusal.{Refusal}
use Rattle.tree.specs.Accept.{Acceptance}

abbrev pub why_of : Acceptance → Refusal
why_of (Ok net) = record { number = 0; row = 0; ring = 0 }
why_of (Err w) = w
