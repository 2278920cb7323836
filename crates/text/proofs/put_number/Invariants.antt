-- `put_number` stores the digits from the last on: those still to come, stored, would make the whole number.
use mathlib.Core.Path.{◌≡◌}
use lib.Seq.{sets}
use Rattle.text.proofs.Decimals.{digits}
use Rattle.text.proofs.put_number.Given as goal

abbrev pub invariant-loop-j : goal.invariant-loop-j
invariant-loop-j l = sets l.out l.at (digits l.j l.rest) ≡ sets l.initial.out l.at (digits l.k l.x)
