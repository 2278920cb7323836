-- `changes::along::take` meets its contract: the mark is set exactly where it was free.
use mathlib.Core.Path.{refl}
use Rattle.changes.proofs.along.take.Goals as goal

pub returns-then-marks-row-eq-FREE : goal.returns-then-marks-row-eq-FREE
returns-then-marks-row-eq-FREE c = record { taken = λ _. refl; left = λ n. absurd (n c.if-marks-row-eq-FREE.true) }

pub returns-else-marks-row-eq-FREE : goal.returns-else-marks-row-eq-FREE
returns-else-marks-row-eq-FREE c = record { taken = λ e. absurd (c.if-marks-row-eq-FREE.false e); left = λ _. refl }
