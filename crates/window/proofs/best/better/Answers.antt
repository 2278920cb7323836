-- `window::best::better` puts the pair in the best one's place where it has more branches.
use mathlib.Core.Path.{refl}
use native.Mathlib.Omega.{arith}
use Rattle.window.proofs.best.better.Goals as goal

pub returns-then-b-y : goal.returns-then-b-y
returns-then-b-y c = record { more = λ h. refl; less = λ h. absurd (omega arith) }

pub returns : goal.returns
returns c = record { more = λ h. absurd (omega arith); less = λ h. refl }
