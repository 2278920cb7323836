-- `number_size` counts the digits of the number, or of the negative one with its minus (proofs/Texts).
use mathlib.Core.Path.{sym, ap, ◌∙◌}
use native.Mathlib.Omega.{arith}
use lib.ListN.{length}
use Rattle.written.proofs.Texts.{number_up, number_down}
use Rattle.written.proofs.size.number_size.Goals as goal

pub returns-then-b-top : goal.returns-then-b-top
returns-then-b-top c = (c.digits_of.ensures.0 ∙ ap length (sym (number_up _ _ (omega arith))), omega arith)

pub returns : goal.returns
returns c =
    let args = c.args in
    (omega (arith, ap length (number_down args.top args.b (omega arith))), omega arith)
