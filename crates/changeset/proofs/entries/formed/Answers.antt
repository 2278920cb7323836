-- `formed`: behind the tests passed the size decides.
use mathlib.Core.Path.{sym, ◌∙◌}
use Rattle.changeset.proofs.Forming.{formed_is}
use Rattle.changeset.proofs.entries.formed.Goals as goal

pub returns : goal.returns
returns c = formed_is _ c.if-c-lt6.false c.if-c-ne82.false c.if-c-ne84.false c.if-c-ne78.false
    (sym c.number_at.ensures.0 ∙ c.if-number_at-ne1.false) c.if-c-ne1.false
