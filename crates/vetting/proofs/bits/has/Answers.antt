-- `has`: the bit of a number is in the word of its 64, at its place there.
use mathlib.Core.Path.{sym, ◌∙◌}
use borrow.Author.Tests.{eqb-true, eqb-false}
use Rattle.vetting.proofs.bits.has.Goals as goal

pub returns : goal.returns
returns c =
    record {
      holds = λ t. record { set = sym c.bit_of.ensures ∙ eqb-true c.bit_of.result 1 t };
      fails = λ t h. eqb-false c.bit_of.result 1 t (c.bit_of.ensures ∙ h.set);
    }
