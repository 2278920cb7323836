-- `best` puts the words of its line.
use native.Mathlib.Omega.{arith}
use Rattle.text.specs.Word.{word}
use Rattle.lines.specs.Lines.{best_text}
use Rattle.lines.proofs.best.Goals as goal

pub returns : goal.returns
unfolding best_text word
returns c = (c.four_fields.ensures.0, omega arith)
