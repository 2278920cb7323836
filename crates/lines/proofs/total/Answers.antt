-- `total` puts its word and number, and the line's end.
use native.Mathlib.Omega.{arith}
use Rattle.text.proofs.Puts.{put_then}
use Rattle.text.specs.Word.{word}
use Rattle.lines.specs.Lines.{total_text}
use Rattle.lines.proofs.total.Goals as goal

pub returns : goal.returns
unfolding total_text word
returns c =
    let field-ensures = c.field-a.ensures in
    (put_then field-ensures.0 c.put_byte.ensures, omega arith)
