-- `net` puts the words of its line, and the line's end.
use native.Mathlib.Omega.{arith}
use Rattle.text.specs.Word.{word}
use Rattle.text.proofs.Puts.{put_then}
use Rattle.lines.specs.Lines.{net_text}
use Rattle.lines.proofs.net.Goals as goal

pub returns : goal.returns
unfolding net_text word
returns c =
    let two-fields-ensures = c.two_fields-a.ensures in
    (put_then two-fields-ensures.0 c.put_byte.ensures, omega arith)
