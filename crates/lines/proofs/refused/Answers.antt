-- `refused` puts the words of its line, for 11 the ring's rows, and the line's end.
use native.Mathlib.Omega.{arith}
use Rattle.text.specs.Word.{word}
use Rattle.text.proofs.Puts.{put_then}
use Rattle.lines.specs.Lines.{refused_text}
use Rattle.lines.proofs.refused.Goals as goal

pub returns : goal.returns
unfolding refused_text word
returns c =
    let ring-ensures = c.ring-b.ensures in
    let two-fields-ensures = c.two_fields-a.ensures in
    (put_then (put_then two-fields-ensures.0 ring-ensures.0) c.put_byte.ensures, omega arith)
