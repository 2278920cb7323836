-- `pair` puts the words of its line, and the numbers that the row's 16 bytes say.
use native.Mathlib.Omega.{arith}
use Rattle.text.specs.Word.{word}
use Rattle.lines.specs.Lines.{pair_text}
use Rattle.lines.proofs.pair.Goals as goal

pub returns : goal.returns
unfolding pair_text word
returns c =
    let eight-ensures = c.eight-bits.ensures in
    let four-ensures = c.four-len.ensures in
    let two2-ensures = c.two-high.ensures in
    let two-ensures = c.two-low.ensures in (
      rw (two-ensures.0, two2-ensures.0, four-ensures.0, eight-ensures)
          at c.four_fields.ensures.0,
      omega arith,
    )
