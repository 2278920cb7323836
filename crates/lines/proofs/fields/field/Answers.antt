-- `field` puts the word, and after it the digits: 20 at most.
use native.Mathlib.Omega.{arith}
use Rattle.text.proofs.Puts.{put_then}
use Rattle.text.proofs.Decimals.{decimal_few}
use Rattle.lines.proofs.fields.field.Goals as goal

pub put_number-requires : goal.put_number-requires
put_number-requires c =
    let args = c.args in
    omega (arith, decimal_few args.x (omega arith))

pub returns : goal.returns
returns c =
    let put-word-ensures = c.put_word-a.ensures in
    let args = c.args in (
      put_then put-word-ensures c.put_number.ensures,
      omega (arith, decimal_few args.x (omega arith)),
    )
