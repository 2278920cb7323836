-- `weight` puts the word, and after it the signed number: 20 bytes at most, since 64 bits are a number that fits them.
use native.Mathlib.Omega.{arith}
use Rattle.text.proofs.Puts.{put_then}
use Rattle.text.proofs.Signs.{bits_few}
use Rattle.lines.proofs.fields.weight.Goals as goal

pub put_bits-requires : goal.put_bits-requires
put_bits-requires c =
    let args = c.args in
    omega (arith, bits_few args.bits (omega arith))

pub returns : goal.returns
returns c =
    let put-word-ensures = c.put_word-a.ensures in
    let args = c.args in (
      put_then put-word-ensures c.put_bits.ensures,
      omega (arith, bits_few args.bits (omega arith)),
    )
