-- `put_field` puts a number and the byte that ends it.
use native.Mathlib.Omega.{arith}
use Rattle.text.proofs.Puts.{put_then}
use Rattle.written.proofs.Texts.{field_length}
use Rattle.written.proofs.put.put_field.Goals as goal

pub put_number-p-requires : goal.put_number-p-requires
put_number-p-requires c = omega (arith, field_length c.args.x c.args.end)

pub put_byte-requires : goal.put_byte-requires
put_byte-requires c =
    let args = c.args in
    omega (arith, field_length args.x args.end)

pub returns : goal.returns
returns c =
    let put-number-ensures = c.put_number-p.ensures in
    put_then put-number-ensures c.put_byte.ensures
