-- `put_signed`: below 0 a minus and the amount's digits, otherwise the digits alone.
use mathlib.Core.Path.{refl, ap}
use native.Mathlib.Omega.{arith}
use lib.ListN.{length}
use Rattle.text.proofs.Puts.{put_then, put_as}
use Rattle.text.proofs.Signs.{signed_below, signed_from}
use mathlib.Core.Path.{sym}
use Rattle.text.proofs.put_signed.Goals as goal

pub put_byte-p-requires : goal.put_byte-p-requires
put_byte-p-requires c = omega (arith, ap length (signed_below c.args.z c.ranges.z c.if-z-lt0.true refl))

pub put_number-requires : goal.put_number-requires
put_number-requires c =
    omega (arith, ap length (signed_below c.args.z c.ranges.z c.if-z-lt0.true c.unsigned_abs.ensures.value))

pub returns-then-z-lt0 : goal.returns-then-z-lt0
returns-then-z-lt0 c =
    put_as (sym (signed_below c.args.z c.ranges.z c.if-z-lt0.true c.unsigned_abs.ensures.value))
    (put_then c.put_byte-p.ensures c.put_number.ensures)

pub put_number-requires-2 : goal.put_number-requires-2
put_number-requires-2 c =
    omega (arith, ap length (signed_from c.args.z c.ranges.z c.if-z-lt0.false c.unsigned_abs-2.ensures.value))

pub returns : goal.returns
returns c =
    put_as (sym (signed_from c.args.z c.ranges.z c.if-z-lt0.false c.unsigned_abs-2.ensures.value))
    c.put_number-2.ensures
