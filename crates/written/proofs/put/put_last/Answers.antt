-- `put_last` puts the number itself, or a minus and the negative one (proofs/Texts).
use mathlib.Core.Path.{sym, ap}
use native.Mathlib.Omega.{arith}
use lib.ListN.{length}
use Rattle.text.proofs.Puts.{put_then, put_as}
use Rattle.written.proofs.Texts.{last_up, last_down}
use Rattle.written.proofs.put.put_last.Goals as goal

pub put_field-requires : goal.put_field-requires
put_field-requires c =
    let args = c.args in
    omega (arith, ap length (last_up args.top args.b (omega arith)))

pub returns-then-b-top : goal.returns-then-b-top
returns-then-b-top c = put_as (sym (last_up _ _ (omega arith))) c.put_field.ensures

pub put_byte-p-requires : goal.put_byte-p-requires
put_byte-p-requires c =
    let args = c.args in
    omega (arith, ap length (last_down args.top args.b (omega arith)))

pub put_field-requires-2 : goal.put_field-requires-2
put_field-requires-2 c =
    let args = c.args in
    omega (arith, ap length (last_down args.top args.b (omega arith)))

pub returns : goal.returns
returns c =
    let put-byte-ensures = c.put_byte-p.ensures in
    put_as (sym (last_down _ _ (omega arith))) (put_then put-byte-ensures c.put_field-2.ensures)
