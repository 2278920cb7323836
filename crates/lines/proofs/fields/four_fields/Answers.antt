-- `four_fields` puts its fields one after the other, and the line's end.
use native.Mathlib.Omega.{arith}
use Rattle.text.proofs.Puts.{put_then}
use Rattle.lines.proofs.fields.four_fields.Goals as goal

pub returns : goal.returns
returns c =
    let weight-ensures = c.weight-d.ensures in
    let field3-ensures = c.field-c.ensures in
    let field2-ensures = c.field-b.ensures in
    let field-ensures = c.field-a.ensures in (
      put_then
          (put_then (put_then (put_then field-ensures.0 field2-ensures.0) field3-ensures.0)
          weight-ensures.0)
          c.put_byte.ensures,
      omega arith,
    )
