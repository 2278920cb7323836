-- `two_fields` puts its fields one after the other.
use native.Mathlib.Omega.{arith}
use Rattle.text.proofs.Puts.{put_then}
use Rattle.lines.proofs.fields.two_fields.Goals as goal

pub returns : goal.returns
returns c =
    let field-ensures = c.field-a.ensures in
    (put_then field-ensures.0 c.field.ensures.0, omega arith)
