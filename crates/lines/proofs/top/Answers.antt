-- `top` puts the one line and then the other.
use native.Mathlib.Omega.{arith}
use Rattle.text.proofs.Puts.{put_then}
use Rattle.lines.proofs.top.Goals as goal

pub returns : goal.returns
returns c =
    let net-ensures = c.net-a.ensures in
    (put_then net-ensures.0 c.best.ensures.0, omega arith)
