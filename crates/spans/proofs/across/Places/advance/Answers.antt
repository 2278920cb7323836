use Prim.Native.Nat.{◌<◌}
use native.Mathlib.Omega.{arith}
use Rattle.spans.proofs.Joining.{sofar_more, going_more}
use Rattle.spans.proofs.across.Places.advance.Goals as goal

pub loop-j-preserved : goal.loop-j-preserved
loop-j-preserved c =
    let more : c.loop-j.j < c.args.e = omega arith in
    let h = c.loop-j.invariant in
    let n = h.0.nodes.node _ h.1.low more in
    let q = c.from-y.ensures in (
      h.0,
      sofar_more _ _ _ _ _ _ _ _ _ _ _ h.1 more q (omega (arith, n, q)) h.0.sorted c.pick-node.ensures,
      going_more _ _ _ _ _ _ _ _ h.2 q c.if-limit-key.false,
    )
