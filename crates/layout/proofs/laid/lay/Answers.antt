use Rattle.std.proofs.Common.{◌<◌, arith}
use Rattle.layout.proofs.Laying.{laid_more}
use Rattle.layout.proofs.laid.lay.Goals as goal

pub loop-v-preserved : goal.loop-v-preserved
loop-v-preserved g c =
    let h = c.loop-v.invariant in
    let more : c.loop-v.v < c.args.n = omega arith in (
      omega arith,
      omega arith,
      h.2,
      h.3,
      λ k says. laid_more h.2 h.0 more (h.4 k says) c.from.ensures (says _ _ h.0 more c.f.ensures),
    )
