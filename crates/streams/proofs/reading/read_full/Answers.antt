-- `read_full`: what each round took stands behind what the rounds before took.
use Rattle.std.proofs.Common.{rules}
use Rattle.streams.proofs.Filling.{taken_more}
use Rattle.streams.proofs.reading.read_full.Goals as goal

pub loop-done-preserved : goal.loop-done-preserved
loop-done-preserved g c =
    let before = c.loop-done.invariant in
    let read = c.in_ok-count.ensures in (
      search rules,
      search rules,
      taken_more _ _ _ _ _ _ _ _ before.1 read.bound.0 before.2 read.bytes.0,
    )
