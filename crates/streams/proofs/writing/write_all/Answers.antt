-- `write_all`: what each round put stands behind what the rounds before put.
use Rattle.std.proofs.Common.{rules}
use Rattle.streams.proofs.Fronts.{put_more}
use Rattle.streams.proofs.writing.write_all.Goals as goal

pub loop-done-preserved : goal.loop-done-preserved
loop-done-preserved g c = (
  search rules,
  put_more _ _ _ _ _ _ c.loop-done.invariant.1 c.in_ok-count.ensures.bytes,
)
