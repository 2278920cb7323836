-- `find` goes down a chain.
use Rattle.arcs.specs.work.Chunk.{Downward}
use Rattle.arcs.proofs.chunk.Links.find.Given as goal

abbrev pub invariant-loop-i : goal.invariant-loop-i
invariant-loop-i l = Downward l.chunk.arcs l.key l.chunk.count l.i

abbrev pub decreases-loop-i : goal.decreases-loop-i
decreases-loop-i l = l.i
