-- `chain`: one place more is chained at each turn.
use Rattle.arcs.specs.work.Chunk.{Buckets}
use Rattle.arcs.proofs.chunk.Links.chain.Given as goal

abbrev pub invariant-loop-i : goal.invariant-loop-i
invariant-loop-i l = Buckets l.chunk.arcs l.i l.self.first l.self.next
