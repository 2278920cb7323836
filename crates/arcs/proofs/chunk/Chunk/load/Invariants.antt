-- `load` copies arc after arc.
use mathlib.Core.Path.{◌≡◌}
use lib.ListN.{length}
use Rattle.arcs.specs.work.Chunk.{Loaded}
use Rattle.arcs.proofs.chunk.Chunk.load.Given as goal

abbrev pub invariant-loop-t : goal.invariant-loop-t
invariant-loop-t l =
    (length l.self.arcs ≡ 8192) × (l.self.count ≡ l.count) × Loaded l.kind l.s l.at l.t l.c l.self.arcs
