-- `stream`: chunk after chunk of the text.
use Prim.Native.Nat.{◌≤◌}
use mathlib.Core.Path.{◌≡◌}
use lib.ListN.{length}
use Rattle.arcs.proofs.Streams.{Streaming}
use Rattle.arcs.proofs.many.stream.Given as goal

abbrev pub invariant-loop-start : goal.invariant-loop-start
invariant-loop-start l =
    (l.start ≤ l.m)
    × (length l.seen ≡ 8192)
    × Streaming l.b.kind l.b.text.now l.b.at l.m l.strict l.chunk.count l.chunk.arcs l.start l.c l.seen
