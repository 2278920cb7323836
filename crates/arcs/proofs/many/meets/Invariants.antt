-- `meets`: chunk after chunk of the one text, and for each of them the other text.
use Prim.Native.Nat.{◌≤◌}
use Rattle.arcs.proofs.Streams.{Meeting}
use Rattle.arcs.proofs.many.meets.Given as goal

abbrev pub invariant-loop-start : goal.invariant-loop-start
invariant-loop-start l =
    (l.start ≤ l.m)
    × Meeting l.a.kind l.a.text.now l.a.at l.b.kind l.b.text.now l.b.at l.m l.strict l.start l.c
