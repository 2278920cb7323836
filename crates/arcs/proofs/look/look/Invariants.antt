-- `look` goes through the arcs of one chunk.
use mathlib.Core.Path.{◌≡◌}
use lib.ListN.{length}
use Rattle.arcs.proofs.Looks.{Looking}
use Rattle.arcs.proofs.look.look.Given as goal

abbrev pub invariant-loop-t : goal.invariant-loop-t
invariant-loop-t l =
    (length l.seen ≡ 8192)
    × Looking l.strict l.others.count l.others.arcs l.chunk.count l.chunk.arcs l.initial.seen l.t l.seen
