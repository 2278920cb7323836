-- `lay`: a turn for each arc of the length text.
use mathlib.Core.Path.{◌≡◌}
use lib.ListN.{length}
use Rattle.arcs.proofs.Laying.{Laying}
use Rattle.arcs.proofs.lay.lay.Given as goal

abbrev pub invariant-loop-j : goal.invariant-loop-j
invariant-loop-j l =
    (length l.seen ≡ 8192)
    × (length l.table ≡ 49152)
    × Laying l.lengths.count l.lengths.arcs l.weights.arcs l.links.first l.links.next l.initial.table l.j l.c l.seen
    l.table
