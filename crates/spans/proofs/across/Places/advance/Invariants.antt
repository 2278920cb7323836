-- `Places::advance` meets its contract. The invariant: the partner is the best of the places passed, and those passed
-- since the call are within the limit.
use Rattle.spans.specs.work.Partners.{Walkable, Sofar}
use Rattle.spans.proofs.Joining.{Going}
use Rattle.spans.proofs.across.Places.advance.Given as goal

abbrev pub invariant-loop-j : goal.invariant-loop-j
invariant-loop-j l =
    let p = l.self in
    Walkable p.d.now l.down l.m l.e l.key
    × Sofar l.limit.exact p.name.now p.d.now p.w.now l.down l.m l.e l.j l.node
    × Going p.d.now l.down l.e l.key l.limit.most l.initial.j l.j
