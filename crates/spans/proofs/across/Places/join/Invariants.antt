-- `Places::join` meets its contract. The invariant is `Sweep`.
use Rattle.spans.specs.work.Pairs.{Joinable}
use Rattle.spans.proofs.Joining.{Sweep}
use Rattle.spans.proofs.across.Places.join.Given as goal

abbrev pub invariant-loop-i : goal.invariant-loop-i
invariant-loop-i l =
    let p = l.self in
    Sweep p.name.now p.ku.now p.wu.now p.d.now p.w.now l.up l.down l.s l.m l.e l.limit l.initial.all l.i l.passed.to
    l.passed.node l.all
    × Joinable p.ku.now p.wu.now p.d.now p.w.now l.up l.down l.s l.m l.e
