-- `pages::seconds` takes the second nodes in turn. The invariant: what was found among those below v has gone into the
-- page, and no more was left over than nodes were passed.
use Prim.Native.Nat.{◌≤◌}
use Rattle.limits.specs.work.Fits.{Fits}
use Rattle.pages.specs.work.Filling.{SecondsReady, Seconds}
use Rattle.pages.proofs.seconds.Given as goal

abbrev pub invariant-loop-v : goal.invariant-loop-v
invariant-loop-v l =
    let p = l.paths in
    Seconds (Fits l.limit) p.key.now p.len.now p.wt.now l.u l.from l.sums l.v l.initial.out l.initial.k.given
    l.initial.k.left l.out l.k.given l.k.left
    × SecondsReady l.initial.out l.room p.wt.now l.u l.from l.n l.initial.k.left
    × (l.from ≤ l.v)
    × (l.v ≤ l.n)
