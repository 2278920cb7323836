-- `window::best::among` takes the second nodes in turn. The invariant: the best so far is the best of those below v, or
-- the one that was given, where none of them has more branches.
use Prim.Native.Nat.{◌+◌}
use Rattle.pages.specs.work.Filling.{Here}
use Rattle.window.specs.work.Best.{InLimits, Bettered}
use Rattle.window.proofs.best.among.Given as goal

abbrev pub invariant-loop-v : goal.invariant-loop-v
invariant-loop-v l = Bettered (Here (InLimits l.counts) l.key l.key l.wt l.u (l.u + 1) l.sums l.v) l.initial.best l.best
