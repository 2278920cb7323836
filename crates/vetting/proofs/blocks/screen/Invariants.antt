-- `screen`: each block's pass and search keep how the list stands, for the lines up to the block's end.
use Prim.Native.Nat.{◌-◌}
use Rattle.vetting.specs.work.Meant.{MeantOf}
use Rattle.vetting.proofs.Standing.{Blocked}
use Rattle.vetting.proofs.blocks.screen.Given as goal

abbrev pub invariant-loop-end : goal.invariant-loop-end
invariant-loop-end l =
    Blocked (MeantOf l.pairs) l.list l.m l.pairs.n l.height l.r l.lack l.end

abbrev pub decreases-loop-end : goal.decreases-loop-end
decreases-loop-end l = l.pairs.n - l.end
