-- `Spots::split` meets its contract. The invariant is `Splitting`, prev and i being neighbouring boundaries of items,
-- with prev before the middle unless it is s. The measure is what is left of the part.
use Prim.Native.Nat.{◌≤◌, ◌<◌, ◌-◌}
use Rattle.parts.proofs.Splitting.{Splitting}
use Rattle.parts.proofs.Spots.split.Given as goal

abbrev pub invariant-loop-i : goal.invariant-loop-i
invariant-loop-i l =
    Splitting l.self.stop.now l.self.head.now l.self.parent.now l.h l.s l.e l.prev l.i × (l.mid < l.e) × (l.e ≤ 4096) ×
    (l.s < l.prev → l.prev < l.mid)

abbrev pub decreases-loop-i : goal.decreases-loop-i
decreases-loop-i l = l.e - l.i
