-- `layout::seats` meets its contract. The invariant: the first i nodes of the walk have their spots (`Seating`).
use Prim.Native.Nat.{◌≤◌, ◌<◌}
use Rattle.reach.specs.work.Grown.{Grown}
use Rattle.spines.specs.work.Parents.{SizesAll}
use Rattle.layout.specs.work.Seats.{Seating}
use Rattle.layout.proofs.seats.seats.Given as goal

abbrev pub invariant-loop-i : goal.invariant-loop-i
invariant-loop-i l =
    (0 < l.i)
    × (l.i ≤ l.n)
    × Grown l.n l.parent l.order l.place
    × SizesAll l.n l.parent l.size
    × Seating l.n l.parent l.place l.head l.size l.i l.spot l.next
