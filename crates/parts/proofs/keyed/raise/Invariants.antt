-- `parts::raise` meets its contract. The invariant: the keys are raised up to i, and base is the lift less twice the
-- value at p.
use Prim.Native.Nat.{◌≤◌, ◌+◌, ◌*◌}
use mathlib.Core.Path.{◌≡◌}
use lib.ListN.{length}
use Rattle.arrays.specs.At.{at}
use Rattle.parts.specs.work.Lift.{Low}
use Rattle.parts.specs.work.Listed.{RaisedKeys}
use Rattle.parts.proofs.keyed.raise.Given as goal

abbrev pub invariant-loop-i : goal.invariant-loop-i
invariant-loop-i l =
    (l.s ≤ l.i)
    × (l.i ≤ l.e)
    × (l.e ≤ 4096)
    × (length l.out ≡ 4096)
    × (l.base + 2 * at l.from l.p ≡ 1099511627776)
    × Low l.from
    × RaisedKeys l.from l.p l.s l.i l.initial.out l.out
