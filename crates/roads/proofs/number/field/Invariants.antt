-- `field` takes digit after digit up to the byte that ends the number (proofs/Scanning).
use Prim.Native.Nat.{◌<◌}
use Rattle.roads.proofs.Scanning.{Scan}
use Rattle.roads.proofs.number.field.Given as goal

abbrev pub invariant-loop-i : goal.invariant-loop-i
invariant-loop-i l = Scan l.s l.at l.i l.x × (l.end < 48)
