-- `put_bytes` stores the k lowest bytes of x. The invariant: what is still to be stored makes of the present bytes
-- what the whole makes of the first.
use Prim.Native.Nat.{◌+◌, ◌-◌}
use mathlib.Core.Path.{◌≡◌}
use lib.Seq.{sets}
use Rattle.numbers.specs.Bytes.{bytes}
use Rattle.numbers.proofs.put_bytes.Given as goal

abbrev pub invariant-loop-p : goal.invariant-loop-p
invariant-loop-p l =
    sets l.out l.p (bytes (l.at + l.k - l.p) l.rest) ≡ sets l.initial.out l.at (bytes l.k l.x)
