-- Unsigned numbers as signed ones: bits passed read back as the number that they were made of.
use Prim.Native.Nat.{ℕ, ◌<◌}
use mathlib.Core.Path.{◌≡◌}
use lib.IntN.{ℤ, pos}
use lib.Signed.{mag}
use mir.Syntax.{w64}
use mir.Val.{to_z, of_z}
use mir.ValLaws.{to_z_pos}
use native.Mathlib.Omega.{arith}
use Rattle.eight.specs.work.Room.{Room, WideRoom}

pub kept : {x : ℤ} {n : ℕ} → x ≡ pos n → mag x < 9223372036854775808 → to_z w64 (of_z w64 x) ≡ pos n
kept {n = n} e h = rw e (to_z_pos w64 n (rw e at h))

-- the room of a tree's answer is room for any
pub widened : {row ring : ℕ} → Room row ring → WideRoom row ring
widened p = record { low = omega (arith, p.low); few = p.few }
