-- `write_all`: the bytes up to `done` are put, and each round has fewer left.
use Rattle.std.specs.Prelude.{◌≤◌, ◌-◌, length, take}
use Rattle.std.specs.Io.KnownBytes.{Appends}
use Rattle.streams.proofs.writing.write_all.Given as goal

abbrev pub invariant-loop-done : goal.invariant-loop-done
invariant-loop-done g l =
    (l.done ≤ length l.fn.bytes)
    × Appends (g.W.Write.contents l.initial.to) (g.W.Write.contents l.to) (take l.done l.fn.bytes)

abbrev pub decreases-loop-done : goal.decreases-loop-done
decreases-loop-done g l = length l.fn.bytes - l.done
