-- `pieces`: each piece is what the report has next, and it begins where the pieces before it ended; these are with the
-- writer. The place rises with each piece, so the loop ends.
use Rattle.std.specs.Prelude.{◌≡◌, ◌-◌, length}
use Rattle.reporting.specs.work.Pieces.{ReportLent, Shown}
use Rattle.printing.proofs.Gone.{Gone}
use Rattle.printing.proofs.pieces.Given as goal

abbrev pub invariant-loop-p : goal.invariant-loop-p
invariant-loop-p g l =
    Shown l.fn.s l.rows l.out l.p
    × ReportLent l.fn.branches l.rows l.out
    × (l.handed.place ≡ l.p.place)
    × (length l.rows ≡ length l.initial.rows)
    × (length l.out ≡ length l.initial.out)
    × Gone l.fn.s l.p.place (g.W.Write.contents l.initial.to) (g.W.Write.contents l.to)

abbrev pub decreases-loop-p : goal.decreases-loop-p
decreases-loop-p g l = 9223372036854775808 - l.p.place
