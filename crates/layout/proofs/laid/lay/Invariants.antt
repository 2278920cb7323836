-- `layout::lay` meets its contract: the invariant says that the nodes below v have put theirs.
use Rattle.std.proofs.Common.{ℕ, ◌≤◌, ◌<◌, ◌≡◌, length, get_or}
use Rattle.layout.specs.work.Laid.{Spots, LaidOf}
use Rattle.layout.proofs.laid.lay.Given as goal

abbrev pub invariant-loop-x : goal.invariant-loop-x
invariant-loop-x g l =
    (length l.to ≡ 4096) × ((k : ℕ) → k < l.x-index → get_or l.to k l.fn.none ≡ l.fn.none)

abbrev pub invariant-loop-v : goal.invariant-loop-v
invariant-loop-v g l =
    (l.lo ≤ l.v)
    × (l.v ≤ l.n)
    × Spots l.n l.spot
    × ((x : ℕ) → l.lo ≤ x → x < l.n → goal.F-pre g l.f x)
    × ((h : ℕ → g.row.T.Denot) → ((x : ℕ) (r : g.row.T.Denot) → l.lo ≤ x → x < l.n → goal.F-post g l.f x r → r ≡ h x)
    → LaidOf l.fn.none l.lo l.v l.spot h l.to)
