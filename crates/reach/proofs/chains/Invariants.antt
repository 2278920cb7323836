-- `chains` meets its contract: the half-branches below h are chained. The node that h leaves is below 4,096
-- (`node_in`), since the rows join such nodes.
use Prim.Native.Nat.{◌*◌}
use mathlib.Core.Path.{◌≡◌}
use Rattle.net.specs.Net.{first_end, second_end}
use Rattle.net.specs.work.Rows.{Readable}
use Rattle.reach.specs.work.Chains.{Chained}
use Rattle.reach.proofs.chains.Given as goal

abbrev pub invariant-loop-h : goal.invariant-loop-h
invariant-loop-h l =
    Chained (first_end l.s) (second_end l.s) l.rows l.h l.first l.next × Readable l.s l.rows × (l.end ≡ 2 * l.rows)
