-- `mesh` meets its contract: a bad header is refused by its number; of a good one the node count and the rows are the
-- table's, which stand there, and `tested` tells the rest (Front).
use mathlib.Core.Path.{ap}
use native.Mathlib.Omega.{arith}
use Rattle.mesh.proofs.Front.{head_refused, head_good, headed_stands, head_passed}
use Rattle.mesh.proofs.mesh.Goals as goal

pub returns-in-Err : goal.returns-in-Err
returns-in-Err c = rw c.refusal.ensures (head_refused c.args.s.now c.in-Err.ensures)

pub tested-requires : goal.tested-requires
tested-requires c =
    let t = head_good c.args.s.now c.in-Ok.ensures in
    let nodes = ap (λ h. h.nodes) t.1 in
    let rows = ap (λ h. h.rows) t.1 in (
      λ r l. headed_stands t.0 r (omega (arith, rows)),
      t.0.version,
      omega (arith, nodes, t.0.some),
      omega (arith, nodes, t.0.few),
    )

pub returns-in-Ok : goal.returns-in-Ok
returns-in-Ok c =
    let t = head_good c.args.s.now c.in-Ok.ensures in
    head_passed t.0 (ap (λ h. h.nodes) t.1) (ap (λ h. h.rows) t.1) c.tested.ensures
