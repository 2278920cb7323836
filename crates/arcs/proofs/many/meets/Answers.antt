use mathlib.Core.Path.{◌≡◌}
use native.Mathlib.Omega.{arith}
use Rattle.arcs.proofs.Streams.{meeting_none, meeting_more, met_fault, met}
use Rattle.arcs.proofs.many.meets.Goals as goal

pub loop-start-init : goal.loop-start-init
loop-start-init c = (omega arith, meeting_none _ _ _ _ _ _ _ _)

pub returns-then-not-stream : goal.returns-then-not-stream
returns-then-not-stream c =
    let load = c.load-c.ensures in
    met_fault _ _ _ _ _ _ _ _ (omega arith) load.2 (rw load.1 at c.stream.ensures) c.loop-start.invariant.1
    c.if-not-stream.true

pub loop-start-preserved : goal.loop-start-preserved
loop-start-preserved c =
    let load = c.load-c.ensures in
    let n : c.min.result ≡ 8192 = omega arith in (
      omega arith,
      rw n at (meeting_more _ _ _ _ _ _ _ _ (omega arith) load.2 (rw load.1 at c.stream.ensures)
          c.loop-start.invariant.1 c.if-not-stream.false),
    )

pub returns : goal.returns
returns c = met _ _ _ _ _ _ _ _ c.loop-start.invariant.1 (omega arith)

pub returns-else-not-stream : goal.returns-else-not-stream
returns-else-not-stream c =
    let load = c.load-c.ensures in
    let last = meeting_more _ _ _ _ _ _ _ _ (omega arith) load.2 (rw load.1 at c.stream.ensures)
    c.loop-start.invariant.1 c.if-not-stream.false
    in
    met _ _ _ _ _ _ _ _ last (omega arith)
