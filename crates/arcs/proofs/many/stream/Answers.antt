use mathlib.Core.Path.{◌≡◌}
use native.Mathlib.Omega.{arith}
use Rattle.arrays.proofs.Fills.{filled}
use Rattle.arcs.proofs.Streams.{streaming_none, streaming_more, streamed_fault, streamed}
use Rattle.arcs.proofs.many.stream.Goals as goal
use Rattle.arcs.proofs.many.stream.Goals.{
  else-loop-start-test,
  then-loop-start-test+else-not-look+else-m-start-gt8192,
}

pub loop-start-init : goal.loop-start-init
loop-start-init c = let f = filled 8192 0 in (omega arith, f.long, streaming_none _ _ _ _ _ _ _ f c.requires.1.buckets.few)

pub look-requires : goal.look-requires
look-requires c =
    let load = c.load-c.ensures in (rw load.1 (omega arith), load.0, c.requires.1, c.loop-start.invariant.1)

pub returns-then-not-look : goal.returns-then-not-look
returns-then-not-look c =
    let load = c.load-c.ensures in
    streamed_fault _ _ _ _ _ _ _ (omega arith) load.2 (rw load.1 at c.look.ensures.1) c.loop-start.invariant.2
    c.if-not-look.true

pub loop-start-preserved : goal.loop-start-preserved
loop-start-preserved c =
    let load = c.load-c.ensures in
    let n : c.min.result ≡ 8192 = omega arith in (
      omega arith,
      c.look.ensures.0,
      rw n at (streaming_more _ _ _ _ _ _ _ (omega arith) load.2 (rw load.1 at c.look.ensures.1)
          c.loop-start.invariant.2 c.if-not-look.false),
    )

pub returns : goal.returns
returns c =
    let h = c.loop-start.invariant.2 in
    elim c.loop-start-test.branch [
      | else-loop-start-test w ↦
          streamed _ _ _ _ _ _ _ h (omega (arith, c.loop-start.invariant.0)) (rw w.seen-is at c.all_seen.ensures)
      | then-loop-start-test+else-not-look+else-m-start-gt8192 w ↦
          let load = w.load-c.ensures in
          let last = streaming_more _ _ _ _ _ _ _ (omega arith) load.2 (rw load.1 at w.look.ensures.1) h
          w.if-not-look.false
          in
          streamed _ _ _ _ _ _ _ last (omega arith) (rw w.seen-is at c.all_seen.ensures)
    ]
