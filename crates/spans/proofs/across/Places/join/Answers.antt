use native.Mathlib.Omega.{arith}
use Rattle.spans.proofs.Joining.{sweep_back}
use Rattle.spans.proofs.across.Places.join.Goals as goal

pub loop-i-preserved : goal.loop-i-preserved
loop-i-preserved c =
    let h = c.loop-i.invariant in (
      sweep_back _ _ _ _ _ _ _ _ _ _ _ _ _ _ _ _ _ _ _ _ h.0 h.1 (omega arith) c.from-x.ensures
          c.advance-passed.ensures.sofar_2 c.advance-passed.ensures.advanced c.try_pair-all.ensures,
      h.1,
    )
