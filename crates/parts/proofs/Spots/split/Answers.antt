use native.Mathlib.Omega.{arith}
use Rattle.parts.proofs.Splitting.{splitting_first, splitting_more}
use Rattle.parts.proofs.Spots.split.Goals as goal

pub loop-i-init : goal.loop-i-init
loop-i-init c = (
  splitting_first _ _ _ _ _ _ _ c.requires.part (omega arith) c.requires.s_lt_e.2 c.item_end-i.ensures,
  omega arith,
  omega arith,
  λ x. absurd (omega arith),
)

pub loop-i-smaller : goal.loop-i-smaller
loop-i-smaller c =
    let h = c.loop-i.invariant in
    let n = splitting_more _ _ _ _ _ _ _ _ _ h.0 (omega arith) c.item_end-i-in-loop-i.ensures in
    omega arith

pub loop-i-preserved : goal.loop-i-preserved
loop-i-preserved c =
    let h = c.loop-i.invariant in (
      splitting_more _ _ _ _ _ _ _ _ _ h.0 (omega arith) c.item_end-i-in-loop-i.ensures,
      omega arith,
      omega arith,
      λ x. omega arith,
    )
