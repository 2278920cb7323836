-- `block_high`: a first node whose line is not among the block's gives n, and of any other all second nodes are tried.
use native.Mathlib.Omega.{arith}
use Rattle.vetting.proofs.LineLaws.{block_line}
use Rattle.vetting.proofs.Lacking.{high_none, high_some}
use Rattle.vetting.proofs.lacks.block_high.Goals as goal

pub line_of-t-requires : goal.line_of-t-requires
line_of-t-requires c = (c.requires.2, c.requires.1.nodes)

pub returns-then-t-from : goal.returns-then-t-from
returns-then-t-from c = high_none c.line_of-t.ensures (λ h k. omega (arith, c.then-t-from.either))

pub first_high-requires : goal.first_high-requires
first_high-requires c =
    let pre = c.requires in (
      pre.0,
      block_line pre.1 pre.2 c.line_of-t.ensures (omega (arith, c.if-t-from.false))
          (omega (arith, c.if-end-t.false)),
    )

pub returns : goal.returns
returns c =
    let line-of-ensures = c.line_of-t.ensures in
    high_some line-of-ensures (omega (arith, c.if-t-from.false)) (omega (arith, c.if-end-t.false))
    c.first_high.ensures
