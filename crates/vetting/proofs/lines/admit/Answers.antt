-- `admit`: a first node whose line is not among the block's changes nothing; any other's pair is put in at its bit.
use native.Mathlib.Omega.{arith}
use Rattle.vetting.proofs.LineLaws.{block_line, admitted_none, admitted_one}
use Rattle.vetting.proofs.lines.admit.Goals as goal

pub returns-then-t-from : goal.returns-then-t-from
returns-then-t-from c = admitted_none c.line_of-t.ensures (λ h k. omega (arith, c.then-t-from.either))

pub slot-requires : goal.slot-requires
slot-requires c =
    let pre = c.requires in
    let line-of-ensures = c.line_of-t.ensures in
    record {
      asked = block_line pre.0 (omega (arith, pre.1, pre.2)) line-of-ensures (omega (arith, c.if-t-from.false))
          (omega (arith, c.if-end-t.false));
      pair = pre.1;
      node = pre.2;
    }

pub returns : goal.returns
returns c =
    let if2-left = c.if-end-t.false in
    let if1-left = c.if-t-from.false in
    let line-of-ensures = c.line_of-t.ensures in
    admitted_one line-of-ensures (omega (arith, if1-left)) (omega (arith, if2-left))
    c.slot.ensures.0 c.put.ensures
