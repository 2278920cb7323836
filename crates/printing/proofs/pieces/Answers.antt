-- `pieces`: the writer takes the report's pieces one behind the other.
use Rattle.std.proofs.Common.{arith, rules}
use lib.Seq.{length-take-le}
use Rattle.reporting.proofs.Steps.{lent_as}
use Rattle.printing.proofs.Gone.{gone_nothing, gone_more, gone_all, front_more, front_told}
use Rattle.printing.proofs.pieces.Goals as goal

pub loop-p-init : goal.loop-p-init
loop-p-init g c =
    let (shown, at) = c.first-p.ensures in (
      shown,
      lent_as c.requires (search rules) (search rules),
      search rules,
      search rules,
      search rules,
      gone_nothing _ _ _ _ at shown.comes.next,
    )

pub returns-in_err-handed-clause-err : goal.returns-in_err-handed-clause-err
returns-in_err-handed-clause-err g c =
    let (shown, lent, at, rows, out, gone) = c.loop-p.invariant in
    front_told _ _ _ _ (front_more _ _ _ _ _ _ gone shown.comes.next c.in_err-handed.ensures.err)

pub loop-p-preserved : goal.loop-p-preserved
loop-p-preserved g c =
    let (shown, lent, at, rows, out, gone) = c.loop-p.invariant in
    let (more, place) = c.next-p.ensures in
    let long = length-take-le c.loop-p.p.n c.loop-p.out shown.comes.room in (
      more,
      lent_as lent (search rules) (search rules),
      search rules,
      search rules,
      search rules,
      gone_more _ _ _ _ _ _ _ (omega (arith, place, long)) gone shown.comes.next c.in_ok-handed.ensures.written,
    )

pub returns-clause-written : goal.returns-clause-written
returns-clause-written g c =
    let (shown, lent, at, rows, out, gone) = c.loop-p.invariant in
    gone_all _ _ _ _ gone (shown.comes.ends (search rules))
