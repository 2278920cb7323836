-- `is_lacking`: a pair in the set is named; one that is not belongs exactly if its figures pass.
use Rattle.vetting.proofs.Belonging.{figures_asked}
use Rattle.vetting.proofs.Lacking.{told_there, told_by}
use Rattle.vetting.proofs.lacks.is_lacking.Goals as goal

pub slot-requires : goal.slot-requires
slot-requires c = c.requires.1

pub has-requires : goal.has-requires
has-requires c = c.slot.ensures.1

pub returns-then-has : goal.returns-then-has
returns-then-has c =
    let pre = c.requires in
    told_there _ pre.0 c.slot.ensures.0 c.has.ensures c.if-has.true

pub figure-v-requires : goal.figure-v-requires
figure-v-requires c =
    let args = c.args in
    let pre = c.requires in
    figures_asked args.pairs.now.sums pre.0 pre.1.pair pre.1.node

pub returns : goal.returns
returns c =
    let has-ensures = c.has.ensures in
    let slot-ensures = c.slot.ensures in
    let asked = c.requires in
    told_by _ asked.0 slot-ensures.0 has-ensures asked.1.pair asked.1.node
    c.figure-v.ensures.0 c.if-has.false c.passes.ensures
