-- `hand_over`: where the second half is cut short, a front of the whole has been written.
use Rattle.streams.proofs.Fronts.{front_behind}
use Rattle.trade.proofs.Telling.{front_told}
use Rattle.trade.proofs.handed.hand_over.Goals as goal

pub returns-in_err-write_both-2-clause-err : goal.returns-in_err-write_both-2-clause-err
returns-in_err-write_both-2-clause-err g c =
    let front = front_behind _ _ _ _ _ c.in_ok-write_both.ensures.ok c.in_err-write_both-2.ensures.err in
    front_told _ _ _ _ _ _ _ _ c.requires front
