-- `write_both`: an error among the others comes behind all of the ones.
use Rattle.std.proofs.lemmas.Result.{on_err_weaker}
use Rattle.streams.proofs.Fronts.{front_behind}
use Rattle.streams.proofs.writing.write_both.Goals as goal

pub returns-clause-err : goal.returns-clause-err
returns-clause-err g c =
    on_err_weaker _ (front_behind _ _ _ _ _ c.in_ok-write_all.ensures.ok) c.write_all-2.ensures.err
