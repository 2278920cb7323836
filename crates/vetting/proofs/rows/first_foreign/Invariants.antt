-- `first_foreign`: rows in turn, up to the first that does not belong.
use Rattle.vetting.specs.work.Meant.{MeantOf}
use Rattle.vetting.proofs.Foreigners.{AllBelong}
use Rattle.vetting.proofs.rows.first_foreign.Given as goal

abbrev pub invariant-loop-i : goal.invariant-loop-i
invariant-loop-i l =
    AllBelong (MeantOf l.pairs) l.list l.m l.i
