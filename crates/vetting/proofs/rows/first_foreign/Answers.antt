use native.Mathlib.Omega.{arith}
use Rattle.vetting.proofs.Foreigners.{rows_start, rows_next, rows_found, rows_end}
use Rattle.vetting.proofs.rows.first_foreign.Goals as goal

pub loop-i-init : goal.loop-i-init
loop-i-init c = rows_start

pub belongs-requires : goal.belongs-requires
belongs-requires c = (c.requires.0, omega (arith, c.requires.1, c.loop-i-test.true))

pub returns-then-not-belongs : goal.returns-then-not-belongs
returns-then-not-belongs c = rows_found c.loop-i.invariant c.if-not-belongs.true c.belongs.ensures

pub loop-i-preserved : goal.loop-i-preserved
loop-i-preserved c = rows_next c.loop-i.invariant c.loop-i-test.true c.if-not-belongs.false c.belongs.ensures

pub returns : goal.returns
returns c = rows_end c.loop-i.invariant (omega (arith, c.loop-i-test.false))
