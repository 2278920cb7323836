-- `write_row`: the tests passed are the good conditions in order, and the test that returns refutes the next.
use native.Mathlib.Omega.{arith}
use Rattle.table.specs.Refuse.{refused, passed}
use Rattle.std.specs.Prelude.{Ok}
use Rattle.writer.proofs.write_row.Goals as goal

pub returns-then-a-gt4095 : goal.returns-then-a-gt4095
returns-then-a-gt4095 c = (refused (λ n. grind arith))

pub returns-then-a-b : goal.returns-then-a-b
returns-then-a-b c =
    (passed (omega arith, omega arith) (refused (λ n. n (omega arith))))

pub returns-then-wire-gt1000000 : goal.returns-then-wire-gt1000000
returns-then-wire-gt1000000 c =
    (passed (omega arith, omega arith) (passed (λ e. omega (arith, e)) (refused (λ n. omega arith))))

pub returns-then-kind-ge64 : goal.returns-then-kind-ge64
returns-then-kind-ge64 c =
    (passed (omega arith, omega arith)
    (passed (λ e. omega (arith, e)) (passed (omega arith) (refused (λ n. omega arith)))))

pub returns-then-is_filler : goal.returns-then-is_filler
returns-then-is_filler c =
    (passed (omega arith, omega arith)
    (passed (λ e. omega (arith, e))
    (passed (omega arith)
    (passed (omega arith)
    (refused (λ n. n (rw c.from.ensures at (c.is_filler.ensures.holds c.if-is_filler.true))))))))

pub returns-then-count-gt20000 : goal.returns-then-count-gt20000
returns-then-count-gt20000 c =
    (passed (omega arith, omega arith)
    (passed (λ e. omega (arith, e))
    (passed (omega arith)
    (passed (omega arith)
    (passed (rw c.from.ensures at (c.is_filler.ensures.fails c.if-is_filler.false))
    (refused (λ n. omega arith)))))))

pub returns-then-row-ne12 : goal.returns-then-row-ne12
returns-then-row-ne12 c =
    (passed (omega arith, omega arith)
    (passed (λ e. omega (arith, e))
    (passed (omega arith)
    (passed (omega arith)
    (passed (rw c.from.ensures at (c.is_filler.ensures.fails c.if-is_filler.false))
    (passed (omega arith) (refused (λ n. omega arith))))))))

pub returns : goal.returns
returns c =
    passed (omega arith, omega arith)
    (passed (λ e. omega (arith, e))
    (passed (omega arith)
    (passed (omega arith)
    (passed (rw c.from.ensures at (c.is_filler.ensures.fails c.if-is_filler.false))
    (passed (omega arith) (passed (omega arith) (λ i. (Ok tt, c.put_row.ensures i))))))))
