use native.Mathlib.Omega.{arith}
use Rattle.roads.proofs.Scanning.{
  scan_past,
  scan_none,
  scan_first,
  scan_more,
  scan_found,
  scan_other,
  scan_zero,
  scan_out,
}
use Rattle.roads.proofs.number.field.Goals as goal
use Rattle.roads.proofs.number.field.Goals.{
  then-not-is_ascii_digit-2-via-then-not-is_ascii_digit-2,
  then-not-is_ascii_digit-2-via-else-not-is_ascii_digit-2+then-x-eq0,
}

pub returns-in_err-first : goal.returns-in_err-first
returns-in_err-first c =
    let past = c.in_err-first.ensures.lookup in
    rw c.from_residual.ensures (scan_past _ (omega arith))

pub returns-then-not-is_ascii_digit : goal.returns-then-not-is_ascii_digit
returns-then-not-is_ascii_digit c =
    let first = c.in_ok-first.ensures.lookup in
    scan_none _ (omega arith) (rw (first.3.1 0) at c.if-not-is_ascii_digit.ensures.cases)

pub loop-i-init : goal.loop-i-init
loop-i-init c =
    let first = c.in_ok-first.ensures.lookup in (
      rw (c.from-x.ensures, first.3.1 0) (scan_first _ _ (omega arith) (rw (first.3.1 0) at
          c.if-not-is_ascii_digit.ensures.cases)),
      omega arith,
    )

pub returns-then-b-end : goal.returns-then-b-end
returns-then-b-end c = scan_found c.loop-i.invariant.0 (omega arith) (omega arith)

pub returns-then-not-is_ascii_digit-2 : goal.returns-then-not-is_ascii_digit-2
returns-then-not-is_ascii_digit-2 c =
    let loop-inv = c.loop-i.invariant in
    elim c.then-not-is_ascii_digit-2.branch [
      | then-not-is_ascii_digit-2-via-then-not-is_ascii_digit-2 w ↦
          scan_other loop-inv.0 (omega arith) (omega arith) (omega arith) w.if-not-is_ascii_digit-2.ensures.cases
      | then-not-is_ascii_digit-2-via-else-not-is_ascii_digit-2+then-x-eq0 w ↦
          scan_zero loop-inv.0 (omega arith) (omega arith) (omega arith) w.if-not-is_ascii_digit-2.ensures.cases
    ]

pub loop-i-preserved : goal.loop-i-preserved
loop-i-preserved c =
    let loop-inv = c.loop-i.invariant in (
      scan_more loop-inv.0 (omega arith) c.if-not-is_ascii_digit-2.ensures.cases (omega arith) c.longer-x.ensures,
      omega arith,
    )

pub returns : goal.returns
returns c = scan_out c.loop-i.invariant.0 (omega arith) (omega arith)
