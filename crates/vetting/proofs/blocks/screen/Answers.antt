use native.Mathlib.Omega.{arith}
use Rattle.vetting.proofs.Belonging.{meant_paired}
use Rattle.vetting.proofs.Standing.{
  asked_numbers,
  blocks_start,
  block_of,
  repeatable,
  known_open,
  blocks_skip,
  blocks_next,
  verdict_fault,
  verdict_yes,
  verdict_missing,
}
use Rattle.vetting.proofs.blocks.screen.Goals as goal

pub nonzero_div-height : goal.nonzero_div-height
nonzero_div-height c = omega (arith, c.requires.0.rows.some)

pub loop-end-init : goal.loop-end-init
loop-end-init c =
    let pre = c.requires in
    let asked = pre.0 in
    blocks_start (meant_paired _ (asked_numbers asked)) asked.rows.some asked.rows.figurable.small pre.1

pub overflow_mul-end : goal.overflow_mul-end
overflow_mul-end c = omega (arith, c.loop-end.invariant.small)

pub overflow_add-end : goal.overflow_add-end
overflow_add-end c = omega (arith, c.loop-end.invariant.small, c.loop-end.invariant.few)

pub first_repeat-r-requires : goal.first_repeat-r-requires
first_repeat-r-requires c =
    let asked = c.requires.0 in
    repeatable (meant_paired _ (asked_numbers asked)) c.loop-end.invariant c.loop-end-test.true
    asked.rows.figurable.small asked.rows.long

pub first_lack-lack-requires : goal.first_lack-lack-requires
first_lack-lack-requires c =
    let loop-test-taken = c.loop-end-test.true in
    let loop-inv = c.loop-end.invariant in
    let asked = c.requires.0 in
    let paired = meant_paired _ (asked_numbers asked) in
    let small = asked.rows.figurable.small in (
      asked_numbers asked,
      block_of paired loop-inv loop-test-taken small,
      known_open paired loop-inv loop-test-taken small c.first_repeat-r.ensures
          c.if-r-m.true,
    )

pub loop-end-smaller-then-r-m : goal.loop-end-smaller-then-r-m
loop-end-smaller-then-r-m c =
    let loop-test-taken = c.loop-end-test.true in
    let loop-inv = c.loop-end.invariant in
    omega (arith, loop-inv.some, loop-test-taken)

pub loop-end-preserved-then-r-m : goal.loop-end-preserved-then-r-m
loop-end-preserved-then-r-m c =
    let first-repeat-ensures = c.first_repeat-r.ensures in
    let loop-test-taken = c.loop-end-test.true in
    let loop-inv = c.loop-end.invariant in
    let asked = c.requires.0 in
    blocks_next (meant_paired _ (asked_numbers asked)) loop-inv loop-test-taken asked.rows.figurable.small
    first-repeat-ensures c.if-r-m.true asked.rows.long c.first_lack-lack.ensures

pub loop-end-smaller : goal.loop-end-smaller
loop-end-smaller c =
    let loop-test-taken = c.loop-end-test.true in
    let loop-inv = c.loop-end.invariant in
    omega (arith, loop-inv.some, loop-test-taken)

pub loop-end-preserved : goal.loop-end-preserved
loop-end-preserved c =
    let loop-test-taken = c.loop-end-test.true in
    let loop-inv = c.loop-end.invariant in
    let asked = c.requires.0 in
    blocks_skip (meant_paired _ (asked_numbers asked)) loop-inv loop-test-taken asked.rows.figurable.small
    c.first_repeat-r.ensures c.if-r-m.false

pub returns-then-r-m-2 : goal.returns-then-r-m-2
returns-then-r-m-2 c =
    verdict_fault (meant_paired _ (asked_numbers c.requires.0)) (omega (arith, c.loop-end-test.false))
    c.loop-end.invariant c.if-r-m-2.true

pub returns-in-Some : goal.returns-in-Some
returns-in-Some c =
    verdict_missing (meant_paired _ (asked_numbers c.requires.0)) (omega (arith, c.loop-end-test.false))
    c.loop-end.invariant (omega (arith, c.if-r-m-2.false)) c.in-Some.is

pub returns-in-None : goal.returns-in-None
returns-in-None c =
    verdict_yes (meant_paired _ (asked_numbers c.requires.0)) (omega (arith, c.loop-end-test.false))
    c.loop-end.invariant (omega (arith, c.if-r-m-2.false)) c.in-None.is
