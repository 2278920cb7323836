use mathlib.Core.Path.{◌≡◌}
use native.Mathlib.Omega.{arith}
use Rattle.arrays.proofs.Fills.{filled_by}
use Rattle.ring.proofs.Union.{seen_none, seen_more, seen_ring, rises_more}
use Rattle.ring.proofs.first_ring.Goals.{After-loop-r}
use Rattle.ring.proofs.first_ring.Goals as goal

-- at the end all rows have been seen
e : (c : After-loop-r) → c.loop-r.r ≡ c.args.rows
e c = omega arith

pub loop-r-init : goal.loop-r-init
loop-r-init c =
    let number-ensures = c.number.ensures in
    let zero = filled_by {m = 4096} {v = 0} c.told-rank c.fill.ensures.after in
    (seen_none _ _ _ _ _ number-ensures.long zero.long number-ensures.each zero.each, c.requires)

pub first_end-requires : goal.first_end-requires
first_end-requires c = c.loop-r.invariant.1.stands _ c.loop-r-test.true

pub find-p-requires : goal.find-p-requires
find-p-requires c =
    let loop-test-taken = c.loop-r-test.true in
    let h = c.loop-r.invariant in (
      rw c.first_end.ensures (h.1.fit.first _ loop-test-taken),
      rises_more (omega (arith, h.0.within, h.1.few)) h.0.ranks,
    )

pub second_end-requires : goal.second_end-requires
second_end-requires c =
    let loop-test-taken = c.loop-r-test.true in
    let loop-inv = c.loop-r.invariant in
    loop-inv.1.stands _ loop-test-taken

pub find-q-requires : goal.find-q-requires
find-q-requires c =
    let loop-test-taken = c.loop-r-test.true in
    let h = c.loop-r.invariant in (
      rw c.second_end.ensures (h.1.fit.second _ loop-test-taken),
      rises_more (omega (arith, h.0.within, h.1.few)) h.0.ranks,
    )

pub returns-then-p-q : goal.returns-then-p-q
returns-then-p-q c =
    let find-ensures = c.find-p.ensures in
    let first-end-ensures = c.first_end.ensures in
    let loop-test-taken = c.loop-r-test.true in
    let h = c.loop-r.invariant in
    seen_ring _ _ _ _ _ _ _ _ h.0 h.1.fit loop-test-taken (rw first-end-ensures at find-ensures)
    (rw c.second_end.ensures at c.find-q.ensures) c.if-p-q.true

pub link-requires : goal.link-requires
link-requires c =
    let q = c.find-q.ensures.within in
    let p = c.find-p.ensures.within in
    let h = c.loop-r.invariant in
    record {
      one = p;
      two = q;
      apart = c.if-p-q.false;
      long = h.0.long.1;
      one_low = omega (arith, h.0.ranks.most _ p, h.0.within, h.1.few);
      two_low = omega (arith, h.0.ranks.most _ q, h.0.within, h.1.few);
    }

pub loop-r-preserved : goal.loop-r-preserved
loop-r-preserved c =
    let if1-left = c.if-p-q.false in
    let find2-ensures = c.find-q.ensures in
    let second-end-ensures = c.second_end.ensures in
    let find-ensures = c.find-p.ensures in
    let first-end-ensures = c.first_end.ensures in
    let loop-test-taken = c.loop-r-test.true in
    let h = c.loop-r.invariant in (
      seen_more _ _ _ _ _ _ _ _ h.0 h.1.fit loop-test-taken (rw first-end-ensures at find-ensures)
          (rw second-end-ensures at find2-ensures) if1-left _ _ c.link.ensures,
      h.1,
    )

pub returns : goal.returns
returns c =
    let h = c.loop-r.invariant in
    record { within = omega arith; forest = rw (e c) at h.0.forest; closes = λ b. absurd (omega arith) }
