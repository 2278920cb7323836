use Rattle.arrays.proofs.Fills.{filled_by}
use Rattle.mesh.proofs.Climbs.{passes_start, passes_skip, extra_not, round_of}
use mathlib.Core.Bool.{true≢false, false≢true}
use mathlib.Core.Path.{◌≡◌}
use native.Mathlib.Omega.{arith}
use Rattle.mesh.proofs.bands.passes.Goals.{else-extra-via-then-extra+else-not-round, else-extra-via-else-extra}
use Rattle.mesh.proofs.bands.passes.Goals as goal

pub loop-r-init : goal.loop-r-init
loop-r-init c = (omega arith, λ n a order h. passes_start h.few (filled_by (omega arith) c.fill.ensures.after))

pub first_end-p-requires : goal.first_end-p-requires
first_end-p-requires c = c.requires.0.stands _ c.loop-r-test.true

pub second_end-q-requires : goal.second_end-q-requires
second_end-q-requires c =
    let pre = c.requires in
    pre.0.stands _ c.loop-r-test.true

pub round-requires : goal.round-requires
round-requires c =
    let from2-ensures = c.from-in-loop-r.ensures in
    let from-ensures = c.from.ensures in
    let second-end-ensures = c.second_end-q.ensures in
    let first-end-ensures = c.first_end-p.ensures in
    let loop-test-taken = c.loop-r-test.true in
    let loop-inv = c.loop-r.invariant in
    let t = c.requires.1 in
    record {
      u = _;
      v = _;
      k = _;
      n = _;
      a = _;
      order = _;
      r = _;
      round = round_of t.hung loop-test-taken first-end-ensures second-end-ensures from-ensures
          from2-ensures (c.extra.ensures.0 c.if-extra.true)
          (loop-inv.1 t.n t.a t.order t.hung);
    }

pub returns-then-not-round : goal.returns-then-not-round
returns-then-not-round c =
    let first-end-ensures = c.first_end-p.ensures in
    let second-end-ensures = c.second_end-q.ensures in
    λ n a order h.
    let t = round_of h c.loop-r-test.true first-end-ensures second-end-ensures c.from.ensures
    c.from-in-loop-r.ensures (c.extra.ensures.0 c.if-extra.true) (c.loop-r.invariant.1 n a order h) in
    (λ e. absurd (false≢true e), λ _. (c.round.ensures _ _ _ n a order _ t).1 c.if-not-round.true)

pub loop-r-preserved : goal.loop-r-preserved
loop-r-preserved c =
    let from-ensures = c.from.ensures in
    let from2-ensures = c.from-in-loop-r.ensures in
    let second-end-ensures = c.second_end-q.ensures in
    let first-end-ensures = c.first_end-p.ensures in
    let loop-inv = c.loop-r.invariant in (
      omega arith,
      λ n a order h. elim c.else-extra.branch [
        | else-extra-via-then-extra+else-not-round w ↦
            let t = round_of h c.loop-r-test.true first-end-ensures second-end-ensures from-ensures from2-ensures
            (c.extra.ensures.0 w.if-extra.true) (loop-inv.1 n a order h) in
            rw w.over-is ((w.round.ensures _ _ _ n a order _ t).0 w.if-not-round.false)
        | else-extra-via-else-extra w ↦
            rw w.over-is
            (passes_skip
            (extra_not first-end-ensures second-end-ensures from-ensures from2-ensures
            (c.extra.ensures.1 w.if-extra.false))
            (loop-inv.1 n a order h))
      ],
    )

pub returns : goal.returns
returns c =
    let e : c.loop-r.r ≡ c.args.rows = omega arith in
    λ n a order h. (λ _. rw e at (c.loop-r.invariant.1 n a order h), λ t. absurd (true≢false t))
