use Prim.Native.Nat.{◌-◌}
use mathlib.Core.Path.{◌≡◌}
use native.Mathlib.Omega.{arith}
use Rattle.accept.proofs.Counting.{none_looked_at, none_of_version_1, one_more, no_more}
use Rattle.accept.proofs.filler_rows.Goals as goal
use Rattle.accept.proofs.filler_rows.Goals.{then-is_filler, else-is_filler}

pub returns-then-two-ne2 : goal.returns-then-two-ne2
returns-then-two-ne2 c = none_of_version_1 c.args.s.now _ (λ e. omega (arith, e, c.two.ensures.0))

pub loop-r-init : goal.loop-r-init
loop-r-init c = (omega arith, none_looked_at c.args.s.now)

pub loop-r-preserved : goal.loop-r-preserved
loop-r-preserved c =
    let inv = c.loop-r.invariant in
    elim c.if-is_filler.branch [
      | then-is_filler w ↦
          rw w.filler-is (
            omega arith,
            one_more c.args.s.now inv.1 (omega (arith, c.two.ensures.0))
                (rw c.kind_at.ensures at (c.is_filler.ensures.holds w.if-is_filler.true)),
          )
      | else-is_filler w ↦
          rw w.filler-is (
            omega arith,
            no_more c.args.s.now inv.1
                (λ f. c.is_filler.ensures.fails w.if-is_filler.false (rw c.kind_at.ensures f)),
          )
    ]

pub returns : goal.returns
returns c =
    let e : c.loop-r.r ≡ c.args.nodes - 1 = omega arith in
    rw e at c.loop-r.invariant.1
