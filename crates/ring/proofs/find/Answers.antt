use mathlib.Core.Path.{sym, ◌∙◌}
use native.Mathlib.Omega.{arith}
use Rattle.ring.specs.work.Union.{here}
use Rattle.ring.proofs.Union.{climb_more}
use Rattle.ring.proofs.find.Goals as goal

pub loop-t-init : goal.loop-t-init
loop-t-init c = (omega arith, here, c.requires.1)

pub returns-then-p-t : goal.returns-then-p-t
returns-then-p-t c =
    let h = c.loop-t.invariant in
    record { within = h.0; root = sym c.from-p.ensures ∙ c.if-p-t.true; climbs = h.1 }

pub loop-t-smaller : goal.loop-t-smaller
loop-t-smaller c =
    let h = c.loop-t.invariant in
    let t = c.loop-t.t in
    let e = c.from-p.ensures in
    omega (
      arith,
      rw (sym e) at (h.2.rises t h.0 (λ q. c.if-p-t.false (e ∙ q))),
      h.2.most c.from-p.result (rw (sym e) at (h.2.within t h.0)),
    )

pub loop-t-preserved : goal.loop-t-preserved
loop-t-preserved c =
    let h = c.loop-t.invariant in
    let t = c.loop-t.t in
    let e = c.from-p.ensures in
    (rw (sym e) at (h.2.within t h.0), climb_more h.1 (sym e), h.2)
