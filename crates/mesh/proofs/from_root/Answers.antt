-- `from_root` meets its contract: the tree turned, the bands, the sweep, and the first node with the greatest value.
use Rattle.mesh.proofs.Root.{passed_low, ordered, banded, root_gives}
use Rattle.mesh.proofs.Reading.{wide_readable}
use mathlib.Core.Path.{refl}
use native.Mathlib.Omega.{arith}
use Rattle.mesh.proofs.from_root.Goals as goal

pub turn-requires : goal.turn-requires
turn-requires c =
    let pre = c.requires in
    (record { u = _; v = _; k = _; place = _; hung = pre.1 }, pre.3)

pub passes-requires : goal.passes-requires
passes-requires c =
    let pre = c.requires in
    (wide_readable pre.0, record { n = _; a = _; order = _; hung = c.turn.ensures _ _ _ _ pre.1 })

pub returns-then-not-passes : goal.returns-then-not-passes
returns-then-not-passes c =
    (c.passes.ensures _ _ _ (c.turn.ensures _ _ _ _ c.requires.1)).1 c.if-not-passes.true

pub sizes-requires : goal.sizes-requires
sizes-requires c =
    let h = c.turn.ensures _ _ _ _ c.requires.1 in
    let d = (c.passes.ensures _ _ _ h).0 c.if-not-passes.false in
    (h.few, d.long, passed_low h d)

pub sweep-requires : goal.sweep-requires
sweep-requires c = (ordered (c.turn.ensures _ _ _ _ c.requires.1), c.sizes.ensures.2)

pub farthest-node-requires : goal.farthest-node-requires
farthest-node-requires c =
    let pre = c.requires in
    (omega (arith, pre.3), pre.0.few)

pub returns : goal.returns
returns c =
    let pre = c.requires in
    let h = c.turn.ensures _ _ _ _ pre.1 in
    let d = (c.passes.ensures _ _ _ h).0 c.if-not-passes.false in
    let g = banded h d c.sizes.ensures.0 c.sizes.ensures.1 in (
      root_gives h pre.2 g (rw h.top.0 at c.sweep.ensures.0) c.farthest-node.ensures refl,
      c.farthest-node.ensures.within,
    )
