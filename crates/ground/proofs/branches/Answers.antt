use Prim.Native.Nat.{◌/◌}
use mathlib.Core.Path.{ap, ◌∙◌}
use native.Mathlib.Omega.{arith}
use Rattle.arrays.proofs.Fills.{filled_by}
use Rattle.net.proofs.Net.{reads_length}
use Rattle.marks.proofs.Weights.{under_lifts, under_small}
use Rattle.ground.proofs.Branching.{branches_none, branches_more, branches_all, row_in}
use Rattle.ground.proofs.branches.Goals as goal

pub loop-x-init : goal.loop-x-init
loop-x-init c = branches_none (filled_by c.told-bl c.fill.ensures.after) (filled_by c.told-bw c.fill-2.ensures.after)

pub loop-x-preserved : goal.loop-x-preserved
loop-x-preserved c =
    let row = c.from-r.ensures in
    let lifted = c.lifted_under.ensures in
    let weight = c.from-in-loop-x.ensures in
    let t = c.requires.net in
    let h = row_in c.requires (omega arith) c.loop-x-test.true row in
    branches_more _ _ _ (omega arith) (ap (λ h. h / 2) row)
    (c.from.ensures ∙ reads_length (t.stands _ h) c.row_at.ensures)
    (rw weight (under_lifts t h lifted))
    (omega (arith, weight, under_small t h lifted)) c.loop-x.invariant

pub returns : goal.returns
returns c = branches_all c.loop-x-test.false c.loop-x.invariant
