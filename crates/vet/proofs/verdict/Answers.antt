-- `verdict` walks the net, reads the branches, lays them out by spots and compares each row by numbers: the walk and
-- the branches are the ground of the accepted net, and what the layout says of any ground it says of this one.
use native.Mathlib.Omega.{arith}
use mathlib.Core.Path.{◌∙◌}
use mir.Syntax.{w64}
use mir.ValLaws.{to_z-of_z}
use Rattle.ground.proofs.Branching.{ground}
use Rattle.vet.proofs.Verdicts.{rows_asked, verdict_is}
use Rattle.vet.proofs.verdict.Goals as goal

pub spots_of-requires : goal.spots_of-requires
spots_of-requires c =
    let from-ensures = c.from-n.ensures in
    let grounded-ensures = c.grounded.ensures in
    rw from-ensures (ground grounded-ensures)

pub vet_rows-requires : goal.vet_rows-requires
vet_rows-requires c =
    let long-ensures = c.from-most.ensures in
    let spots-of-ensures = c.spots_of.ensures in
    let from-ensures = c.from-n.ensures in
    let grounded-ensures = c.grounded.ensures in
    rows_asked from-ensures grounded-ensures spots-of-ensures (omega (arith, long-ensures))
    (omega (arith, c.requires.list_len))

pub returns : goal.returns
returns c =
    let raised-ensures = c.raised.ensures in
    let long-ensures = c.from-most.ensures in
    let spots-of-ensures = c.spots_of.ensures in
    let from-ensures = c.from-n.ensures in
    let grounded-ensures = c.grounded.ensures in
    let args = c.args in
    let fits = c.ranges in
    let e = to_z-of_z w64 args.floor fits.floor in
    verdict_is from-ensures grounded-ensures spots-of-ensures (long-ensures ∙ c.requires.bound_value)
    (rw e at raised-ensures) args.list.now _ c.vet_rows.result c.vet_rows.ensures
