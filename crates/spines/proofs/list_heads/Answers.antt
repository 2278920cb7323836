-- `list_heads` meets its contract: 20 by the list's length; else the heads by the walk's parents and order are those of
-- the net, wherever they stand, and all of them are copied.
use Rattle.table.specs.Refuse.{refused}
use Rattle.reach.proofs.Grown.{ordered}
use Rattle.reach.proofs.NetWalk.{walk_grown}
use Rattle.spines.proofs.HeadsOnly.{heads_listed}
use native.Mathlib.Omega.{arith}
use Rattle.spines.proofs.list_heads.Goals as goal

pub returns-then-list-n : goal.returns-then-list-n
returns-then-list-n c = refused (λ e. omega (arith, e, c.from-n.ensures))

pub heads_of-requires : goal.heads_of-requires
heads_of-requires c =
    let walk-ensures = c.walk.ensures in
    let from-ensures = c.from-n.ensures in
    let pre = c.requires in
    rw from-ensures (ordered (walk_grown pre walk-ensures))

pub returns : goal.returns
returns c =
    let heads-of-ensures = c.heads_of.ensures in
    let walk-ensures = c.walk.ensures in
    let from-ensures = c.from-n.ensures in
    let pre = c.requires in
    heads_listed _ _ pre walk-ensures (rw from-ensures at heads-of-ensures) c.copy.ensures
    (omega (arith, from-ensures))
