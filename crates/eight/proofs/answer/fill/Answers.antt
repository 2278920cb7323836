-- `fill` writes the eight numbers as they are given.
use native.Mathlib.Omega.{arith}
use mathlib.Core.Path.{refl}
use mir.Syntax.{w64}
use mir.ValLaws.{to_z-of_z, to_z_pos}
use Rattle.eight.proofs.Numbers.{kept}
use Rattle.eight.proofs.answer.fill.Goals as goal

pub returns : goal.returns
returns c =
    let pre = c.requires in
    let number = kept c.from.ensures c.from.type_inv in
    let row = to_z_pos w64 c.args.row pre.low in
    let ring = to_z_pos w64 c.args.ring (omega (arith, pre.few)) in
    let a = c.ranges in
    λ lent. rw (
      number,
      row,
      ring,
      to_z-of_z w64 _ a.f0,
      to_z-of_z w64 _ a.f1,
      to_z-of_z w64 _ a.f2,
      to_z-of_z w64 _ a.f3,
    ) refl
