use Rattle.std.proofs.Common.{rules}
use Rattle.spines.proofs.SizeSweep.{size_owns, sizes_all}
use Rattle.spines.proofs.sizes_of.Goals as goal

pub sum_up-requires : goal.sum_up-requires
sum_up-requires c =
    let small = c.requires.holds.some.1 in
    record { ordered = c.requires; owned = (_, size_owns _ _ (λ x h. search rules) (λ x w e. search rules)) }

pub returns : goal.returns
returns c =
    let small = c.requires.holds.some.1 in
    sizes_all _ _ (c.sum_up.ensures _ (size_owns _ _ (λ x h. search rules) (λ x w e. search rules)))
