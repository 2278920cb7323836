use Rattle.std.proofs.Common.{rules}
use Rattle.spines.proofs.LeafSweep.{leaf_owns, leaves_all}
use Rattle.spines.proofs.sweeps.leaves_of.Goals as goal

pub sum_up-requires : goal.sum_up-requires
sum_up-requires c =
    record {
      ordered = c.requires;
      owned = (_, leaf_owns c.requires.holds (λ x h. search rules) (λ w e. search rules) (λ x w m e. search rules));
    }

pub returns : goal.returns
returns c =
    leaves_all c.requires.holds
    (c.sum_up.ensures _
    (leaf_owns c.requires.holds (λ x h. search rules) (λ w e. search rules) (λ x w m e. search rules)))
