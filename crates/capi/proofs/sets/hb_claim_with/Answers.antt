-- `hb_claim_with` shows what `claim_with` gives.
use Rattle.capi.proofs.RowsWith.{claim_with_low}
use Rattle.capi.proofs.Shown.{shows}
use Rattle.capi.proofs.sets.hb_claim_with.Goals as goal

pub show_change-requires : goal.show_change-requires
show_change-requires c = claim_with_low _ _ _ _ _ _ _ c.claim_with-o.ensures

pub returns : goal.returns
returns c = shows _ c.claim_with-o.ensures (c.show_change.ensures _)
