-- `hb_claim` shows what the claim gives.
use Rattle.capi.proofs.Rows.{claim_low}
use Rattle.capi.proofs.Shown.{shows}
use Rattle.capi.proofs.hb_claim.Goals as goal

pub show_change-requires : goal.show_change-requires
show_change-requires c = claim_low _ _ _ _ _ _ c.claim-o.ensures

pub returns : goal.returns
returns c = shows _ c.claim-o.ensures (c.show_change.ensures _)
