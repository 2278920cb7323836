-- `Lists::hang` meets its contract: the keys differ from the distances by one number for all, so the copied list is
-- sorted by them too.
use Rattle.parts.proofs.Keys.{lone_hang}
use Rattle.parts.proofs.Lists.hang.Goals as goal

pub returns-clause-lone : goal.returns-clause-lone
returns-clause-lone c =
    (lone_hang _ _ _ _ _ _ _ _ _ _ _ _ _ c.requires.world c.requires.sizes c.requires.s_lt_e.1 c.requires.listed
    c.copy.ensures c.from-p.ensures c.raise.ensures c.raise-2.ensures).0
