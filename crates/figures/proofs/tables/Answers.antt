-- `figures::tables` meets its contract: the gaps are made from the tails.
use Rattle.figures.proofs.tables.Goals as goal

pub returns : goal.returns
returns c =
    let t = c.tails.ensures in
    record { tails = t; fronts = c.fronts.ensures; gaps = c.gaps.ensures _ t }
