-- The entries that the numbers of a net laid out by spots mean, and what a row's test asks.
use Rattle.std.specs.Prelude.{ℕ, ◌<◌, List}
use Rattle.table.specs.work.Diff.{Diff}
use Rattle.table.specs.work.Lift.{sum_lift}
use Rattle.limits.specs.declared.Limit.{Limit}
use Rattle.limits.specs.work.Fits.{Fits}
use Rattle.pages.specs.Listing.{Entry}
use Rattle.pages.specs.declared.Sums.{Sums}
use Rattle.pages.specs.work.Lowered.{InSums}
use Rattle.figures.specs.work.Bins.{Tables}
use Rattle.figures.specs.work.Figures.{Figures, Figurable}
use Rattle.vetting.specs.declared.pairs.Pairs.{Pairs}

-- a pair of nodes below n, lower first, with its figures, whose length and lifted weight pass
pub record Meant (spot above far heavy : List ℕ) (n : ℕ) (limit : Limit) (sums : Sums) (e : Entry) : Type 0 where
  pub pair : e.low < e.high
  pub node : e.high < n
  pub lift : ℕ
  pub figures : Figures spot above far heavy e.low e.high e.length lift
  pub load : Diff lift sum_lift e.weight
  pub short : Fits limit e.length
  pub heavy_enough : InSums sums lift

-- what is asked of the numbers: every pair has its figures, the tables are theirs, and a length that passes fits four
-- bytes
pub record Numbers (n : ℕ) (spot above tail front gap far heavy : List ℕ) (limit : Limit) : Type 0 where
  pub figurable : Figurable n spot above far heavy
  pub tables : Tables above tail front gap
  pub most : limit.most < 4294967296

-- the same of the numbers that the code passes on together
abbrev pub MeantOf : Pairs → Entry → Type 0
MeantOf p = Meant p.spot.now p.above.now p.far.now p.heavy.now p.n p.limit p.sums

abbrev pub Ready : Pairs → Type 0
Ready p =
    Numbers p.n p.spot.now p.above.now p.tail.now p.front.now p.gap.now p.far.now p.heavy.now p.limit
