-- How a list stands when some first nodes have been tested.
use Rattle.std.specs.Prelude.{ℕ, ◌*◌, ◌≤◌, ◌<◌, ◌≡◌, List, Option, length}
use Rattle.limits.specs.declared.Limit.{Limit}
use Rattle.pages.specs.Listing.{Entry}
use Rattle.figures.specs.work.Bins.{Tables}
use Rattle.figures.specs.work.Figures.{Figurable}
use Rattle.vetting.specs.Vets.{GoodRow}
use Rattle.vetting.specs.work.Foreign.{Belongs}
use Rattle.vetting.specs.work.Lines.{LineDone}
use Rattle.vetting.specs.work.Repeats.{low_of, high_of, Named}
use Rattle.vetting.specs.work.Lacks.{FirstLack}
use Rattle.vetting.specs.declared.lacks.Lack.{Lack}
use Rattle.vetting.specs.declared.pairs.Pairs.{Pairs}

-- the first r rows belong, none of those whose first node is one with D names the pair of an earlier one, and row r,
-- where there is one, is not good
pub record Screened (P : Entry → Type 0) (s : List ℕ) (m : ℕ) (D : ℕ → Type 0) (r : ℕ) : Type 0 where
  pub within : r ≤ m
  pub belong : (i : ℕ) → i < r → Belongs P s i
  pub fresh : (i : ℕ) → i < r → D (low_of s i) → ¬ Named s i (low_of s i) (high_of s i)
  pub bad : r < m → ¬ GoodRow P s r

-- the lines before `from` are done: r is as above and, where no row is at fault, so is the first pair of those first
-- nodes that no row names
pub record ScreenedTo (P : Entry → Type 0) (s : List ℕ) (m n from r : ℕ) (k : Option Lack) : Type 0 where
  pub rows : Screened P s m (LineDone n from) r
  pub lack : r ≡ m → FirstLack P (Named s m) n (LineDone n from) k

-- what the whole asks, and what the blocks ask: the tables too
pub record RowsAsked (s : List ℕ) (m n : ℕ) (spot above far heavy : List ℕ) (limit : Limit) : Type 0 where
  pub figurable : Figurable n spot above far heavy
  pub most : limit.most < 4294967296
  pub some : 0 < n
  pub long : length s ≡ 16 * m

pub record BlocksAsked (s : List ℕ) (m : ℕ) (p : Pairs) : Type 0 where
  pub rows : RowsAsked s m p.n p.spot.now p.above.now p.far.now p.heavy.now p.limit
  pub tables : Tables p.above.now p.tail.now p.front.now p.gap.now
