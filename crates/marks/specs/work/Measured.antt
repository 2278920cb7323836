-- A climb as it is measured: its length, its weight under the marks, lifted by 2^33, and how many of its rows are free.
use Rattle.std.specs.Prelude.{◌≡◌, List, ℕ, zero, suc, ◌+◌, ◌≤◌}
use Rattle.arrays.specs.At.{at}
use Rattle.table.specs.work.Diff.{Diff}
use Rattle.table.specs.work.Lift.{sum_lift}
use Rattle.net.specs.Path.{Sum}
use Rattle.net.specs.Value.{Total}
use Rattle.net.specs.Net.{length_of}
use Rattle.net.specs.work.Rise.{Rise, row_of}
use Rattle.marks.specs.Weighs.{weight_under}

-- 1 for a free mark, 0 for any other
unfoldable pub one_free : ℕ → ℕ
one_free zero = 1
one_free (suc m) = 0

-- how many of the rows are free
abbrev pub Frees : List ℕ → List ℕ → ℕ
Frees marks rs = Sum (λ r. one_free (at marks r)) rs

-- the climb from x to t has length l, lifted weight q and k free rows; none of them more than 4,095 rows can have
pub record Measured (s marks parent half : List ℕ) (x t l q k : ℕ) : Type 0 where
  pub rows : List ℕ
  pub rise : Rise (at parent) (row_of half) t x rows
  pub long : Sum (length_of s) rows ≡ l
  pub heavy : Diff q sum_lift (Total (weight_under s marks) rows)
  pub frees : Frees marks rows ≡ k
  pub most : l ≤ 4095000000
  pub low : sum_lift ≤ q + 4095000000
  pub high : q ≤ sum_lift + 4095000000
  pub least : k ≤ 4095
