-- A loop along a climb: what is passed and what is left are together the rows of the whole climb, and at its end what
-- is passed are all of them.
use mathlib.Core.Path.{◌≡◌}
use mathlib.Core.Logic.{◌≢◌}
use mathlib.Core.List.{List, [], ◌∷◌, ◌++◌, append_assoc, append-nil}
use Prim.Native.Nat.{ℕ, ◌+◌, ◌≤◌, ◌<◌}
use native.Mathlib.Omega.{arith}
use lib.ListN.{length, length-append}
use Rattle.arrays.specs.At.{at}
use Rattle.net.specs.work.Rise.{Rise, row_of, WalkClimb}
use Rattle.net.proofs.Rises.{rise_next, rise_end}

-- the climb from x to t stands at v, with the rows done behind it
pub record Along (k : ℕ) (parent half place : List ℕ) (x t v : ℕ) (done : List ℕ) : Type 0 where
  pub left : WalkClimb k parent half place v t
  pub whole : Rise (at parent) (row_of half) t x (done ++ left.rows)
  pub short : length done + at place v ≤ 4095

module _ {k : ℕ} {parent half place : List ℕ} {x t : ℕ} where
  pub along_start : (c : WalkClimb k parent half place x t) → Along k parent half place x t x []
  along_start c = record { left = c; whole = c.rise; short = omega (arith, c.low, c.few) }

  pub along_end : {v : ℕ} {done : List ℕ} → v ≡ t → Along k parent half place x t v done
      → Rise (at parent) (row_of half) t x done
  along_end {v} {done} e a =
      let c = a.left in
      let z : c.rows ≡ [] = rise_end c.rooted (rw e at c.fits) (rw e at c.rise) in
      rw (z, append-nil) at a.whole

  module _ {v : ℕ} {done : List ℕ} (a : Along k parent half place x t v done) (on : v ≢ t) where
    next : (v ≢ 0)
        × (rest : List ℕ)
        × (a.left.rows ≡ row_of half v ∷ rest)
        × Rise (at parent) (row_of half) t (at parent v) rest
    next = rise_next on a.left.rise

    pub along_fits : v < 4096
    along_fits = omega (arith, a.left.fits, a.left.few)

    pub along_row : row_of half v < k
    along_row = omega (arith, a.left.rooted.row_fits v a.left.fits next.0, a.left.many)

    pub along_less : at place (at parent v) < at place v
    along_less = a.left.rooted.earlier v a.left.fits next.0

    pub along_step : {r p : ℕ} → r ≡ row_of half v → p ≡ at parent v
        → Along k parent half place x t p (done ++ (r ∷ []))
    along_step {r} {p} q e =
        let c = a.left in
        let w : Rise (at parent) (row_of half) t x (done ++ (row_of half v ∷ next.1)) = rw next.2 at a.whole in
        rw (q, e) (record {
          left = record {
            nodes = c.nodes;
            few = c.few;
            many = c.many;
            first = c.first;
            second = c.second;
            rooted = c.rooted;
            fits = c.rooted.par_fits v c.fits next.0;
            low = omega (arith, along_less, c.low);
            rows = next.1;
            rise = next.3;
          };
          whole = rw append_assoc w;
          short = omega (arith, length-append done (row_of half v ∷ []), along_less, a.short);
        })
