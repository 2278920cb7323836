-- DOCUMENT 01'S BOUNDS. In an accepted net a path's length is at most 4,095,000,000 and its weight lies within that of
-- 0, whatever the marks. So an entry that passes fits its 16 bytes.
use Prim.Native.Nat.{ℕ, ◌≤◌, ◌<◌}
use mathlib.Core.List.{List}
use native.Mathlib.Omega.{arith}
use lib.IntN.{ℤ, pos, negsuc, nat_abs}
use mir.Syntax.{w64}
use mir.Val.{SFits}
use Rattle.net.specs.work.Net.{Net}
use Rattle.net.proofs.Short.{path_short, path_light}
use Rattle.marks.proofs.Weights.{under_near}
use Rattle.pages.specs.Listing.{Entry}
use Rattle.pages.specs.Passes.{Passes}
use Rattle.pages.specs.work.RowFits.{RowFits}
use Rattle.ground.specs.PathOf.{PathOf}

near_fits : (z : ℤ) → nat_abs z ≤ 4095000000 → SFits w64 z
near_fits (pos k) h = record { sfits = omega arith }
near_fits (negsuc k) h = record { sfits = omega arith }

module _ (s marks : List ℕ) {n : ℕ} (t : Net s n) where
  pub path_bounds : {a b l : ℕ} {w : ℤ} → a < n → PathOf s marks n a b l w → (l ≤ 4095000000) × (nat_abs w ≤ 4095000000)
  path_bounds h p = (path_short t h p, path_light t (λ r k. under_near marks t k) h p)

  pub passes_fits : {Within : ℕ → Type 0} {Heavy : ℤ → Type 0} {e : Entry} → Passes (PathOf s marks n) Within Heavy n e
      → RowFits e
  passes_fits {e = e} p =
      let b = path_bounds (omega (arith, p.pair, p.node)) p.path in
      record {
        low = omega (arith, p.pair, p.node, t.few);
        high = omega (arith, p.node, t.few);
        length = omega (arith, b.0);
        weight = near_fits e.weight b.1;
      }
