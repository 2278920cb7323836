-- The entries that the numbers of a net mean are those that a listing considers: the figures of a pair are the length
-- and the weight of its path, and a pair has one path.
use Prim.Native.Nat.{ℕ}
use mathlib.Core.Path.{◌≡◌}
use mathlib.Core.List.{List}
use lib.IntN.{ℤ}
use Rattle.table.specs.work.Diff.{Diff}
use Rattle.table.specs.work.Lift.{sum_lift}
use Rattle.limits.specs.declared.Limit.{Limit}
use Rattle.limits.specs.work.Fits.{Fits}
use Rattle.pages.specs.Listing.{Entry}
use Rattle.pages.specs.Passes.{Passes}
use Rattle.pages.specs.declared.Sums.{Sums}
use Rattle.pages.specs.work.Lowered.{lower, Weighs}
use Rattle.pages.proofs.Lift.{lower_is}
use Rattle.layout.specs.work.Spotted.{Spotted}
use Rattle.figures.proofs.Paths.{figurable, figures_value}
use Rattle.figures.proofs.Valuing.{figures_some, figures_light}
use Rattle.vetting.specs.work.Meant.{Meant}

-- one path, one length and one weight
abbrev pub OnePath : (ℕ → ℕ → ℕ → ℤ → Type 0) → Type 0
OnePath Value = (a b l k : ℕ) (w z : ℤ) → Value a b l w → Value a b k z → (l ≡ k) × (w ≡ z)

module _ {Value : ℕ → ℕ → ℕ → ℤ → Type 0} {n : ℕ} {spot above far heavy : List ℕ}
    (S : Spotted Value n spot above far heavy) {limit : Limit} {sums : Sums} {Heavy : ℤ → Type 0}
    (W : Weighs Heavy sums) where
  pub meant_passes : (e : Entry) → Meant spot above far heavy n limit sums e → Passes Value (Fits limit) Heavy n e
  meant_passes e m = record {
    pair = m.pair;
    node = m.node;
    path = figures_value S m.pair m.node m.figures m.load;
    short = m.short;
    heavy = W.enough m.lift e.weight m.load m.heavy_enough;
  }

  pub passes_meant : OnePath Value → (e : Entry) → Passes Value (Fits limit) Heavy n e
      → Meant spot above far heavy n limit sums e
  passes_meant one e p =
      let f = figures_some (figurable S) p.pair p.node in
      let x = f.1 in
      let v = figures_value S p.pair p.node f.2 (lower_is x) in
      let o = one e.low e.high e.length f.0 e.weight (lower x) p.path v in
      let load : Diff x sum_lift e.weight = rw o.1 (lower_is x) in
      record {
        pair = p.pair;
        node = p.node;
        lift = x;
        figures = rw o.0 f.2;
        load = load;
        short = p.short;
        heavy_enough = W.needed x e.weight load (figures_light (figurable S) p.pair p.node f.2) p.heavy;
      }
