-- Marks enter a path through what a branch weighs alone. Two sets of marks, free at the same places, give a path one
-- weight, whoever the holders are: so the same entries pass under both. And under marks that are free at more places
-- each path is there too, as long, and weighs no less.
use Prim.Native.Nat.{ℕ, ◌-◌}
use mathlib.Core.Path.{◌≡◌, refl, sym, ◌∙◌}
use mathlib.Core.List.{List}
use lib.IntN.{ℤ}
use lib.Signed.{◌≤ℤ◌}
use Rattle.net.specs.Net.{first_end, second_end}
use Rattle.net.specs.Value.{Value, Total}
use Rattle.net.proofs.Values.{total_same, total_keeps}
use Rattle.marks.specs.Weighs.{weight_under}
use Rattle.marks.proofs.Weights.{Alike, Freer, holders_alike, freer_weighs}
use Rattle.pages.specs.Listing.{Entry, entry}
use Rattle.pages.specs.Passes.{Passes}
use Rattle.pages.proofs.Qualifying.{passes_map}
use Rattle.ground.specs.PathOf.{PathOf}

module _ (s marks marks' : List ℕ) (h : Alike marks marks') (n : ℕ) where
  -- however long the branches are
  pub value_alike : {long : ℕ → ℕ} {a b l : ℕ} {w : ℤ}
      → Value (first_end s) (second_end s) (n - 1) long (weight_under s marks) a b l w
      → Value (first_end s) (second_end s) (n - 1) long (weight_under s marks') a b l w
  value_alike p =
      record {
        rows = p.rows;
        path = p.path;
        length = p.length;
        weight = sym
            (total_same (weight_under s marks) (weight_under s marks') p.rows (holders_alike s marks marks' h))
            ∙ p.weight;
      }

  pub path_alike : {a b l : ℕ} {w : ℤ} → PathOf s marks n a b l w → PathOf s marks' n a b l w
  path_alike p = value_alike p

  pub passes_alike : {Within : ℕ → Type 0} {Heavy : ℤ → Type 0} (e : Entry) → Passes (PathOf s marks n) Within Heavy n e
      → Passes (PathOf s marks' n) Within Heavy n e
  passes_alike e = passes_map path_alike (λ q. q) (λ q. q)

pub flip : (marks marks' : List ℕ) → Alike marks marks' → Alike marks' marks
flip marks marks' h r = ((h r).1, (h r).0)

-- an entry that passes, whatever it weighs, has one of its pair and length under any other marks; where these are
-- freer, it weighs no less
module _ (s marks marks' : List ℕ) {Within : ℕ → Type 0} (n : ℕ) (e : Entry)
    (p : Passes (PathOf s marks n) Within (λ w. Unit {0}) n e) where
  abbrev pub under : Entry
  under = entry e.low e.high e.length (Total (weight_under s marks') p.path.rows)

  pub under_passes : Passes (PathOf s marks' n) Within (λ w. Unit {0}) n under
  under_passes = record {
    pair = p.pair;
    node = p.node;
    path = record { rows = p.path.rows; path = p.path.path; length = p.path.length; weight = refl };
    short = p.short;
    heavy = tt;
  }

  pub under_keeps : Freer marks marks' → e.weight ≤ℤ under.weight
  under_keeps f =
      of p.path.weight
      (total_keeps (weight_under s marks) (weight_under s marks') p.path.rows (freer_weighs s marks marks' f))
    where
      of : {x y z : ℤ} → x ≡ y → x ≤ℤ z → y ≤ℤ z
      of q h = rw (← q) h
