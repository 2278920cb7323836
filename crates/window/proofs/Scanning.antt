-- What the two scans take. Of one first node the pairs that pass are those that the arrays of its sweeps show: by the
-- lengths of a net, for the best pair; and by the keys of one net, with the lengths of another, for the list.
use Prim.Native.Nat.{ℕ, ◌+◌, ◌≤◌, ◌<◌}
use mathlib.Core.Path.{◌≡◌, sym, ap, ◌∙◌}
use mathlib.Core.List.{List}
use native.Mathlib.Omega.{arith}
use native.Mathlib.Decide.{ℕ_discrete}
use lib.ListN.{length, set}
use lib.Seq.{get_or-set_same, get_or-set_other}
use lib.Signed.{◌≤ℤ◌}
use Rattle.arrays.specs.At.{at}
use Rattle.arrays.specs.work.Filled.{Filled}
use Rattle.pages.specs.Listing.{Entry}
use Rattle.pages.specs.Paged.{Paged}
use Rattle.pages.specs.declared.Sums.{Sums}
use Rattle.pages.specs.work.Filling.{Starts, Here}
use Rattle.pages.proofs.Order.{after_start}
use Rattle.pages.proofs.Firsts.{
  here_wanted,
  wanted_here,
  Scanning,
  scanning_next,
  scanning_skip,
  scanning_end,
}
use Rattle.paths.specs.work.Paths.{Paths}
use Rattle.ground.specs.work.Grounded.{ValueIn, LengthIn}
use Rattle.ground.proofs.Scanned.{single, valued, by_length, by_key}
use Rattle.window.specs.declared.best.CountLimits.{CountLimits}
use Rattle.window.specs.declared.best.Found.{Found}
use Rattle.window.specs.work.Best.{Stand, InLimits, Passing, BestOf, Bettered, Best}
use Rattle.window.specs.work.Scan.{ListStand, ListTaken, Hits, RowsOf}
use Rattle.window.proofs.Bettering.{found, Region, best_none, best_more, best_early, best_iff}

-- every pair follows (0, 0)
all_seconds : (u n : ℕ) → u < n → Starts 0 0 u n (u + 1)
all_seconds u n b =
    record {
      within = omega arith;
      after = λ v c d. (omega arith, λ q. omega arith);
      before = λ v c d q. omega arith;
    }

module _ {n : ℕ} {parent order place bl bw : List ℕ} {sums : Sums} (g : Stand n parent order place bl bw sums)
    {counts : CountLimits} where
  -- the pairs of first node u, by the arrays of its sweep
  pub of_node : {u : ℕ} {key wt : List ℕ} → u < n → Paths g.ground u key wt
      → ((e : Entry) → Passing counts g e → e.low ≡ u → Here (InLimits counts) key key wt u (u + 1) sums n e)
      × ((e : Entry) → Here (InLimits counts) key key wt u (u + 1) sums n e → Passing counts g e × (e.low ≡ u))
  of_node {u} b p =
      let one = single g.ground g.ground in
      let all = valued g.ground g.ground p p in
      let from = all_seconds u n b in (
        λ e h q. wanted_here one (omega arith) all from g.weighs e
            (by_key g.ground e h, after_start e h.pair) q,
        λ e h. (by_length g.ground e (here_wanted one (omega arith) all from g.weighs e h).0, h.one),
      )

module _ {n : ℕ} {parent order place bl bw : List ℕ} {sums : Sums} (counts : CountLimits)
    (g : Stand n parent order place bl bw sums) where
  -- the first nodes below u are passed: the best so far, and of the others all are hit, of those passed each that has a
  -- pair of its count
  pub record Searched (first u : ℕ) (hits : List ℕ) (b : Found) : Type 0 where
    pub best : BestOf (Region (Passing counts g) first u) b
    pub hit : (e : Entry) → Passing counts g e → first ≤ e.low → (e.low < u → e.length ≡ b.count)
        → at hits e.low ≡ 1

  pub searched_none : {first a b x h : ℕ} {hits : List ℕ} → n ≤ 4096 → Filled 4096 1 hits
      → Searched first first hits (found a b 0 x h)
  searched_none m f =
      record {
        best = best_none;
        hit = λ e p s q. f.each e.low (omega (arith, p.pair, p.node));
      }

  module _ {first u : ℕ} {hits : List ℕ} {b : Found} (c : Searched first u hits b) where
    pub searched_next : {key wt : List ℕ} {b₁ : Found} → first ≤ u → u < n → length hits ≡ 4096 → n ≤ 4096
        → Paths g.ground u key wt
        → Bettered (Here (InLimits counts) key key wt u (u + 1) sums n) b b₁
        → Searched first (u + 1) (set hits u b₁.hit) b₁
    searched_next {b₁ = b₁} s l long m p t = record {
      best = best_more s (of_node g l p).0 (of_node g l p).1 c.best t;
      hit = λ e q r z. pick e q r z (ℕ_discrete e.low u);
    }
      where
        pick : (e : Entry) → Passing counts g e → first ≤ e.low → (e.low < u + 1 → e.length ≡ b₁.count)
            → Dec (e.low ≡ u) → at (set hits u b₁.hit) e.low ≡ 1
        pick e q r z (yes o) =
            let h = t.hits e ((of_node g l p).0 e q o) (z (omega arith)) in
            rw o (get_or-set_same hits u b₁.hit 0 (omega arith) ∙ h)
        pick e q r z (no o) =
            get_or-set_other hits u e.low b₁.hit 0 o
            ∙ c.hit e q r (λ d. omega (arith, z (omega arith), c.best.beats e (q, r, d), t.kept))

    -- all first nodes are passed
    pub searched_end : n ≤ u → Best first counts g hits b
    searched_end h =
        record {
          is = best_iff (λ e p. (p.0, p.1)) (λ e p. (p.0, p.1, omega (arith, p.0.pair, p.0.node))) c.best;
          hit = λ e p q. c.hit e p.0 p.1 (λ _. q);
        }

    -- or the best has as many branches as the upper limit
    pub searched_early : b.count ≡ counts.most → Best first counts g hits b
    searched_early e =
        record {
          is = best_early (λ f p. omega (arith, p.short.1)) c.best;
          hit = λ f p q. c.hit f p.0 p.1 (λ _. q);
        }

-- THE LIST'S SCAN, for each first node that is hit by two sweeps: one for the keys, one for the lengths
module _ {n : ℕ} {parent order place ones bl bw : List ℕ} {sums : Sums} {Within : ℕ → Type 0} {low high : ℕ}
    {page : List ℕ} {room u given left : ℕ} {mid : List ℕ}
    (c : Scanning (ListStand n parent order place ones bl bw sums) (ListTaken Within) low high page room u given left
    mid)
  where
    pub taken_next : (hits : List ℕ) {now : List ℕ} {hit given₁ left₁ : ℕ} → u < n → n ≤ 4096
        → Hits Within n parent order place ones bl bw sums hits → hit ≡ at hits u
        → RowsOf Within n parent order place ones bl bw u hit low high sums mid given left now given₁ left₁
        → Scanning (ListStand n parent order place ones bl bw sums) (ListTaken Within) low high page room (u + 1) given₁
        left₁ now
    taken_next hits {now} {hit} {given₁} {left₁} b m h e r = pick (ℕ_discrete hit 1)
      where
        pick : Dec (hit ≡ 1)
            → Scanning (ListStand n parent order place ones bl bw sums) (ListTaken Within) low high page room (u + 1)
            given₁ left₁ now
        pick (yes o) =
            let s = r.some o in
            scanning_next {Value = λ g. ValueIn g.both.lengths} {Key = λ g. LengthIn g.both.keys}
            {Heavy = λ g w. (g.floor ≤ℤ w) × (w ≤ℤ g.ceiling)} c b m (λ g. single g.both.keys g.both.lengths)
            (λ g. valued g.both.keys g.both.lengths (s.keys g.both.keys) (s.lengths g.both.lengths))
            s.starts (λ g. g.weighs) s.seconds
        pick (no o) = scanning_skip c (λ g x p q. o (e ∙ ap (at hits) (sym q) ∙ h g x p.0)) (r.none o)

    pub taken_end : n ≤ u → (g : ListStand n parent order place ones bl bw sums)
        → Paged (ListTaken Within g) low high page given left mid
    taken_end b g =
        scanning_end {Value = λ g. ValueIn g.both.lengths} {Key = λ g. LengthIn g.both.keys}
        {Heavy = λ g w. (g.floor ≤ℤ w) × (w ≤ℤ g.ceiling)} c b g
