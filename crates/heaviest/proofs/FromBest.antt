-- The heaviest run of an accepted net, from the best pair as the lists carry it, lifted by 2^40: none where its weight
-- is 0, else the entry that its fields make.
use Prim.Native.Nat.{ℕ, ◌+◌, ◌-◌, ◌≤◌, ◌<◌}
use mathlib.Core.Path.{◌≡◌, sym, ap}
use mathlib.Core.Logic.{◌⊎◌, inl, inr, ◌≢◌}
use mathlib.Core.List.{List}
use native.Mathlib.Omega.{arith}
use lib.IntN.{ℤ}
use Rattle.table.specs.work.Diff.{Diff}
use Rattle.table.specs.work.Lift.{LoweredOf}
use Rattle.table.proofs.Lift.{same, order_back, lift_only, diff_only, equally}
use Rattle.net.specs.Net.{first_end, second_end}
use Rattle.net.specs.work.Net.{Net}
use Rattle.net.proofs.Values.{length_only, weight_only}
use Rattle.pages.specs.Listing.{Entry, entry, Before, first, second}
use Rattle.spans.specs.work.Pairs.{best4, Le}
use Rattle.spans.specs.declared.across.Best.{Best}
use Rattle.parts.specs.work.Lift.{key_lift}
use Rattle.layout.specs.work.BestPair.{Carried, BestPair}
use Rattle.ground.specs.PathOf.{PathOf}
use Rattle.heaviest.specs.Heaviest.{PairsWithin, AtLeast, Heaviest}

module _ (s marks : List ℕ) {n : ℕ} {Within : ℕ → Type 0} (net : Net s n) {b : Best}
    (h : BestPair (PathOf s marks n) n Within b) where
  -- a pair within the length test, as the lists carry it, is beaten
  record Beaten (f : Entry) : Type 0 where
    one : Best
    length : one.length ≡ key_lift + f.length
    weight : Diff one.weight key_lift f.weight
    low : one.low ≡ f.low
    high : one.high ≡ f.high
    near : key_lift ≤ one.weight + 8589934592
    less : Le one b

  beaten : (f : Entry) → PairsWithin Within s marks n f → Beaten f
  beaten f p =
      let t = h.beats f.low f.high p.pair p.node in
      let c = t.1 in
      let e : f.length ≡ c.l = length_only (first_end s) (second_end s) net.forest p.path c.value in
      let w : f.weight ≡ c.w = weight_only (first_end s) (second_end s) net.forest p.path c.value in
      record {
        one = t.0;
        length = omega (arith, c.length);
        weight = equally w c.weight;
        low = c.low;
        high = c.high;
        near = c.near_low;
        less = t.2 (rw (← e) p.short);
      }

  pub none_within : b.weight ≡ 0 → (e : Entry) × PairsWithin Within s marks n e → ⊥
  none_within z e = let t = beaten e.0 e.1 in omega (arith, t.near, t.less.weight)

  pub is_pair : b.weight ≢ 0 → (c : Carried (PathOf s marks n) n b.low b.high b) × Within c.l
  is_pair m = pick h.comes
    where
      pick : (b ≡ best4 0 0 0 0) ⊎ ((c : Carried (PathOf s marks n) n b.low b.high b) × Within c.l)
          → (c : Carried (PathOf s marks n) n b.low b.high b) × Within c.l
      pick (inl e) = absurd (m (ap (λ x. x.weight) e))
      pick (inr c) = c

  -- what the code computes of it fits
  pub nodes_fit : n ≤ 4096 → b.weight ≢ 0 → (b.low < 4096) × (b.high < 4096)
  nodes_fit l m = let c = (is_pair m).0 in (omega (arith, c.lower, c.fits), omega (arith, c.fits))

  pub length_fits : b.weight ≢ 0 → (key_lift ≤ b.length) × Within (b.length - key_lift)
  length_fits m =
      let c = is_pair m in
      let e : b.length - key_lift ≡ c.0.l = omega (arith, c.0.length) in
      (omega (arith, c.0.length), rw e c.1)

  pub weight_fits : b.weight ≢ 0 → (key_lift ≤ b.weight + 8589934592) × (b.weight < key_lift + 8589934592)
  weight_fits m = let c = (is_pair m).0 in (c.near_low, c.near_high)

  pub run_given : b.weight ≢ 0 → (z : ℤ) → LoweredOf (b.weight + 8589934592 - key_lift) z
      → Heaviest (PairsWithin Within s marks n) (entry b.low b.high (b.length - key_lift) z)
  run_given m z lo = record { one = passes; best = best }
    where
      e : Entry
      e = entry b.low b.high (b.length - key_lift) z

      c : Carried (PathOf s marks n) n b.low b.high b
      c = (is_pair m).0

      heavy : Diff b.weight key_lift z
      heavy = same (omega (arith, c.near_low)) (lo.back (omega (arith, c.near_high)))

      path : {k : ℕ} {w : ℤ} → b.length - key_lift ≡ k → z ≡ w → PathOf s marks n b.low b.high k w
          → PathOf s marks n b.low b.high (b.length - key_lift) z
      path i j p = rw (i, j) p

      passes : PairsWithin Within s marks n e
      passes =
          record {
            pair = c.lower;
            node = c.fits;
            path = path (omega (arith, c.length)) (diff_only heavy c.weight) c.value;
            short = (length_fits m).1;
            heavy = tt;
          }

      best : (f : Entry) → PairsWithin Within s marks n f → AtLeast e f
      best f p =
          record {
            weight = order_back t.weight heavy (omega (arith, o.weight));
            length = λ q. omega (arith, t.length, o.length (omega (arith, level q)));
            pair = λ q r. later q r;
          }
        where
          t : Beaten f
          t = beaten f p

          o : Le t.one b
          o = t.less

          level : f.weight ≡ z → t.one.weight ≡ b.weight
          level q = lift_only (equally (sym q) t.weight) heavy

          later : f.weight ≡ z → f.length ≡ b.length - key_lift → ¬ Before f e
          later q r (first i) =
              omega (arith, t.low, o.low (omega (arith, level q)) (omega (arith, t.length, c.length)))
          later q r (second i j) =
              omega (
                arith,
                t.high,
                o.high (omega (arith, level q)) (omega (arith, t.length, c.length)) (omega (arith, t.low)),
              )
