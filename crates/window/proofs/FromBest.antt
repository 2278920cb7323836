-- From the best pair, as the code carries it, to what the operations give: none where its count is 0, else the entry
-- that its fields make; and the pairs with its count are those that the list considers.
use Prim.Native.Nat.{ℕ, ◌≤◌, ◌<◌}
use mathlib.Core.Path.{◌≡◌, sym}
use mathlib.Core.Logic.{◌⊎◌, inl, inr, ◌≢◌}
use mathlib.Core.List.{List}
use native.Mathlib.Omega.{arith}
use lib.IntN.{ℤ, pos, negsuc, nat_abs}
use Rattle.arrays.specs.work.Filled.{Filled}
use Rattle.table.specs.work.Diff.{Diff, up, down}
use Rattle.table.specs.work.Lift.{sum_lift, sum_end, LoweredOf}
use Rattle.table.proofs.Lift.{diff_only}
use Rattle.net.specs.work.Net.{Net}
use Rattle.limits.specs.work.Fits.{Fits}
use Rattle.limits.specs.declared.Limit.{Limit}
use Rattle.pages.specs.Listing.{Entry, entry}
use Rattle.pages.specs.Paged.{Paged}
use Rattle.pages.specs.declared.Sums.{Sums}
use Rattle.pages.specs.work.Keyed.{KeyWithin}
use Rattle.pages.specs.work.Lowered.{Raised, Capped}
use Rattle.pages.proofs.Lift.{weighs_between}
use Rattle.pages.proofs.Only.{paged_iff, paged_none}
use Rattle.paths.specs.work.Ground.{Ground}
use Rattle.ground.specs.work.Grounded.{ValueIn, LengthIn, Grounded}
use Rattle.window.specs.declared.best.CountLimits.{CountLimits}
use Rattle.window.specs.declared.best.Found.{Found}
use Rattle.window.specs.Window.{Window, InWindow, MostOf}
use Rattle.window.specs.List.{AsMany}
use Rattle.window.specs.work.Best.{CarriesPair, BestOf, Stand, InLimits, Passing, PassingFrom, Best}
use Rattle.window.specs.work.Scan.{ListStand, ListTaken, Hits}
use Rattle.window.proofs.Bettering.{best_iff}
use Rattle.window.proofs.Counting.{counted, one_weight, count_light, both}

-- WHAT THE SCAN FINDS of any ground is the best of the window's pairs
pub window_best : {s marks parent half order place bl bw ones hits : List ℕ} {n nodes first : ℕ} {w : Window}
    {counts : CountLimits} {sums : Sums} {b : Found} → first ≡ 0 → n ≡ nodes
    → Grounded s marks nodes parent half order place bl bw → Filled 4096 1 ones → counts.fewest ≡ w.fewest
    → counts.most ≡ w.most → Raised w.floor sums.floor → Capped w.ceiling sums.end
    → ((g : Stand n parent order place ones bw sums) → Best first counts g hits b)
    → BestOf (InWindow s marks nodes w) b
window_best {s} {marks} {parent} {half} {order} {place} {bl} {bw} {n = n} {w = w} {counts} z e q f c d r t found =
    let q₁ : Grounded s marks n parent half order place bl bw = rw e q in
    rw e at
    (best_iff {Q = InWindow s marks n w}
    (λ x p. record {
      pair = p.0.pair;
      node = p.0.node;
      path = p.0.path;
      short = (omega (arith, p.0.short.0), omega (arith, p.0.short.1));
      heavy = p.0.heavy;
    })
    (λ x p. (
      record {
        pair = p.pair;
        node = p.node;
        path = p.path;
        short = (omega (arith, p.short.0), omega (arith, p.short.1));
        heavy = p.heavy;
      },
      omega arith,
    ))
    (found
    (record {
      ground = counted q₁ f;
      floor = w.floor;
      ceiling = w.ceiling;
      weighs = weighs_between r t;
    })).is)

-- a path's value by an equal weight
weighed : {n : ℕ} {parent order place bl bw : List ℕ} (g : Ground n parent order place bl bw) {a b l : ℕ} {y z : ℤ}
    → y ≡ z → ValueIn g a b l y → ValueIn g a b l z
weighed g q v = rw (← q) v

-- THE FIRST NODES HIT. With the best pair's count as the limit, each first node that has such a pair is hit, in any
-- nets on which the list's scan may stand
pub all_hit : {n first : ℕ} {parent order place ones bl bw hits : List ℕ} {counts : CountLimits} {sums : Sums}
    {b : Found} (limit : Limit) → first ≡ 0 → b.count ≢ 0
    → ((g : Stand n parent order place ones bw sums) → Best first counts g hits b)
    → ((k : ℕ) → Fits limit k → k ≡ b.count) → Hits (Fits limit) n parent order place ones bl bw sums hits
all_hit {n} {first} {parent} {order} {place} {ones} {bw = bw} {counts = counts} {sums} {b} limit z m found only g e p =
    (found stand).hit (entry e.low e.high k.key e.weight) (passing, omega arith) i
  where
    stand : Stand n parent order place ones bw sums
    stand = record { ground = g.both.keys; floor = g.floor; ceiling = g.ceiling; weighs = g.weighs }

    k : KeyWithin (LengthIn g.both.keys) (Fits limit) e.low e.high
    k = p.path.1

    i : k.key ≡ b.count
    i = only k.key k.within

    x : k.is.0 ≡ e.weight
    x = g.both.agree _ _ _ _ _ _ k.is.1 p.path.0

    some : (b.count ≡ 0) ⊎ ((f : Entry) × CarriesPair b f × MostOf (PassingFrom first counts stand) f)
        → InLimits counts b.count
    some (inl q) = absurd (m q)
    some (inr c) =
        (omega (arith, c.1.count, c.2.one.0.short.0), omega (arith, c.1.count, c.2.one.0.short.1))

    passing : Passing counts stand (entry e.low e.high k.key e.weight)
    passing =
        record {
          pair = p.pair;
          node = p.node;
          path = weighed g.both.keys x k.is.1;
          short = rw i (some (found stand).is.comes);
          heavy = p.heavy;
        }

-- not so far from 0 that the lift would end
light : {x : ℕ} (z : ℤ) → nat_abs z ≤ 4095000000 → Diff x sum_lift z → x < sum_end
light (pos k) h (up _ e) = omega arith
light (negsuc k) h (down _ e) = omega arith

module _ (s marks : List ℕ) (w : Window) {n : ℕ} (net : Net s n) {b : Found} (h : BestOf (InWindow s marks n w) b)
  where
    -- NONE
    pub none_inside : 0 < w.fewest → b.count ≡ 0 → (e : Entry) × InWindow s marks n w e → ⊥
    none_inside p z e = omega (arith, h.beats e.0 e.1, e.1.short.0)

    -- SOME
    is_one : b.count ≢ 0 → (e : Entry) × CarriesPair b e × MostOf (InWindow s marks n w) e
    is_one m = pick h.comes
      where
        pick : (b.count ≡ 0) ⊎ ((e : Entry) × CarriesPair b e × MostOf (InWindow s marks n w) e)
            → (e : Entry) × CarriesPair b e × MostOf (InWindow s marks n w) e
        pick (inl z) = absurd (m z)
        pick (inr c) = c

    pub one_inside : b.count ≢ 0 → (e : Entry) × InWindow s marks n w e
    one_inside m = ((is_one m).0, (is_one m).2.one)

    -- what the code computes of it fits
    pub nodes_fit : b.count ≢ 0 → (b.low < 4096) × (b.high < 4096)
    nodes_fit m =
        let c = is_one m in (
          omega (arith, c.1.low, c.2.one.pair, c.2.one.node, net.few),
          omega (arith, c.1.high, c.2.one.node, net.few),
        )

    pub count_fits : b.count ≢ 0 → b.count ≤ w.most
    count_fits m = let c = is_one m in omega (arith, c.1.count, c.2.one.short.1)

    pub most_given : b.count ≢ 0 → (z : ℤ) → LoweredOf b.weight z
        → MostOf (InWindow s marks n w) (entry b.low b.high b.count z)
    most_given m z lo = is c.0 c.1 c.2
      where
        c : (e : Entry) × CarriesPair b e × MostOf (InWindow s marks n w) e
        c = is_one m

        is : (e : Entry) → CarriesPair b e → MostOf (InWindow s marks n w) e
            → MostOf (InWindow s marks n w) (entry b.low b.high b.count z)
        is e k o = rw same at o
          where
            heavy : z ≡ e.weight
            heavy =
                diff_only
                (lo.back
                (light e.weight (count_light s marks net (omega (arith, o.one.pair, o.one.node)) o.one.path)
                k.weight)) k.weight

            same : e ≡ entry b.low b.high b.count z
            same =
                λ i. record {
                  low = sym k.low i;
                  high = sym k.high i;
                  length = sym k.count i;
                  weight = sym heavy i;
                }

    -- THE LIST: with the greatest count, exactly
    as_many : b.count ≢ 0
        → {parent half order place bl bw ones : List ℕ} {sums : Sums} (limit : Limit) {low high given left : ℕ}
        {old now : List ℕ} → Grounded s marks n parent half order place bl bw → Filled 4096 1 ones
        → Raised w.floor sums.floor → Capped w.ceiling sums.end → ((k : ℕ) → Fits limit k → k ≡ b.count)
        → Fits limit b.count
        → ((g : ListStand n parent order place ones bl bw sums)
        → Paged (ListTaken (Fits limit) g) low high old given left now)
        → Paged (AsMany s marks n w) low high old given left now
    as_many m {sums = sums} limit q f r t only itself pages =
        paged_iff inside taken
        (pages
        (record { both = both q f; floor = w.floor; ceiling = w.ceiling; weighs = weighs_between r t }))
      where
        c : (e : Entry) × CarriesPair b e × MostOf (InWindow s marks n w) e
        c = is_one m

        inside : (e : Entry)
            → ListTaken (Fits limit)
            (record { both = both q f; floor = w.floor; ceiling = w.ceiling; weighs = weighs_between r t }) e
            → AsMany s marks n w e
        inside e p =
            let k = p.path.1 in
            let i : k.key ≡ b.count = only k.key k.within in
            let x : k.is.0 ≡ e.weight = one_weight s marks net k.is.1 p.path.0 in
            record {
              pair = p.pair;
              node = p.node;
              path = record {
                path = p.path.0;
                count = k.key;
                inside = record {
                  pair = p.pair;
                  node = p.node;
                  path = rw x at k.is.1;
                  short = (
                    omega (arith, c.1.count, c.2.one.short.0),
                    omega (arith, c.1.count, c.2.one.short.1),
                  );
                  heavy = p.heavy;
                };
                greatest = λ g j. omega (arith, h.beats g j);
              };
              short = tt;
              heavy = tt;
            }

        taken : (e : Entry) → AsMany s marks n w e
            → ListTaken (Fits limit)
            (record { both = both q f; floor = w.floor; ceiling = w.ceiling; weighs = weighs_between r t }) e
        taken e p =
            let o = p.path in
            let i : o.count ≡ b.count = omega (
              arith,
              h.beats _ o.inside,
              o.greatest c.0 c.2.one,
              c.1.count,
            ) in
            record {
              pair = p.pair;
              node = p.node;
              path = (
                o.path,
                record { key = o.count; is = (e.weight, o.inside.path); within = rw i itself },
              );
              short = tt;
              heavy = o.inside.heavy;
            }

    -- and none where none is in the window
    pub list_none : 0 < w.fewest → b.count ≡ 0 → {low high : ℕ} {old : List ℕ}
        → Paged (AsMany s marks n w) low high old 0 0 old
    list_none p z = paged_none (λ e o. none_inside p z (_, o.path.inside))

-- the page that the scan gives of any ground, with the best pair's count as its limit, is the list's
pub list_page : (s marks : List ℕ) (w : Window) {n nodes : ℕ} {b : Found} {parent half order place bl bw ones : List ℕ}
    {sums : Sums} (limit : Limit) {low high given left : ℕ} {old now : List ℕ} → n ≡ nodes
    → BestOf (InWindow s marks nodes w) b → b.count ≢ 0 → Grounded s marks nodes parent half order place bl bw
    → Filled 4096 1 ones → Raised w.floor sums.floor → Capped w.ceiling sums.end
    → ((k : ℕ) → Fits limit k → k ≡ b.count) → Fits limit b.count
    → ((g : ListStand n parent order place ones bl bw sums)
    → Paged (ListTaken (Fits limit) g) low high old given left now)
    → Paged (AsMany s marks nodes w) low high old given left now
list_page s marks w {n} {b = b} {parent} {half} {order} {place} {bl} {bw} limit e h m q f r t only itself pages =
    let q₁ : Grounded s marks n parent half order place bl bw = rw e q in
    let h₁ : BestOf (InWindow s marks n w) b = rw e h in
    rw e at (as_many s marks w q₁.net h₁ m limit q₁ f r t only itself pages)
