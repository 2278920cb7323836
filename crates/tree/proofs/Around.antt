-- The climb round a ring: after a walk from one end of a row, the parents from its other end on are a simple path,
-- since each stands earlier in the order than the one before.
use Prim.Native.Nat.{ℕ, ◌+◌, ◌/◌, ◌≤◌, ◌<◌}
use mathlib.Core.Path.{◌≡◌, refl, sym, ap, ◌∙◌}
use mathlib.Core.List.{List, [], ◌∷◌}
use native.Mathlib.Omega.{arith}
use lib.ListN.{length}
use Rattle.arrays.specs.At.{at}
use Rattle.arrays.specs.Members.{In, past, Distinct}
use Rattle.arrays.specs.Members as members
use Rattle.net.specs.Graph.{First, Walk, stop, go, Joined, RingAt}
use Rattle.net.specs.Ring.{RingRows, closed}
use Rattle.reach.specs.work.Walked.{Reached, WalkedFrom}
use Rattle.arrays.proofs.Members.{not_nil, in_one}
use Rattle.reach.proofs.Chained.{half_ends}

-- the climb from b stands at x, and the rows between are g - 1: no node on the way stands earlier in the order than x
pub record Climbed (us vs : ℕ → ℕ) (rows m : ℕ) (order place : List ℕ) (b x g : ℕ) : Type 0 where
  pub here : (at place x < m) × (at order (at place x) ≡ x)
  pub rs : List ℕ
  pub ns : List ℕ
  pub walk : Walk us vs (First rows) x rs ns b
  pub once : Distinct (x ∷ ns)
  pub low : (z : ℕ) → In z (x ∷ ns) → at place x ≤ at place z
  pub long : g ≡ 1 + length rs
  pub most : g + at place x ≤ 4096

module _ {start : ℕ} {us vs : ℕ → ℕ} {rows m : ℕ} {parent half order place : List ℕ}
    (w : WalkedFrom start us vs rows m parent half order place) where
  pub climbed_start : (b : ℕ) → b < 4096 → Joined us vs (First rows) start b → Climbed us vs rows m order place b b 1
  climbed_start b l j =
      record {
        here = w.listed b l j;
        rs = [];
        ns = [];
        walk = stop;
        once = (not_nil, tt);
        low = λ z i. rw (in_one i) (omega arith);
        long = refl;
        most = omega (arith, (w.listed b l j).0, w.some.1);
      }

  module _ {b x g : ℕ} (c : Climbed us vs rows m order place b x g) where
    pub climbed_fits : x < 4096
    climbed_fits = rw c.here.1 at (w.within (at place x) c.here.0)

    -- a step up
    module _ (z : 0 < at place x) where
      pub parent_earlier : at place (at parent x) < at place x
      parent_earlier = rw c.here.1 at (w.above (at place x) z c.here.0).0

      pub climbed_more : (y : ℕ) → y ≡ at parent x → Climbed us vs rows m order place b y (g + 1)
      climbed_more y e =
          rw e
          (record {
            here = (
              omega (arith, parent_earlier, c.here.0),
              rw c.here.1 at (w.above (at place x) z c.here.0).1,
            );
            rs = at half x / 2 ∷ c.rs;
            ns = x ∷ c.ns;
            walk = go {r = at half x / 2} (omega (arith, reached.fits))
                (rw (reached.leaves, reached.leads) at (half_ends us vs (at half x))) c.walk;
            once = (λ i. omega (arith, parent_earlier, c.low (at parent x) i), c.once);
            low = low;
            long = omega (arith, c.long);
            most = omega (arith, parent_earlier, c.most);
          })
        where
          reached : Reached us vs rows parent half x
          reached = rw c.here.1 at (w.child (at place x) z c.here.0)

          low : (y : ℕ) → In y (at parent x ∷ x ∷ c.ns) → at place (at parent x) ≤ at place y
          low y (members.at e) = rw e (omega arith)
          low y (past i) = omega (arith, parent_earlier, c.low y i)

    -- where the order begins
    pub climbed_end : at place x ≡ 0 → x ≡ start
    climbed_end e = sym c.here.1 ∙ ap (at order) e ∙ w.root

-- What the loop of `count_round` keeps for row r: the walk from its first end over the rows before it, and the climb
-- from its second
pub record Rounding (us vs : ℕ → ℕ) (r : ℕ) (parent half order place : List ℕ) (x g : ℕ) : Type 0 where
  pub reached : ℕ
  pub walked : WalkedFrom (us r) us vs r reached parent half order place
  pub climbed : Climbed us vs r reached order place (vs r) x g

module _ {us vs : ℕ → ℕ} {r x g : ℕ} {parent half order place : List ℕ}
    (c : Rounding us vs r parent half order place x g) where
  pub round_fits : x < 4096
  round_fits = climbed_fits c.walked c.climbed

  pub round_less : (y : ℕ) → 0 < at place x → y ≡ at parent x → at place y < at place x
  round_less y z e = rw e (parent_earlier c.walked c.climbed z)

  pub round_more : (y : ℕ) → 0 < at place x → y ≡ at parent x → Rounding us vs r parent half order place y (g + 1)
  round_more y z e =
      record { reached = c.reached; walked = c.walked; climbed = climbed_more c.walked c.climbed z y e }

  pub round_end : at place x ≡ 0 → RingRows us vs r g
  round_end e =
      let t = c.climbed in
      let q = climbed_end c.walked t e in
      closed t.rs (t.ns, rw q at t.walk, rw q at t.once) t.long

pub round_start : {us vs : ℕ → ℕ} {r m a b : ℕ} {parent half order place : List ℕ} → a ≡ us r → b ≡ vs r → b < 4096
    → RingAt us vs r → WalkedFrom a us vs r m parent half order place → Rounding us vs r parent half order place b 1
round_start {vs = vs} {r = r} {m = m} p q l j w =
    rw q (record { reached = m; walked = rw p at w; climbed = climbed_start (rw p at w) (vs r) (rw q at l) j })
