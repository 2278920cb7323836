-- The first pair that is lacking, block after block. In a block the set has exactly the pairs that rows name, so a pair
-- that belongs and is not in it is lacking. Each first node is of one block; so the first pair of all is the first of
-- its own block, and the first of the firsts.
use Prim.Native.Nat.{ℕ, ◌+◌, ◌≤◌, ◌<◌}
use mathlib.Core.Path.{◌≡◌, refl, sym}
use mathlib.Core.Bool.{Bool, true, false, false≢true}
use mathlib.Core.List.{List}
use native.Mathlib.Omega.{arith}
use native.Mathlib.Decide.{ℕ_discrete}
use Rattle.std.proofs.Common.{Option, Some, None}
use Rattle.std.proofs.lemmas.Option.{none-some}
use Rattle.limits.specs.declared.Limit.{Limit}
use Rattle.limits.specs.work.Fits.{Fits, Decides}
use Rattle.pages.specs.Listing.{Entry, entry}
use Rattle.pages.specs.declared.Sums.{Sums}
use Rattle.pages.specs.work.Lowered.{lower, InSums}
use Rattle.pages.proofs.Lift.{lower_is}
use Rattle.figures.specs.work.Figures.{Figures}
use Rattle.vetting.specs.declared.lacks.Lack.{Lack}
use Rattle.vetting.specs.work.Bits.{Has}
use Rattle.vetting.specs.work.Lines.{Line, InBlock, LineDone, Slot}
use Rattle.vetting.specs.work.Meant.{Meant, Numbers}
use Rattle.vetting.specs.work.Repeats.{Named, NamePairs, Unrepeated}
use Rattle.vetting.specs.work.Lacks.{
  InSet,
  Lacks,
  Covered,
  LackTold,
  CoveredTo,
  FirstHigh,
  BlockHigh,
  CoveredBelow,
  FirstLack,
  BlockLack,
  found,
  kept,
  open_to,
}
use Rattle.vetting.proofs.LineLaws.{
  line_only,
  line_some,
  slot_one,
  slot_only,
  slot_some,
  in_block,
  not_in_block,
  block_or_done,
}
use Rattle.vetting.proofs.Belonging.{meant_is}

block_at : {n from end u a : ℕ} → u ≡ a → InBlock n from end u → InBlock n from end a
block_at e i = rw (← e) i

-- whether a pair belongs and is not in the set
module _ {n : ℕ} {spot above tail front gap far heavy : List ℕ} {limit : Limit} (sums : Sums)
    (N : Numbers n spot above tail front gap far heavy limit) {from a b p : ℕ} {bits : List ℕ} (x : Slot n from a b p)
    {r : Bool} (d : Decides (Has bits p) r) where
  pub told_there : r ≡ true → LackTold (Meant spot above far heavy n limit sums) (InSet n from bits) a b false
  told_there e = record {
    lacks = λ q. absurd (false≢true q);
    covered = λ q. record {
      found = λ f m u v. record { has = λ k y. rw (slot_only y x) (d.holds e) };
    };
  }

  module _ {l w : ℕ} (o : a < b) (c : b < n) (f : Figures spot above far heavy a b l w) where
    pub told_by : r ≡ false → {y : Bool} → Decides (Fits limit l × InSums sums w) y
        → LackTold (Meant spot above far heavy n limit sums) (InSet n from bits) a b y
    told_by e z = record {
      lacks = λ q. record {
        entry = entry a b l (lower w);
        belongs = record {
          pair = o;
          node = c;
          lift = w;
          figures = f;
          load = lower_is w;
          short = (z.holds q).0;
          heavy_enough = (z.holds q).1;
        };
        low = refl;
        high = refl;
        unfound = λ m. d.fails e (m.has p x);
      };
      covered = λ q. record { found = λ k m u v. absurd (z.fails q (passes k m u v)) };
    }
      where
        passes : (k : Entry) → Meant spot above far heavy n limit sums k → k.low ≡ a → k.high ≡ b
            → Fits limit l × InSums sums w
        passes k m u v =
            let g : Figures spot above far heavy k.low k.high l w = rw (u, v) f in
            let i = meant_is sums N k m g in
            (rw i.0 at m.short, rw i.1 at m.heavy_enough)

-- the second nodes of a first node, and the first nodes of a block, in turn: none is lacking before what is known
module _ {P : Entry → Type 0} {Found : ℕ → ℕ → Type 0} where
  pub high_next : {a b : ℕ} {r : Bool} → CoveredTo P Found b a → r ≡ false → LackTold P Found a b r
      → CoveredTo P Found (b + 1) a
  high_next {a} {b} H e d v l k = pick (ℕ_discrete v b)
    where
      pick : Dec (v ≡ b) → Covered P Found a v
      pick (yes q) = rw q (d.covered e)
      pick (no q) = H v l (omega arith)

  -- a first node of the block, and one that is none
  pub high_none : {n from end a t : ℕ} → Line n a t → ((from ≤ t) → (t < end) → ⊥)
      → BlockHigh P Found n from end a None
  high_none l o = record { inside = λ i. absurd (not_in_block l o i); outside = λ _. refl }

  pub high_some : {n from end a t : ℕ} {r : Option ℕ} → Line n a t → from ≤ t → t < end → FirstHigh P Found n a r
      → BlockHigh P Found n from end a r
  high_some {t = t} l h k f = record {
    inside = λ _. f;
    outside = λ o. absurd (o (record { line = t; is = l; since = h; before = k }));
  }

  module _ {n from end a : ℕ} (L : CoveredBelow P Found n (InBlock n from end) a) where
    -- nothing is lacking at first node a
    pub low_next : BlockHigh P Found n from end a None → CoveredBelow P Found n (InBlock n from end) (a + 1)
    low_next d x k i = pick (ℕ_discrete x a)
      where
        pick : Dec (x ≡ a) → CoveredTo P Found n x
        pick (yes q) = rw q (d.inside (block_at q i))
        pick (no q) = L x (omega arith) i

    -- its pair with b is
    pub low_found : {b : ℕ} {u : Option Lack} → a < n → a < open_to n u → BlockHigh P Found n from end a (Some b)
        → BlockLack P Found n from end u (Some (record { low = a; high = b }))
    low_found {b} {u} c l d = pick (in_block {from = from} {end = end} c)
      where
        pick : Dec (InBlock n from end a) → BlockLack P Found n from end u (Some (record { low = a; high = b }))
        pick (yes i) = found _ refl l (record { known = i; node = c; lines = L; first = d.inside i })
        pick (no i) = absurd (none-some b (sym (d.outside i)))

-- below a pair that is known none is lacking
module _ (P : Entry → Type 0) (Found : ℕ → ℕ → Type 0) (n : ℕ) (D : ℕ → Type 0) where
  done_covered : (u : Option Lack) → FirstLack P Found n D u → CoveredBelow P Found n D (open_to n u)
  done_covered None F = F
  done_covered (Some k) F = F.lines

  pub open_within : (u : Option Lack) → FirstLack P Found n D u → open_to n u ≤ n
  open_within None F = omega arith
  open_within (Some k) F = omega (arith, F.node)

-- IN A BLOCK THE SET HAS EXACTLY THE PAIRS THAT ROWS NAME
module _ {s : List ℕ} {n from end m : ℕ} {bits : List ℕ} (N : NamePairs s n m)
    (U : Unrepeated s n from end m bits) where
  set_named : {a b : ℕ} → a < b → b < n → (p : ℕ) → Slot n from a b p → InSet n from bits a b → Named s m a b
  set_named o c p x k =
      let v = U.only p (k.has p x) in
      let e = slot_one (N.pair v.0 v.1) (N.node v.0 v.1) o c v.3 x in
      record { place = v.0; within = v.1; first = e.0; second = e.1 }

  named_set : {a b : ℕ} → InBlock n from end a → Named s m a b → InSet n from bits a b
  named_set i k =
      record { has = λ p x. U.has k.place k.within (rw k.first i) p (rw (k.first, k.second) x) }

  module _ {P : Entry → Type 0} where
    covered_named : {a b : ℕ} → InBlock n from end a → a < b → b < n → Covered P (InSet n from bits) a b
        → Covered P (Named s m) a b
    covered_named {a} {b} i o c k =
        let x = slot_some c i in
        record { found = λ e p u v. set_named o c x.0 x.1 (k.found e p u v) }

    lacks_named : {a b : ℕ} → InBlock n from end a → Lacks P (InSet n from bits) a b → Lacks P (Named s m) a b
    lacks_named i k = record {
      entry = k.entry;
      belongs = k.belongs;
      low = k.low;
      high = k.high;
      unfound = λ z. k.unfound (named_set i z);
    }

    -- with this block, up to a first node before which neither has one
    both_covered : {x : ℕ} → x ≤ n → CoveredBelow P (Named s m) n (LineDone n from) x
        → CoveredBelow P (InSet n from bits) n (InBlock n from end) x
        → CoveredBelow P (Named s m) n (LineDone n end) x
    both_covered w F B a h d b o c = pick (in_block {from = from} {end = end} node)
      where
        node : a < n
        node = omega arith

        pick : Dec (InBlock n from end a) → Covered P (Named s m) a b
        pick (yes i) = covered_named i o c (B a h i b o c)
        pick (no i) = F a h (block_or_done d node i) b o c

    -- ONE BLOCK MORE
    pub lack_next : (u : Option Lack) → FirstLack P (Named s m) n (LineDone n from) u → {r : Option Lack}
        → BlockLack P (InSet n from bits) n from end u r → from ≤ end → FirstLack P (Named s m) n (LineDone n end) r
    lack_next u F (found k e l t) up =
        let q = t.first in
        rw e (record {
          known = λ x h. omega (arith, line_only h t.known.is, t.known.before);
          node = t.node;
          lines = both_covered (omega (arith, t.node)) (λ a h. done_covered P (Named s m) n (LineDone n from) u F a
              (omega arith)) t.lines;
          first = record {
            within = q.within;
            before = λ b o c. covered_named t.known o (omega (arith, q.within)) (q.before b o c);
            here = lacks_named t.known q.here;
          };
        })
    lack_next None F (kept e c) up = rw e (both_covered (omega arith) F c)
    lack_next (Some k) F (kept e c) up =
        rw e (record {
          known = λ x h. omega (arith, F.known x h, up);
          node = F.node;
          lines = both_covered (omega (arith, F.node)) F.lines c;
          first = F.first;
        })

-- before the blocks none is known
pub lack_none : {P : Entry → Type 0} {s : List ℕ} {m : ℕ} (n : ℕ) → FirstLack P (Named s m) n (LineDone n 0) None
lack_none n a h d = none (line_some h) d
  where
    none : {n a : ℕ} {X : Type 0} → (t : ℕ) × Line n a t → LineDone n 0 a → X
    none t d = absurd (omega (arith, d t.0 t.1))
