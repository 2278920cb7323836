-- The first nodes in turn, from the start's on: what was found below u is the listing of what follows the start with
-- first node below u; past the last node it is the page. Said of any net whose paths and keys the arrays hold, G being
-- all such nets, since the code that scans has none at hand.
use Prim.Native.Nat.{ℕ, ◌+◌, ◌*◌, ◌/◌, ◌≤◌, ◌<◌}
use mathlib.Core.Path.{◌≡◌, refl, sym, ◌∙◌}
use mathlib.Core.Logic.{◌⊎◌, inl, inr}
use mathlib.Core.List.{List, [], ◌++◌}
use native.Mathlib.Omega.{arith}
use native.Mathlib.Decide.{dec_lt, ℕ_discrete}
use lib.IntN.{ℤ}
use lib.ListN.{length, take, length-take}
use Rattle.arrays.specs.At.{at}
use Rattle.table.specs.work.Diff.{Diff}
use Rattle.table.specs.work.Lift.{sum_lift, sum_end}
use Rattle.pages.specs.Listing.{Entry, After, first, second, Listing}
use Rattle.pages.specs.Page.{Following}
use Rattle.pages.specs.Paged.{Paged}
use Rattle.pages.specs.declared.Sums.{Sums}
use Rattle.pages.specs.work.Keyed.{Keyed}
use Rattle.pages.specs.work.Lowered.{lower, Weighs}
use Rattle.pages.specs.work.Filling.{Starts, Fills, GrownBy, Here, SecondsReady, Seconds}
use Rattle.pages.proofs.Order.{not_before, after_second}
use Rattle.pages.proofs.Listings.{listing_iff, listing_none, listing_join}
use Rattle.pages.proofs.Lift.{lower_is}
use Rattle.pages.proofs.Filling.{fills_none, fills_fit}

-- the page so far: the first nodes below u are done
pub record Sofar (P : Entry → Type 0) (s t u : ℕ) (page : List ℕ) (given left : ℕ) (now : List ℕ) : Type 0 where
  pub seen : List Entry
  pub all : Listing (λ e. Following P s t e × (e.low < u)) seen
  pub fills : Fills page seen given left now

-- three lists hold the key, the length and the lifted weight of the path from u to each node
pub record Valued (Value : ℕ → ℕ → ℕ → ℤ → Type 0) (Key : ℕ → ℕ → ℕ → Type 0) (u n : ℕ) (key len wt : List ℕ) : Type
    0 where
  pub value : (v : ℕ) → v < n → (w : ℤ) → Diff (at wt v) sum_lift w → Value u v (at len v) w
  pub keyed : (v : ℕ) → v < n → Key u v (at key v)
  pub light : (v : ℕ) → v < n → at wt v < sum_end

-- each pair has one key, one length and one weight
pub record Single (Value : ℕ → ℕ → ℕ → ℤ → Type 0) (Key : ℕ → ℕ → ℕ → Type 0) : Type 0 where
  pub one_length : (a b l : ℕ) (w : ℤ) (l₁ : ℕ) (w₁ : ℤ) → Value a b l w → Value a b l₁ w₁ → l ≡ l₁
  pub one_weight : (a b l : ℕ) (w : ℤ) (l₁ : ℕ) (w₁ : ℤ) → Value a b l w → Value a b l₁ w₁ → w ≡ w₁
  pub one_key : (a b k k₁ : ℕ) → Key a b k → Key a b k₁ → k ≡ k₁

follows : {s t u : ℕ} (e : Entry) → s ≤ u → e.low ≡ u → (u ≡ s → t < e.high) → After s t e
follows {s} {t} {u} e b q h = pick (ℕ_discrete u s)
  where
    pick : Dec (u ≡ s) → After s t e
    pick (yes p) = second (omega arith) (h p)
    pick (no p) = first (omega arith)

module _ {P : Entry → Type 0} {s t : ℕ} where
  sofar_none : (page : List ℕ) → Sofar P s t s page 0 0 page
  sofar_none page =
      record {
        seen = [];
        all = listing_none (λ e x. omega (arith, x.1, not_before x.0.1));
        fills = fills_none page;
      }

module _ {Value : ℕ → ℕ → ℕ → ℤ → Type 0} {Key : ℕ → ℕ → ℕ → Type 0} {Within : ℕ → Type 0} {Heavy : ℤ → Type 0}
    {n : ℕ} where
  module _ (single : Single Value Key) {s t u from : ℕ} {sums : Sums} {key len wt : List ℕ} (b : s ≤ u)
      (k : Valued Value Key u n key len wt) (z : Starts s t u n from) (r : Weighs Heavy sums) where
    pub here_wanted : (e : Entry) → Here Within key len wt u from sums n e
        → Following (Keyed Value Key Within Heavy n) s t e
    here_wanted e h =
        let a = z.after e.high h.upto h.since in (
          record {
            pair = omega (arith, h.one, a.0);
            node = h.upto;
            path = (
              rw (h.one, h.reach) (k.value e.high h.upto e.weight h.load),
              record {
                key = at key e.high;
                is = rw h.one (k.keyed e.high h.upto);
                within = h.short;
              },
            );
            short = tt;
            heavy = r.enough (at wt e.high) e.weight h.load h.heavy;
          },
          follows e b h.one a.1,
        )

    pub wanted_here : (e : Entry) → Following (Keyed Value Key Within Heavy n) s t e → e.low ≡ u
        → Here Within key len wt u from sums n e
    wanted_here e h q =
        let p : Value e.low e.high (at len e.high) (lower (at wt e.high)) = rw q
        (k.value e.high h.0.node (lower (at wt e.high)) (lower_is (at wt e.high))) in
        let l : e.length ≡ at len e.high = single.one_length _ _ _ _ _ _ h.0.path.0 p in
        let g : e.weight ≡ lower (at wt e.high) = single.one_weight _ _ _ _ _ _ h.0.path.0 p in
        let y : Key e.low e.high (at key e.high) = rw q (k.keyed e.high h.0.node) in
        let i : h.0.path.1.key ≡ at key e.high = single.one_key _ _ _ _ h.0.path.1.is y in
        let d : Diff (at wt e.high) sum_lift e.weight = rw g (lower_is (at wt e.high)) in
        record {
          one = q;
          since = z.before e.high h.0.node (omega (arith, h.0.pair)) (λ o. after_second h.1 (q ∙ o));
          upto = h.0.node;
          reach = l;
          load = d;
          short = rw i at h.0.path.1.within;
          heavy = r.needed (at wt e.high) e.weight d (k.light e.high h.0.node) h.0.heavy;
        }

    -- one first node more
    sofar_more : {page mid now : List ℕ} {g l g₁ l₁ : ℕ} → Sofar (Keyed Value Key Within Heavy n) s t u page g l mid
        → GrownBy (Here Within key len wt u from sums n) mid g l now g₁ l₁
        → Sofar (Keyed Value Key Within Heavy n) s t (u + 1) page g₁ l₁ now
    sofar_more {page} a o =
        record {
          seen = a.seen ++ o.found;
          all = listing_join a.all o.all (λ x y h i. first (omega (arith, h.1, i.one)))
              (λ x h. (h.0, omega (arith, h.1))) (λ x h. (here_wanted x h, omega (arith, h.one)))
              (λ x h. pick x h (dec_lt x.low u));
          fills = o.fills page a.seen a.fills;
        }
      where
        pick : (x : Entry) → Following (Keyed Value Key Within Heavy n) s t x × (x.low < u + 1) → Dec (x.low < u)
            → (Following (Keyed Value Key Within Heavy n) s t x × (x.low < u))
            ⊎ Here Within key len wt u from sums n x
        pick x h (yes c) = inl (h.0, c)
        pick x h (no c) = inr (wanted_here x h.0 (omega (arith, h.1)))

  -- all first nodes are done
  sofar_paged : {s t u : ℕ} {page now : List ℕ} {g l : ℕ} → n ≤ u
      → Sofar (Keyed Value Key Within Heavy n) s t u page g l now
      → Paged (Keyed Value Key Within Heavy n) s t page g l now
  sofar_paged {s} {t} {page} {g} h a =
      let f = a.fills in
      let e : length (take g a.seen) ≡ g = omega (arith, length-take g a.seen, f.total) in
      record {
        some = take g a.seen;
        page = record {
          rows = a.seen;
          all = listing_iff (λ x p. p.0) (λ x p. (p, omega (arith, p.0.pair, p.0.node))) a.all;
          fit = fills_fit f;
          rest = omega (arith, f.total);
        };
        count = sym e;
        bytes = f.written;
      }

-- THE LOOP OVER FIRST NODES. Those below u are done: the page so far, in any net that fits the arrays; and that what
-- the code counts fits
pub record Scanning (G : Type 0) (P : G → Entry → Type 0) (low high : ℕ) (page : List ℕ) (room u given left : ℕ)
    (now : List ℕ) : Type 0 where
  pub sofar : (g : G) → Sofar (P g) low high u page given left now
  pub same : length now ≡ length page
  pub few : left ≤ 4096 * u
  pub room_low : 16 * room ≤ length page
  pub room_high : length page < 16 * room + 16
  pub since : low ≤ u

module _ {G : Type 0} {low high : ℕ} {page : List ℕ} {room : ℕ} where
  pub scanning_start : {P : G → Entry → Type 0} → room ≡ length page / 16
      → Scanning G P low high page room low 0 0 page
  scanning_start e =
      record {
        sofar = λ g. sofar_none page;
        same = refl;
        few = omega arith;
        room_low = omega arith;
        room_high = omega arith;
        since = omega arith;
      }

  -- a first node of which no pair qualifies, and for which nothing was done
  pub scanning_skip : {P : G → Entry → Type 0} {u given left given₁ left₁ : ℕ} {mid now : List ℕ}
      → Scanning G P low high page room u given left mid
      → ((g : G) (e : Entry) → Following (P g) low high e → e.low ≡ u → ⊥)
      → (now ≡ mid) × (given₁ ≡ given) × (left₁ ≡ left) → Scanning G P low high page room (u + 1) given₁ left₁ now
  scanning_skip {P} {u} c none e =
      rw (e.0, e.1, e.2)
      (record {
        sofar =
            λ g. record {
              seen = (c.sofar g).seen;
              all = listing_iff (λ e p. (p.0, omega (arith, p.1))) (λ e p. (p.0, below g e p (dec_lt e.low u)))
                  (c.sofar g).all;
              fills = (c.sofar g).fills;
            };
        same = c.same;
        few = omega (arith, c.few);
        room_low = c.room_low;
        room_high = c.room_high;
        since = omega (arith, c.since);
      })
    where
      below : (g : G) (e : Entry) → Following (P g) low high e × (e.low < u + 1) → Dec (e.low < u) → e.low < u
      below g e p (yes l) = l
      below g e p (no l) = absurd (none g e p.0 (omega (arith, p.1)))

  pub scanning_ready : {P : G → Entry → Type 0} {u given left n from : ℕ} {mid wt : List ℕ}
      → Scanning G P low high page room u given left mid → u < n → n ≤ 4096 → ((v : ℕ) → v < n → at wt v < sum_end)
      → Starts low high u n from → SecondsReady mid room wt u from n left
  scanning_ready c b m light z =
      record {
        low = omega (arith, c.same, c.room_low);
        high = omega (arith, c.same, c.room_high);
        nodes = m;
        within = z.within;
        light = light;
        few = c.few;
        node = omega arith;
      }

  module _ {Value : G → ℕ → ℕ → ℕ → ℤ → Type 0} {Key : G → ℕ → ℕ → ℕ → Type 0} {Within : ℕ → Type 0}
      {Heavy : G → ℤ → Type 0} {n u given left : ℕ} {mid : List ℕ}
      (c : Scanning G (λ g. Keyed (Value g) (Key g) Within (Heavy g) n) low high page room u given left mid) where
    pub scanning_next : {key len wt now : List ℕ} {sums : Sums} {from given₁ left₁ : ℕ} → u < n → n ≤ 4096
        → ((g : G) → Single (Value g) (Key g)) → ((g : G) → Valued (Value g) (Key g) u n key len wt)
        → Starts low high u n from → ((g : G) → Weighs (Heavy g) sums)
        → Seconds Within key len wt u from sums n mid given left now given₁ left₁
        → Scanning G (λ g. Keyed (Value g) (Key g) Within (Heavy g) n) low high page room (u + 1) given₁ left₁ now
    scanning_next b m one valued z r s =
        record {
          sofar = λ g. sofar_more (one g) c.since (valued g) z (r g) (c.sofar g) s.grown;
          same = s.grown.same ∙ c.same;
          few = omega (arith, s.few, c.few);
          room_low = c.room_low;
          room_high = c.room_high;
          since = omega (arith, c.since);
        }

    pub scanning_end : n ≤ u → (g : G) → Paged (Keyed (Value g) (Key g) Within (Heavy g) n) low high page given left mid
    scanning_end b g = sofar_paged b (c.sofar g)
