-- The best pair so far, kept along the second nodes of one first node, and along the first nodes. Only more branches
-- take its place, and pairs come in order: so of those passed none has more branches, and of those with as many none is
-- earlier.
use Prim.Native.Nat.{ℕ, ◌+◌, ◌≤◌, ◌<◌}
use mathlib.Core.Path.{◌≡◌, refl, ap, sym, ◌∙◌}
use mathlib.Core.Logic.{◌⊎◌, inl, inr}
use mathlib.Core.List.{List}
use native.Mathlib.Omega.{arith}
use native.Mathlib.Decide.{dec_lt}
use Rattle.arrays.specs.At.{at}
use Rattle.pages.specs.Listing.{Entry, entry, Before, first, second}
use Rattle.pages.specs.declared.Sums.{Sums}
use Rattle.pages.specs.work.Lowered.{lower, InSums}
use Rattle.pages.specs.work.Filling.{Here}
use Rattle.pages.proofs.Lift.{lower_is}
use Rattle.pages.proofs.Order.{after_self}
use Rattle.pages.proofs.Scan.{here_up, here_down, here_is}
use Rattle.window.specs.declared.best.Found.{Found}
use Rattle.window.specs.Window.{MostOf}
use Rattle.window.specs.work.Best.{CarriesPair, BestOf, SamePair, BetterOf, Bettered}

abbrev pub found : ℕ → ℕ → ℕ → ℕ → ℕ → Found
found a b c x h = record { low = a; high = b; count = c; weight = x; hit = h }

-- what carries the same pair carries the same entry
same_carries : {b b₁ : Found} {e : Entry} → SamePair b b₁ → CarriesPair b e → CarriesPair b₁ e
same_carries q k =
    record {
      low = q.0 ∙ k.low;
      high = q.1 ∙ k.high;
      count = q.2 ∙ k.count;
      weight = rw q.3 k.weight;
    }

-- the hit of what was given plays no part
pub bettered_from : {P : Entry → Type 0} (b : Found) {r : Found}
    → Bettered P (found b.low b.high b.count b.weight 0) r → Bettered P b r
bettered_from b a = record { beats = a.beats; kept = a.kept; comes = a.comes; hits = a.hits }

-- ALONG THE SECOND NODES of u, of which those below v are passed
module _ {Within : ℕ → Type 0} {key wt : List ℕ} {u from : ℕ} {sums : Sums} where
  pub bettered_none : {b : Found}
      → Bettered (Here Within key key wt u from sums from) b (found b.low b.high b.count b.weight 0)
  bettered_none =
      record {
        beats = λ f h. absurd (omega (arith, h.since, h.upto));
        kept = omega arith;
        comes = inl (refl, refl, refl, refl);
        hits = λ f h q. absurd (omega (arith, h.since, h.upto));
      }

  module _ (v : ℕ) {b₀ b : Found} (a : Bettered (Here Within key key wt u from sums v) b₀ b) (y x : ℕ)
      (ey : y ≡ at key v) (ex : x ≡ at wt v) where
    -- the pair u, v
    abbrev here : Entry
    here = entry u v (at key v) (lower (at wt v))

    length_here : (f : Entry) → Here Within key key wt u from sums (v + 1) f → f.high ≡ v → f.length ≡ y
    length_here f h q = h.reach ∙ ap (at key) q ∙ sym ey

    passes_here : (f : Entry) → Here Within key key wt u from sums (v + 1) f → f.high ≡ v
        → Within y × InSums sums x
    passes_here f h q = (rw (q, ← ey) at h.short, rw (q, ← ex) at h.heavy)

    -- it does not pass, or has no more branches: the best pair stays, and is hit where this one has as many
    bettered_keep : (t : ℕ) → (Within y × InSums sums x → y ≤ b.count) → (b.hit ≡ 1 → t ≡ 1)
        → (Within y × InSums sums x → y ≡ b.count → t ≡ 1)
        → Bettered (Here Within key key wt u from sums (v + 1)) b₀ (found b.low b.high b.count b.weight t)
    bettered_keep t less was now = record { beats = beats; kept = a.kept; comes = stays a.comes; hits = hits }
      where
        beats : (f : Entry) → Here Within key key wt u from sums (v + 1) f → f.length ≤ b.count
        beats f h = pick (here_down v f h)
          where
            pick : Here Within key key wt u from sums v f ⊎ (f.high ≡ v) → f.length ≤ b.count
            pick (inl d) = a.beats f d
            pick (inr q) = omega (arith, length_here f h q, less (passes_here f h q))

        hits : (f : Entry) → Here Within key key wt u from sums (v + 1) f → f.length ≡ b.count → t ≡ 1
        hits f h e = pick (here_down v f h)
          where
            pick : Here Within key key wt u from sums v f ⊎ (f.high ≡ v) → t ≡ 1
            pick (inl d) = was (a.hits f d e)
            pick (inr q) = now (passes_here f h q) (omega (arith, length_here f h q))

        not_later : (e f : Entry) → Here Within key key wt u from sums v e
            → Here Within key key wt u from sums (v + 1) f → f.high ≡ v → ¬ Before f e
        not_later e f p h q (first l) = omega (arith, p.one, h.one)
        not_later e f p h q (second i l) = omega (arith, p.upto)

        stays : SamePair b₀ b
            ⊎ ((e : Entry)
            × CarriesPair b e
            × MostOf (Here Within key key wt u from sums v) e
            × (b₀.count < e.length))
            → SamePair b₀ (found b.low b.high b.count b.weight t)
            ⊎ ((e : Entry)
            × CarriesPair (found b.low b.high b.count b.weight t) e
            × MostOf (Here Within key key wt u from sums (v + 1)) e
            × (b₀.count < e.length))
        stays (inl e) = inl e
        stays (inr c) =
            inr (
              c.0,
              same_carries (refl, refl, refl, refl) c.1,
              most c.0 c.1 c.2,
              c.3,
            )
          where
            most : (e : Entry) → CarriesPair b e → MostOf (Here Within key key wt u from sums v) e
                → MostOf (Here Within key key wt u from sums (v + 1)) e
            most e k m = record {
              one = here_up v e m.one;
              most = λ f h. omega (arith, beats f h, k.count);
              earliest = λ f h q. pick f q h (here_down v f h);
            }
              where
                pick : (f : Entry) → f.length ≡ e.length → Here Within key key wt u from sums (v + 1) f
                    → Here Within key key wt u from sums v f ⊎ (f.high ≡ v) → ¬ Before f e
                pick f q h (inl d) = m.earliest f d q
                pick f q h (inr r) = not_later e f m.one h r

    pub bettered_skip : (Within y × InSums sums x × (b.count ≤ y) → ⊥)
        → Bettered (Here Within key key wt u from sums (v + 1)) b₀ b
    bettered_skip no_way =
        bettered_keep b.hit less (λ h. h) (λ p e. absurd (no_way (p.0, p.1, omega arith)))
      where
        less : Within y × InSums sums x → y ≤ b.count
        less p = pick (dec_lt b.count y)
          where
            pick : Dec (b.count < y) → y ≤ b.count
            pick (yes l) = absurd (no_way (p.0, p.1, omega arith))
            pick (no l) = omega arith

    -- it passes and has more branches: it is the best
    bettered_more : from ≤ v → Within y × InSums sums x → b.count < y
        → Bettered (Here Within key key wt u from sums (v + 1)) b₀ (found u v y x 1)
    bettered_more s p l =
        record {
          beats = λ f h. below f h (here_down v f h);
          kept = omega (arith, a.kept);
          comes = inr (
            here,
            record {
              low = refl;
              high = refl;
              count = ey;
              weight = rw ex (lower_is (at wt v));
            },
            record {
              one = itself;
              most = λ f h. omega (arith, below f h (here_down v f h), ey);
              earliest = λ f h q. pick f q h (here_down v f h);
            },
            omega (arith, a.kept, ey),
          );
          hits = λ f h q. refl;
        }
      where
        itself : Here Within key key wt u from sums (v + 1) here
        itself =
            record {
              one = refl;
              since = s;
              upto = omega arith;
              reach = refl;
              load = lower_is (at wt v);
              short = rw ey at p.0;
              heavy = rw ex at p.1;
            }

        below : (f : Entry) → Here Within key key wt u from sums (v + 1) f
            → Here Within key key wt u from sums v f ⊎ (f.high ≡ v) → f.length ≤ y
        below f h (inl d) = omega (arith, a.beats f d)
        below f h (inr q) = omega (arith, length_here f h q)

        pick : (f : Entry) → f.length ≡ here.length → Here Within key key wt u from sums (v + 1) f
            → Here Within key key wt u from sums v f ⊎ (f.high ≡ v) → ¬ Before f here
        pick f q h (inl d) = absurd (omega (arith, a.beats f d, ey))
        pick f q h (inr r) = λ o. after_self (rw (here_is v f h r) at o)

    pub bettered_take : {r : Found} → from ≤ v → Within y × InSums sums x × (b.count ≤ y) → BetterOf b u v y x r
        → Bettered (Here Within key key wt u from sums (v + 1)) b₀ r
    bettered_take {r} s p t = pick (dec_lt b.count y)
      where
        pick : Dec (b.count < y) → Bettered (Here Within key key wt u from sums (v + 1)) b₀ r
        pick (yes l) = rw (t.more l) (bettered_more s (p.0, p.1) l)
        pick (no l) =
            let o : y ≤ b.count = omega arith in
            rw (t.less o) (bettered_keep 1 (λ _. o) (λ _. refl) (λ _ _. refl))

-- ALONG THE FIRST NODES, from `from` on, of which those below u are passed
abbrev pub Region : (Entry → Type 0) → ℕ → ℕ → Entry → Type 0
Region P from u e = P e × (from ≤ e.low) × (e.low < u)

module _ {P : Entry → Type 0} {from : ℕ} where
  pub best_none : {a b x h : ℕ} → BestOf (Region P from from) (found a b 0 x h)
  best_none = record { beats = λ f h. absurd (omega (arith, h.1, h.2)); comes = inl refl }

  pub best_more : {u : ℕ} {Y : Entry → Type 0} {b b₁ : Found} → from ≤ u → ((e : Entry) → P e → e.low ≡ u → Y e)
      → ((e : Entry) → Y e → P e × (e.low ≡ u)) → BestOf (Region P from u) b → Bettered Y b b₁
      → BestOf (Region P from (u + 1)) b₁
  best_more {u} {Y} {b} {b₁} s take back a c = record { beats = beats; comes = comes c.comes }
    where
      beats : (f : Entry) → Region P from (u + 1) f → f.length ≤ b₁.count
      beats f h = pick (dec_lt f.low u)
        where
          pick : Dec (f.low < u) → f.length ≤ b₁.count
          pick (yes l) = omega (arith, a.beats f (h.0, h.1, l), c.kept)
          pick (no l) = c.beats f (take f h.0 (omega (arith, h.2)))

      -- the best of before, where none of u's pairs took its place
      still : (e : Entry) → CarriesPair b₁ e → MostOf (Region P from u) e → MostOf (Region P from (u + 1)) e
      still e k m = record {
        one = (m.one.0, m.one.1, omega (arith, m.one.2));
        most = λ f h. omega (arith, beats f h, k.count);
        earliest = λ f h q. pick f h q (dec_lt f.low u);
      }
        where
          pick : (f : Entry) → Region P from (u + 1) f → f.length ≡ e.length → Dec (f.low < u) → ¬ Before f e
          pick f h q (yes l) = m.earliest f (h.0, h.1, l) q
          pick f h q (no l) = later
            where
              later : ¬ Before f e
              later (first o) = omega (arith, m.one.2)
              later (second o _) = omega (arith, m.one.2)

      -- one of u's pairs
      new : (e : Entry) → CarriesPair b₁ e → MostOf Y e → b.count < e.length → MostOf (Region P from (u + 1)) e
      new e k m l = record {
        one = let o = back e m.one in (o.0, omega (arith, o.1), omega (arith, o.1));
        most = λ f h. omega (arith, beats f h, k.count);
        earliest = λ f h q. pick f h q (dec_lt f.low u);
      }
        where
          pick : (f : Entry) → Region P from (u + 1) f → f.length ≡ e.length → Dec (f.low < u) → ¬ Before f e
          pick f h q (yes o) = absurd (omega (arith, a.beats f (h.0, h.1, o)))
          pick f h q (no o) = m.earliest f (take f h.0 (omega (arith, h.2))) q

      comes : SamePair b b₁ ⊎ ((e : Entry) × CarriesPair b₁ e × MostOf Y e × (b.count < e.length))
          → (b₁.count ≡ 0) ⊎ ((e : Entry) × CarriesPair b₁ e × MostOf (Region P from (u + 1)) e)
      comes (inr w) = inr (w.0, w.1, new w.0 w.1 w.2 w.3)
      comes (inl e) = before a.comes
        where
          before : (b.count ≡ 0) ⊎ ((e : Entry) × CarriesPair b e × MostOf (Region P from u) e)
              → (b₁.count ≡ 0) ⊎ ((e : Entry) × CarriesPair b₁ e × MostOf (Region P from (u + 1)) e)
          before (inl z) = inl (e.2 ∙ z)
          before (inr w) =
              let k : CarriesPair b₁ w.0 = same_carries e w.1 in
              inr (w.0, k, still w.0 k w.2)

-- where the best has as many branches as any pair may have, those that were not passed have no more and are later
pub best_early : {P : Entry → Type 0} {from u : ℕ} {b : Found} → ((e : Entry) → P e → e.length ≤ b.count)
    → BestOf (Region P from u) b → BestOf (λ e. P e × (from ≤ e.low)) b
best_early {P} {from} {u} {b} most a = record { beats = λ f h. most f h.0; comes = pick a.comes }
  where
    later : (e : Entry) → MostOf (Region P from u) e → (f : Entry) → P f × (from ≤ f.low) → f.length ≡ e.length
        → Dec (f.low < u) → ¬ Before f e
    later e m f h q (yes l) = m.earliest f (h.0, h.1, l) q
    later e m f h q (no l) = not
      where
        not : ¬ Before f e
        not (first o) = omega (arith, m.one.2)
        not (second o _) = omega (arith, m.one.2)

    pick : (b.count ≡ 0) ⊎ ((e : Entry) × CarriesPair b e × MostOf (Region P from u) e)
        → (b.count ≡ 0) ⊎ ((e : Entry) × CarriesPair b e × MostOf (λ e. P e × (from ≤ e.low)) e)
    pick (inl z) = inl z
    pick (inr w) =
        let m = w.2 in
        inr (
          w.0,
          w.1,
          record {
            one = (m.one.0, m.one.1);
            most = λ f h. omega (arith, most f h.0, w.1.count);
            earliest = λ f h q. later w.0 m f h q (dec_lt f.low u);
          },
        )

-- the same pairs pass: the same best
pub most_iff : {P Q : Entry → Type 0} {e : Entry} → ((f : Entry) → P f → Q f) → ((f : Entry) → Q f → P f)
    → MostOf P e → MostOf Q e
most_iff f g m =
    record {
      one = f _ m.one;
      most = λ x h. m.most x (g x h);
      earliest = λ x h. m.earliest x (g x h);
    }

pub best_iff : {P Q : Entry → Type 0} {b : Found} → ((f : Entry) → P f → Q f) → ((f : Entry) → Q f → P f)
    → BestOf P b → BestOf Q b
best_iff {P} {Q} {b} f g a = record { beats = λ x h. a.beats x (g x h); comes = pick a.comes }
  where
    pick : (b.count ≡ 0) ⊎ ((e : Entry) × CarriesPair b e × MostOf P e)
        → (b.count ≡ 0) ⊎ ((e : Entry) × CarriesPair b e × MostOf Q e)
    pick (inl z) = inl z
    pick (inr w) = inr (w.0, w.1, most_iff f g w.2)
