-- Bands named and counted: a node that no row passes over gets its own number, and each band's nodes are counted under
-- its name.
use Prim.Native.Nat.{ℕ, ◌+◌, ◌≤◌, ◌<◌}
use mathlib.Core.Path.{◌≡◌, refl, sym, ◌∙◌}
use mathlib.Core.Logic.{◌⊎◌, inl, inr, ◌≢◌}
use mathlib.Core.List.{List}
use native.Mathlib.Omega.{arith}
use native.Mathlib.Decide.{ℕ_discrete}
use lib.ListN.{length, set, length-set}
use lib.Seq.{get_or-set_same, get_or-set_other}
use Rattle.arrays.specs.At.{at}
use Rattle.arrays.specs.work.Filled.{Filled}
use Rattle.net.specs.Count.{Count}
use Rattle.net.proofs.Counts.{count_none, count_one, count_add, count_same, count_below}
use Rattle.mesh.specs.work.Bands.{NamedFrom, BandSizes}

-- one of the first i nodes, of band g
abbrev pub Of : List ℕ → ℕ → ℕ → ℕ → Type 0
Of over g i x = (x < i) × (at over x ≡ g)

module _ (over : List ℕ) {x w : ℕ} (n : at over x ≡ w) where
  of_skip : {g m : ℕ} → w ≢ g → Count (Of over g x) m → Count (Of over g (x + 1)) m
  of_skip {g} q c = count_same (λ y h. (omega (arith, h.0), h.1)) (λ y h. (pick y h (ℕ_discrete y x), h.1)) c
    where
      pick : (y : ℕ) → Of over g (x + 1) y → Dec (y ≡ x) → y < x
      pick y h (yes e) = absurd (q (sym n ∙ rw e at h.1))
      pick y h (no m) = omega (arith, h.0)

  of_one : {g m : ℕ} → w ≡ g → Count (Of over g x) m → Count (Of over g (x + 1)) (m + 1)
  of_one {g} q c =
      count_add {P = Of over g x} {Q = λ y. y ≡ x} c (count_one x refl (λ y e. e)) (λ y h e. omega (arith, h.0))
      (λ y h. pick y h (ℕ_discrete y x)) (λ y h. (omega (arith, h.0), h.1)) (λ y e. (omega arith, rw e (n ∙ q)))
    where
      pick : (y : ℕ) → Of over g (x + 1) y → Dec (y ≡ x) → Of over g x y ⊎ (y ≡ x)
      pick y h (yes e) = inr e
      pick y h (no m) = inl (omega (arith, h.0), h.1)

-- the nodes below x are named, from `old`, and counted
pub record Sizing (n : ℕ) (old : List ℕ) (x : ℕ) (over size : List ℕ) : Type 0 where
  pub few : n ≤ 256
  pub within : x ≤ n
  pub long : length over ≡ 256
  pub low : (y : ℕ) → y < n → at old y ≤ 256
  pub named : NamedFrom x old over
  pub rest : (y : ℕ) → x ≤ y → at over y ≡ at old y
  pub sizes : BandSizes x over size

pub sizing_start : {n : ℕ} {old size : List ℕ} → n ≤ 256 → length old ≡ 256 → ((y : ℕ) → y < n → at old y ≤ 256)
    → Filled 256 0 size → Sizing n old 0 old size
sizing_start l e h f =
    record {
      few = l;
      within = omega arith;
      long = e;
      low = h;
      named = λ y b. absurd (omega arith);
      rest = λ y b. refl;
      sizes =
          record {
            long = f.long;
            fits = λ y b. absurd (omega arith);
            each = λ g b. rw (f.each g b) (count_none (λ y q. omega (arith, q.0)));
          };
    }

module _ {n : ℕ} {old : List ℕ} {x : ℕ} {over size : List ℕ} (s : Sizing n old x over size) (l : x < n) (g : ℕ)
    (e : (at over x ≡ 256 → g ≡ x) × ((at over x ≡ 256 → ⊥) → g ≡ at over x)) where
  is_old : at over x ≡ at old x
  is_old = s.rest x (omega arith)

  pub name_fits : g < 256
  name_fits = pick (ℕ_discrete (at over x) 256)
    where
      pick : Dec (at over x ≡ 256) → g < 256
      pick (yes q) = omega (arith, e.0 q, s.few)
      pick (no q) = omega (arith, e.1 q, is_old, s.low x l)

  pub size_fits : at size g ≤ x
  size_fits = count_below x (λ y h. h.0) (s.sizes.each g name_fits)

  abbrev Over : List ℕ
  Over = set over x g

  abbrev Size : List ℕ
  Size = set size g (at size g + 1)

  same : at Over x ≡ g
  same = get_or-set_same over x g 0 (omega (arith, s.few, s.long))

  other : (y : ℕ) → y ≢ x → at Over y ≡ at over y
  other y m = get_or-set_other over x y g 0 m

  pub sizing_next : Sizing n old (x + 1) Over Size
  sizing_next =
      record {
        few = s.few;
        within = omega arith;
        long = length-set over x g ∙ s.long;
        low = s.low;
        named = λ y b. named y b (ℕ_discrete y x);
        rest = λ y b. other y (omega arith) ∙ s.rest y (omega arith);
        sizes =
            record {
              long = length-set size g (at size g + 1) ∙ s.sizes.long;
              fits = λ y b. fits y b (ℕ_discrete y x);
              each = λ f b. each f b (ℕ_discrete g f);
            };
      }
    where
      named : (y : ℕ) → y < x + 1 → Dec (y ≡ x)
          → (at old y ≡ 256 → at Over y ≡ y) × (at old y ≢ 256 → at Over y ≡ at old y)
      named y b (yes q) =
          rw (q, same) (λ z. e.0 (is_old ∙ z), λ z. e.1 (λ w. z (sym is_old ∙ w)) ∙ is_old)
      named y b (no q) = rw (other y q) (s.named y (omega arith))

      fits : (y : ℕ) → y < x + 1 → Dec (y ≡ x) → at Over y < 256
      fits y b (yes q) = rw (q, same) name_fits
      fits y b (no q) = rw (other y q) (s.sizes.fits y (omega arith))

      before : {f m : ℕ} → Count (Of over f x) m → Count (Of Over f x) m
      before c =
          count_same (λ y h. (h.0, other y (omega (arith, h.0)) ∙ h.1))
          (λ y h. (h.0, sym (other y (omega (arith, h.0))) ∙ h.1)) c

      each : (f : ℕ) → f < 256 → Dec (g ≡ f) → Count (Of Over f (x + 1)) (at Size f)
      each f b (yes q) =
          let z : at Size f ≡ at size f + 1 =
          rw (← q) (get_or-set_same size g (at size g + 1) 0 (omega (arith, name_fits, s.sizes.long))) in
          rw z (of_one Over same q (before (s.sizes.each f b)))
      each f b (no q) =
          rw (get_or-set_other size g f (at size g + 1) 0 (λ z. q (sym z)))
          (of_skip Over same q (before (s.sizes.each f b)))

pub sizing_end : {n : ℕ} {old : List ℕ} {x : ℕ} {over size : List ℕ} → Sizing n old x over size → ¬ (x < n)
    → NamedFrom n old over × (length over ≡ 256) × BandSizes n over size
sizing_end {n = n} {x = x} s m =
    let e : x ≡ n = omega (arith, s.within) in (rw e at s.named, s.long, rw e at s.sizes)
