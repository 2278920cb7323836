-- Parity: along any walk the rows that lead from one side of a cut to the other are odd in number exactly if its ends
-- lie on different sides.
use Prim.Native.Nat.{ℕ, ◌+◌, ◌-◌, ◌≤◌}
use mathlib.Core.Path.{◌≡◌, refl, sym, ap, ◌∙◌}
use mathlib.Core.Logic.{inl, inr, ◌≢◌}
use mathlib.Core.List.{List, [], ◌∷◌}
use native.Mathlib.Omega.{arith}
use native.Mathlib.Decide.{ℕ_discrete}
use Rattle.arrays.specs.Members.{In, at, past, Distinct}
use Rattle.net.specs.Graph.{Ends, Walk, stop, go}
use Rattle.net.specs.Path.{Sum}
use Rattle.arrays.proofs.Members.{in?, not_nil}

pub record Even (m : ℕ) : Type 0 where
  pub half : ℕ
  pub is : m ≡ half + half

-- 1 where it holds, 0 where not
unfoldable pub tick : {A : Type 0} → Dec A → ℕ
tick (yes _) = 1
tick (no _) = 0

pub tick_yes : {A : Type 0} (d : Dec A) → A → tick d ≡ 1
unfolding tick
tick_yes (yes _) a = refl
tick_yes (no n) a = absurd (n a)

pub tick_no : {A : Type 0} (d : Dec A) → ¬ A → tick d ≡ 0
unfolding tick
tick_no (yes a) n = absurd (n a)
tick_no (no _) n = refl

pub tick_in : {A : Type 0} (d : Dec A) → tick d ≡ 1 → A
unfolding tick
tick_in (yes a) e = a
tick_in (no _) e = absurd (omega arith)

pub tick_low : {A : Type 0} (d : Dec A) → tick d ≤ 1
unfolding tick
tick_low (yes a) = omega arith
tick_low (no n) = omega arith

-- 1 at e, 0 elsewhere
unfoldable pub one : ℕ → ℕ → ℕ
one e r = tick (ℕ_discrete r e)

pub one_same : {e r : ℕ} → r ≡ e → one e r ≡ 1
unfolding one
one_same h = tick_yes (ℕ_discrete _ _) h

pub one_other : {e r : ℕ} → r ≢ e → one e r ≡ 0
unfolding one
one_other h = tick_no (ℕ_discrete _ _) h

-- 1 where r is in the list, 0 where not
unfoldable pub has : ℕ → List ℕ → ℕ
has r l = tick (in? r l)

module _ {r : ℕ} {l : List ℕ} where
  pub has_yes : In r l → has r l ≡ 1
  unfolding has
  has_yes h = tick_yes (in? r l) h

  pub has_no : ¬ In r l → has r l ≡ 0
  unfolding has
  has_no h = tick_no (in? r l) h

  pub has_in : has r l ≡ 1 → In r l
  unfolding has
  has_in h = tick_in (in? r l) h

pub has_low : (r : ℕ) (l : List ℕ) → has r l ≤ 1
unfolding has
has_low r l = tick_low (in? r l)

pub has_same : {r : ℕ} {l m : List ℕ} → (In r l → In r m) → (In r m → In r l) → has r l ≡ has r m
has_same {r} {l} {m} f g = pick (in? r l)
  where
    pick : Dec (In r l) → has r l ≡ has r m
    pick (yes h) = has_yes h ∙ sym (has_yes (f h))
    pick (no h) = has_no h ∙ sym (has_no (λ i. h (g i)))

-- in a list with no member twice, e is counted once
pub sum_one : (e : ℕ) (l : List ℕ) → Distinct l → Sum (one e) l ≡ has e l
sum_one e [] d = sym (has_no not_nil)
sum_one e (r ∷ l) d = pick (ℕ_discrete r e) (sum_one e l d.1)
  where
    neither : r ≢ e → ¬ In e l → ¬ In e (r ∷ l)
    neither n m (at q) = n (sym q)
    neither n m (past h) = m h

    tail : r ≢ e → In e (r ∷ l) → In e l
    tail n (at q) = absurd (n (sym q))
    tail n (past h) = h

    pick : Dec (r ≡ e) → Sum (one e) l ≡ has e l → Sum (one e) (r ∷ l) ≡ has e (r ∷ l)
    pick (yes q) ih =
        let m : ¬ In e l = rw q at d.0 in
        omega (arith, one_same q, has_no m, has_yes {r = e} {l = r ∷ l} (at (sym q)))
    pick (no n) ih = omega (arith, one_other n, has_same {r = e} {l = l} {m = r ∷ l} past (tail n))

pub sum_add : (f g : ℕ → ℕ) (l : List ℕ) → Sum (λ r. f r + g r) l ≡ Sum f l + Sum g l
sum_add f g [] = refl
sum_add f g (r ∷ l) = omega (arith, sum_add f g l)

module _ (u v : ℕ → ℕ) where
  -- c r is 1 where row r leads across, s x the side of node x
  pub parity : {P : ℕ → Type 0} (c s : ℕ → ℕ) → ((r : ℕ) → P r → Even (c r + s (u r) + s (v r)))
      → {p q : ℕ} {rs ns : List ℕ} → Walk u v P p rs ns q → Even (Sum c rs + s p + s q)
  parity c s h {p} stop = record { half = s p; is = omega arith }
  parity c s h (go {r} {a} {c = d} {b} {rs} pr e w) = step (h r pr) e (parity c s h w)
    where
      close : (x y : ℕ) → Even (c r + x + y) → (x + y ≡ s a + s d) → Even (Sum c rs + s d + s b)
          → Even (Sum c (r ∷ rs) + s a + s b)
      close x y g q t = record { half = g.half + t.half - s d; is = omega (arith, g.is, t.is) }

      step : Even (c r + s (u r) + s (v r)) → Ends u v r a d → Even (Sum c rs + s d + s b)
          → Even (Sum c (r ∷ rs) + s a + s b)
      step g (inl q) t = close _ _ g (omega (arith, ap s q.0, ap s q.1)) t
      step g (inr q) t = close _ _ g (omega (arith, ap s q.0, ap s q.1)) t

  -- where no row but e and f lead across, and no row is walked twice
  pub parity_two : {P : ℕ → Type 0} (e f : ℕ) (s : ℕ → ℕ)
      → ((r : ℕ) → P r → Even (one e r + one f r + s (u r) + s (v r))) → {p q : ℕ} {rs ns : List ℕ}
      → Walk u v P p rs ns q → Distinct rs → Even (has e rs + has f rs + s p + s q)
  parity_two e f s h {p} {q} {rs} w d =
      let t = parity (λ r. one e r + one f r) s h w in
      record { half = t.half; is = omega (arith, t.is, sum_add (one e) (one f) rs, sum_one e rs d, sum_one f rs d) }
