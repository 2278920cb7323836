-- The way back: texts written from rows without loop and without repeat pass 27 and 28, and the rows made of them are
-- those rows. A row's arc and its opposite stand together, so the first arcs are the even ones, in the order of the
-- rows; a branch's weight is its row's, there being one.
use Prim.Native.Nat.{ℕ, zero, suc, ◌+◌, ◌-◌, ◌*◌, ◌/◌, ◌%◌, ◌≤◌, ◌<◌}
use mathlib.Core.Path.{◌≡◌, sym, ap, ◌∙◌}
use mathlib.Core.Logic.{inl, inr, ◌≢◌}
use mathlib.Core.List.{List, [], ◌∷◌, ◌++◌}
use native.Mathlib.Omega.{arith}
use native.Mathlib.Decide.{ℕ_discrete}
use lib.ListN.{length, get_or, length-append, get_or-append}
use lib.Seq.{get_or_at}
use Rattle.roads.specs.Text.{Arc, Said}
use Rattle.arcs.specs.Arcs.{Arcs, no_arc, arcs_of, Opposite, Paired, AlongBranch, Names, SameBranches}
use Rattle.arcs.specs.Made.{
  Earlier,
  Firsts,
  again,
  new,
  RowFields,
  BranchRow,
  BranchRows,
  rows_bytes,
  header_bytes,
  TableOf,
}
use Rattle.arcs.specs.Made as made
use Rattle.arcs.proofs.Halves.{firsts_only}
use Rattle.arcs.proofs.Branches.{branch_rows_only, branch_rows_snoc}

-- rows without a loop and without a repeat either way round: what 8 and 11 leave
pub record NoRepeat (u v : ℕ → ℕ) (n : ℕ) : Type 0 where
  pub apart : (r : ℕ) → r < n → u r ≢ v r
  pub once : (r s : ℕ) → r < n → s < n → u r ≡ u s → v r ≡ v s → r ≡ s
  pub back : (r s : ℕ) → r < n → s < n → u r ≡ v s → v r ≡ u s → r ≡ s

-- A has the arc of each of n rows, and after it its opposite
pub record BothArcs (row : ℕ → Arc) (n : ℕ) (A : Arcs) : Type 0 where
  pub count : A.count ≡ 2 * n
  pub from_even : (r : ℕ) → r < n → A.from (2 * r) ≡ (row r).from
  pub to_even : (r : ℕ) → r < n → A.to (2 * r) ≡ (row r).to
  pub number_even : (r : ℕ) → r < n → A.number (2 * r) ≡ (row r).number
  pub from_odd : (r : ℕ) → r < n → A.from (2 * r + 1) ≡ (row r).to
  pub to_odd : (r : ℕ) → r < n → A.to (2 * r + 1) ≡ (row r).from
  pub number_odd : (r : ℕ) → r < n → A.number (2 * r + 1) ≡ (row r).number

-- a list made row by row, each row's arc and its opposite put at the end
abbrev turned_arc : Arc → Arc
turned_arc e = record { from = e.to; to = e.from; number = e.number }

module _ (row : ℕ → Arc) (f : ℕ → List Arc) (start : f zero ≡ [])
    (step : (m : ℕ) → f (suc m) ≡ f m ++ row m ∷ [] ++ turned_arc (row m) ∷ []) where
  both_length : (n : ℕ) → length (f n) ≡ 2 * n
  both_length zero = ap length start
  both_length (suc m) =
      omega (
        arith,
        ap length (step m),
        length-append (f m ++ row m ∷ []) (turned_arc (row m) ∷ []),
        length-append (f m) (row m ∷ []),
        both_length m,
      )

  even_at : (n r : ℕ) → r < n → get_or (f n) (2 * r) no_arc ≡ row r
  even_at zero r h = absurd (omega arith)
  even_at (suc m) r h = rw (step m) (pick (ℕ_discrete r m) (even_at m r))
    where
      inner : 2 * r < length (f m ++ row m ∷ [])
      inner = omega (arith, length-append (f m) (row m ∷ []), both_length m)

      pick : Dec (r ≡ m) → (r < m → get_or (f m) (2 * r) no_arc ≡ row r)
          → get_or (f m ++ row m ∷ [] ++ turned_arc (row m) ∷ []) (2 * r) no_arc ≡ row r
      pick (yes e) ih =
          get_or-append (f m ++ row m ∷ []) (turned_arc (row m) ∷ []) no_arc (2 * r) inner
          ∙ get_or_at (f m) (row m) [] no_arc (2 * r) (both_length m ∙ ap (λ y. 2 * y) (sym e))
          ∙ ap row (sym e)
      pick (no n) ih =
          get_or-append (f m ++ row m ∷ []) (turned_arc (row m) ∷ []) no_arc (2 * r) inner
          ∙ get_or-append (f m) (row m ∷ []) no_arc (2 * r) (omega (arith, both_length m))
          ∙ ih (omega arith)

  odd_at : (n r : ℕ) → r < n → get_or (f n) (2 * r + 1) no_arc ≡ turned_arc (row r)
  odd_at zero r h = absurd (omega arith)
  odd_at (suc m) r h = rw (step m) (pick (ℕ_discrete r m) (odd_at m r))
    where
      inner : length (f m ++ row m ∷ []) ≡ 2 * m + 1
      inner = omega (arith, length-append (f m) (row m ∷ []), both_length m)

      pick : Dec (r ≡ m) → (r < m → get_or (f m) (2 * r + 1) no_arc ≡ turned_arc (row r))
          → get_or (f m ++ row m ∷ [] ++ turned_arc (row m) ∷ []) (2 * r + 1) no_arc ≡ turned_arc (row r)
      pick (yes e) ih =
          get_or_at (f m ++ row m ∷ []) (turned_arc (row m)) [] no_arc (2 * r + 1)
          (inner ∙ ap (λ y. 2 * y + 1) (sym e))
          ∙ ap (λ y. turned_arc (row y)) (sym e)
      pick (no n) ih =
          get_or-append (f m ++ row m ∷ []) (turned_arc (row m) ∷ []) no_arc (2 * r + 1) (omega (arith, inner))
          ∙ get_or-append (f m) (row m ∷ []) no_arc (2 * r + 1) (omega (arith, both_length m))
          ∙ ih (omega arith)

  pub both_arcs : (n : ℕ) → BothArcs row n (arcs_of (f n))
  unfolding arcs_of
  both_arcs n = record {
    count = both_length n;
    from_even = λ r h. ap (λ (e : Arc). e.from) (even_at n r h);
    to_even = λ r h. ap (λ (e : Arc). e.to) (even_at n r h);
    number_even = λ r h. ap (λ (e : Arc). e.number) (even_at n r h);
    from_odd = λ r h. ap (λ (e : Arc). e.from) (odd_at n r h);
    to_odd = λ r h. ap (λ (e : Arc). e.to) (odd_at n r h);
    number_odd = λ r h. ap (λ (e : Arc). e.number) (odd_at n r h);
  }

-- even or odd
data Parity : ℕ → Type 0 where
  even : (r : ℕ) → Parity (2 * r)
  odd : (r : ℕ) → Parity (2 * r + 1)

parity : (h : ℕ) → Parity h
parity h = pick (ℕ_discrete (h % 2) 0)
  where
    pick : Dec (h % 2 ≡ 0) → Parity h
    pick (yes e) = let q : h ≡ 2 * (h / 2) = omega arith in rw (q) (even (h / 2))
    pick (no n) = let q : h ≡ 2 * (h / 2) + 1 = omega arith in rw (q) (odd (h / 2))

module _ {row : ℕ → Arc} {n : ℕ} {A : Arcs} (p : NoRepeat (λ r. (row r).from) (λ r. (row r).to) n)
    (w : BothArcs row n A) where
  pub both_paired : Paired A
  both_paired = record {
    once = λ i j. once i j (parity i) (parity j);
    apart = λ i. apart i (parity i);
    opposite = λ i. opposite i (parity i);
  }
    where
      in_even : (r : ℕ) → 2 * r < A.count → r < n
      in_even r h = omega (arith, w.count)

      in_odd : (r : ℕ) → 2 * r + 1 < A.count → r < n
      in_odd r h = omega (arith, w.count)

      -- no arc is another row's opposite
      other : (r s : ℕ) → r < n → s < n → (row r).from ≡ (row s).to → (row r).to ≡ (row s).from → ⊥
      other r s a b h k = let q : r ≡ s = p.back r s a b h k in p.apart s b (rw (q) at (sym k))

      once : (i j : ℕ) → Parity i → Parity j → i < A.count → j < A.count → A.from i ≡ A.from j → A.to i ≡ A.to j
          → i ≡ j
      once i j (even r) (even s) a b d e =
          let x = in_even r a in
          let y = in_even s b in
          ap (λ y. 2 * y)
          (p.once r s x y (sym (w.from_even r x) ∙ d ∙ w.from_even s y) (sym (w.to_even r x) ∙ e ∙ w.to_even s y))
      once i j (odd r) (odd s) a b d e =
          let x = in_odd r a in
          let y = in_odd s b in
          ap (λ y. 2 * y + 1)
          (p.once r s x y (sym (w.to_odd r x) ∙ e ∙ w.to_odd s y) (sym (w.from_odd r x) ∙ d ∙ w.from_odd s y))
      once i j (even r) (odd s) a b d e =
          let x = in_even r a in
          let y = in_odd s b in
          absurd
          (other r s x y (sym (w.from_even r x) ∙ d ∙ w.from_odd s y) (sym (w.to_even r x) ∙ e ∙ w.to_odd s y))
      once i j (odd r) (even s) a b d e =
          let x = in_odd r a in
          let y = in_even s b in
          absurd
          (other s r y x (sym (w.from_even s y) ∙ sym d ∙ w.from_odd r x)
          (sym (w.to_even s y) ∙ sym e ∙ w.to_odd r x))

      apart : (i : ℕ) → Parity i → i < A.count → A.from i ≢ A.to i
      apart i (even r) a e =
          let x = in_even r a in
          p.apart r x (sym (w.from_even r x) ∙ e ∙ w.to_even r x)
      apart i (odd r) a e =
          let x = in_odd r a in
          p.apart r x (sym (w.to_odd r x) ∙ sym e ∙ w.from_odd r x)

      opposite : (i : ℕ) → Parity i → i < A.count → (j : ℕ) × Opposite A i j
      opposite i (even r) a =
          let x = in_even r a in (
            2 * r + 1,
            record {
              within = omega (arith, w.count);
              leaves = w.from_odd r x ∙ sym (w.to_even r x);
              leads = w.to_odd r x ∙ sym (w.from_even r x);
              equal = w.number_odd r x ∙ sym (w.number_even r x);
            },
          )
      opposite i (odd r) a =
          let x = in_odd r a in (
            2 * r,
            record {
              within = omega (arith, w.count);
              leaves = w.from_even r x ∙ sym (w.to_odd r x);
              leads = w.to_even r x ∙ sym (w.from_odd r x);
              equal = w.number_even r x ∙ sym (w.number_odd r x);
            },
          )

-- the first arcs are the even ones
unfoldable pub evens : ℕ → List ℕ
evens zero = []
evens (suc n) = evens n ++ (2 * n ∷ [])

module _ {row : ℕ → Arc} {n : ℕ} {A : Arcs} (p : NoRepeat (λ r. (row r).from) (λ r. (row r).to) n)
    (w : BothArcs row n A) where
  -- the two arcs of a row stand together, and no earlier row has its branch
  opens : (k : ℕ) → k < n → ¬ Earlier A (2 * k)
  opens k h e = pick e.arc (parity e.arc) e.before e.along
    where
      pick : (i : ℕ) → Parity i → i < 2 * k → AlongBranch A i (A.from (2 * k)) (A.to (2 * k)) → ⊥
      pick i (even r) b (inl a) =
          let x : r < n = omega arith in
          let q = p.once r k x h (sym (w.from_even r x) ∙ a.0 ∙ w.from_even k h)
          (sym (w.to_even r x) ∙ a.1 ∙ w.to_even k h) in
          omega (arith, q)
      pick i (even r) b (inr a) =
          let x : r < n = omega arith in
          let q = p.back r k x h (sym (w.from_even r x) ∙ a.0 ∙ w.to_even k h)
          (sym (w.to_even r x) ∙ a.1 ∙ w.from_even k h) in
          omega (arith, q)
      pick i (odd r) b (inl a) =
          let x : r < n = omega arith in
          let q = p.back r k x h (sym (w.to_odd r x) ∙ a.1 ∙ w.to_even k h)
          (sym (w.from_odd r x) ∙ a.0 ∙ w.from_even k h) in
          omega (arith, q)
      pick i (odd r) b (inr a) =
          let x : r < n = omega arith in
          let q = p.once r k x h (sym (w.to_odd r x) ∙ a.1 ∙ w.from_even k h)
          (sym (w.from_odd r x) ∙ a.0 ∙ w.to_even k h) in
          omega (arith, q)

  closes : (k : ℕ) → k < n → Earlier A (suc (2 * k))
  closes k h =
      let q : suc (2 * k) ≡ 2 * k + 1 = omega arith in
      rw (q)
      (record {
        arc = 2 * k;
        before = omega arith;
        along = inr (w.from_even k h ∙ sym (w.to_odd k h), w.to_even k h ∙ sym (w.from_odd k h));
      })

  firsts_evens : (k : ℕ) → k ≤ n → Firsts A (2 * k) (evens k)
  unfolding evens
  firsts_evens zero h = made.Firsts.none
  firsts_evens (suc k) h =
      let q : 2 * suc k ≡ suc (suc (2 * k)) = omega arith in
      rw (q) (again (new (firsts_evens k (omega arith)) (opens k (omega arith))) (closes k (omega arith)))

  pub both_firsts : Firsts A A.count (evens n)
  both_firsts = until (sym w.count) (firsts_evens n (omega arith))
    where
      until : {j k : ℕ} {l : List ℕ} → j ≡ k → Firsts A j l → Firsts A k l
      until e f = rw (e) at f

-- two texts of the same rows
pub record SameNodes (row wow : ℕ → Arc) (n : ℕ) : Type 0 where
  pub from : (r : ℕ) → r < n → (row r).from ≡ (wow r).from
  pub to : (r : ℕ) → r < n → (row r).to ≡ (wow r).to

named : {row wow : ℕ → Arc} {n : ℕ} {A B : Arcs} → SameNodes row wow n → BothArcs row n A → BothArcs wow n B → (a b : ℕ)
    → Names A a b → Names B a b
named {row} {wow} {n} {A} {B} s w v a b m = record {
  arc = m.arc;
  within = omega (arith, m.within, w.count, v.count);
  along = along m.arc (parity m.arc) m.within m.along;
}
  where
    turn : (i : ℕ) → A.from i ≡ B.from i → A.to i ≡ B.to i → AlongBranch A i a b → AlongBranch B i a b
    turn i x y (inl h) = inl (sym x ∙ h.0, sym y ∙ h.1)
    turn i x y (inr h) = inr (sym x ∙ h.0, sym y ∙ h.1)

    along : (i : ℕ) → Parity i → i < A.count → AlongBranch A i a b → AlongBranch B i a b
    along i (even r) h =
        let x : r < n = omega (arith, w.count) in
        turn (2 * r) (w.from_even r x ∙ s.from r x ∙ sym (v.from_even r x))
        (w.to_even r x ∙ s.to r x ∙ sym (v.to_even r x))
    along i (odd r) h =
        let x : r < n = omega (arith, w.count) in
        turn (2 * r + 1) (w.from_odd r x ∙ s.to r x ∙ sym (v.from_odd r x))
        (w.to_odd r x ∙ s.from r x ∙ sym (v.to_odd r x))

-- the fields of a row by its arc in the length text and its arc in the weight text, and those of the first n rows
abbrev pub fields_of : Arc → Arc → RowFields
fields_of e f = record { a = e.from - 1; b = e.to - 1; length = e.number; weight = f.number }

unfoldable pub fields_up_to : (ℕ → Arc) → (ℕ → Arc) → ℕ → List RowFields
fields_up_to row wow zero = []
fields_up_to row wow (suc n) = fields_up_to row wow n ++ fields_of (row n) (wow n) ∷ []

module _ {row wow : ℕ → Arc} {n : ℕ} {A B : Arcs} (s : SameNodes row wow n) (w : BothArcs row n A)
    (v : BothArcs wow n B) where
  pub both_same : SameBranches A B
  both_same = record {
    there = named s w v;
    back = named (record { from = λ r h. sym (s.from r h); to = λ r h. sym (s.to r h) }) v w;
  }

  rows_here : (k : ℕ) → k ≤ n → BranchRows A B (evens k) (fields_up_to row wow k)
  unfolding evens fields_up_to
  rows_here zero h = made.BranchRows.none
  rows_here (suc k) h = branch_rows_snoc (rows_here k (omega arith)) (here k (omega arith))
    where
      here : (k : ℕ) → k < n → BranchRow A B (2 * k) (fields_of (row k) (wow k))
      here k x = record {
        first = ap (λ y. y - 1) (sym (w.from_even k x));
        second = ap (λ y. y - 1) (sym (w.to_even k x));
        long = sym (w.number_even k x);
        arc = 2 * k;
        within = omega (arith, v.count);
        along = inl (
          v.from_even k x ∙ sym (s.from k x) ∙ sym (w.from_even k x),
          v.to_even k x ∙ sym (s.to k x) ∙ sym (w.to_even k x),
        );
        heavy = sym (v.number_even k x);
      }

  pub both_rows : BranchRows A B (evens n) (fields_up_to row wow n)
  both_rows = rows_here n (omega arith)

-- the table made of the two texts is that of the rows
pub both_table : {a b : Said} {bound : ℕ} {row wow : ℕ → Arc} {n : ℕ} {t : List ℕ}
    → NoRepeat (λ r. (row r).from) (λ r. (row r).to) n → SameNodes row wow n → BothArcs row n (arcs_of a.arcs)
    → BothArcs wow n (arcs_of b.arcs) → TableOf a b bound t
    → t ≡ header_bytes a.nodes bound ++ rows_bytes (fields_up_to row wow n)
unfolding arcs_of
both_table {a} {b} {bound} {row} {wow} {n} p s w v t =
    let e = firsts_only (arcs_of a.arcs) t.order (both_firsts p w) in
    let q = both_paired (no_repeat s p) v in
    let f = branch_rows_only q (rw (e) at t.each) (both_rows s w v) in
    t.is ∙ ap (λ (r : List RowFields). header_bytes a.nodes bound ++ rows_bytes r) f
  where
    no_repeat : {row wow : ℕ → Arc} {n : ℕ} → SameNodes row wow n → NoRepeat (λ r. (row r).from) (λ r. (row r).to) n
        → NoRepeat (λ r. (wow r).from) (λ r. (wow r).to) n
    no_repeat s p = record {
      apart = λ r h e. p.apart r h (s.from r h ∙ e ∙ sym (s.to r h));
      once = λ r o h k d e. p.once r o h k (s.from r h ∙ d ∙ sym (s.from o k)) (s.to r h ∙ e ∙ sym (s.to o k));
      back = λ r o h k d e. p.back r o h k (s.from r h ∙ d ∙ sym (s.to o k)) (s.to r h ∙ e ∙ sym (s.from o k));
    }
