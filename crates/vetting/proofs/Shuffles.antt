-- Lists in another order. Of two lists without a member twice, which have the same members, the one is the other
-- shuffled; and shuffling keeps the members, and that none is there twice. A list put in as one piece is its members
-- put in.
use mathlib.Core.Path.{◌≡◌, refl, sym}
use mathlib.Core.Logic.{◌⊎◌, inl, inr, ⊎_elim}
use mathlib.Core.List.{List, [], ◌∷◌, ◌++◌}
use Rattle.arrays.specs.Members.{In, at, past, Distinct}
use Rattle.arrays.proofs.Members.{not_nil, in_cases}
use Rattle.vetting.specs.Shuffled.{Inserted, front, later, Shuffled, none, more}

module _ {A : Type 0} where
  -- one more put in: what the longer list has
  inserted_new : {x : A} {l k : List A} → Inserted x l k → In x k
  inserted_new front = at refl
  inserted_new (later p) = past (inserted_new p)

  inserted_old : {x y : A} {l k : List A} → Inserted x l k → In y l → In y k
  inserted_old front h = past h
  inserted_old (later p) (at e) = at e
  inserted_old (later p) (past h) = past (inserted_old p h)

  inserted_from : {x y : A} {l k : List A} → Inserted x l k → In y k → (y ≡ x) ⊎ In y l
  inserted_from front h = in_cases h
  inserted_from (later p) (at e) = inr (at e)
  inserted_from (later p) (past h) = ⊎_elim inl (λ i. inr (past i)) (inserted_from p h)

  inserted_distinct : {x : A} {l k : List A} → Inserted x l k → ¬ In x l → Distinct l → Distinct k
  inserted_distinct front n d = (n, d)
  inserted_distinct {x} (later {y = y} {l = l} p) n d =
      (λ h. ⊎_elim (λ e. n (at (sym e))) d.0 (inserted_from p h), inserted_distinct p (λ h. n (past h)) d.1)

  distinct_inserted : {x : A} {l k : List A} → Inserted x l k → Distinct k → (¬ In x l) × Distinct l
  distinct_inserted front d = d
  distinct_inserted {x} (later {y = y} {l = l} p) d = both (distinct_inserted p d.1)
    where
      other : ¬ In x l → In x (y ∷ l) → ⊥
      other n (at e) = d.0 (rw e at (inserted_new p))
      other n (past h) = n h

      both : (¬ In x l) × Distinct l → (¬ In x (y ∷ l)) × Distinct (y ∷ l)
      both t = (other t.0, (λ h. d.0 (inserted_old p h), t.1))

  -- a member stands somewhere
  in_inserted : {x : A} {k : List A} → In x k → (l : List A) × Inserted x l k
  in_inserted (at {l = l} e) = (l, rw e front)
  in_inserted (past {y = y} h) = let t = in_inserted h in (y ∷ t.0, later t.1)

  -- the same members, each once
  pub shuffle : (l k : List A) → Distinct l → Distinct k → ((x : A) → In x l → In x k) → ((x : A) → In x k → In x l)
      → Shuffled l k
  shuffle [] [] d e f g = none
  shuffle [] (y ∷ k) d e f g = absurd (not_nil (g y (at refl)))
  shuffle (x ∷ l) k d e f g = rest (in_inserted (f x (at refl))) (shuffle l)
    where
      rest : (t : (h : List A) × Inserted x h k)
          → ((h : List A) → Distinct l → Distinct h → ((y : A) → In y l → In y h) → ((y : A) → In y h → In y l)
          → Shuffled l h)
          → Shuffled (x ∷ l) k
      rest t ih = more (ih t.0 d.1 other.1 to from) t.1
        where
          other : (¬ In x t.0) × Distinct t.0
          other = distinct_inserted t.1 e

          to : (y : A) → In y l → In y t.0
          to y h = ⊎_elim (λ q. absurd (d.0 (rw q at h))) (λ i. i) (inserted_from t.1 (f y (past h)))

          from : (y : A) → In y t.0 → In y l
          from y h = ⊎_elim (λ q. absurd (other.0 (rw q at h))) (λ i. i) (in_cases (g y (inserted_old t.1 h)))

  -- what shuffling keeps
  pub shuffled_in : {l k : List A} → Shuffled l k → {x : A} → In x l → In x k
  shuffled_in none h = elim h [ ]
  shuffled_in (more s p) (at e) = rw e (inserted_new p)
  shuffled_in (more s p) (past h) = inserted_old p (shuffled_in s h)

  pub shuffled_from : {l k : List A} → Shuffled l k → {x : A} → In x k → In x l
  shuffled_from none h = h
  shuffled_from (more s p) h = side (inserted_from p h) (shuffled_from s)
    where
      side : {x y : A} {l k : List A} → (y ≡ x) ⊎ In y k → (In y k → In y l) → In y (x ∷ l)
      side (inl e) f = at e
      side (inr i) f = past (f i)

  pub shuffled_distinct : {l k : List A} → Shuffled l k → Distinct l → Distinct k
  shuffled_distinct none d = d
  shuffled_distinct (more s p) d =
      inserted_distinct p (λ h. d.0 (shuffled_from s h)) (shuffled_distinct s d.1)

  -- one member put in behind b, and a whole list
  inserted_behind : {x : A} (b c : List A) → Inserted x (b ++ c) (b ++ x ∷ c)
  inserted_behind [] c = front
  inserted_behind (y ∷ b) c = later (inserted_behind b c)

  pub shuffled_behind : (a b c : List A) {l : List A} → Shuffled l (b ++ c) → Shuffled (a ++ l) (b ++ (a ++ c))
  shuffled_behind [] b c s = s
  shuffled_behind (x ∷ a) b c s = more (shuffled_behind a b c s) (inserted_behind b (a ++ c))
