-- Members of lists: of a list of one, in two lists put together; lists without a member twice; and, of numbers, whether
-- one is a member.
use Prim.Native.Nat.{ℕ}
use mathlib.Core.Path.{◌≡◌, refl}
use mathlib.Core.Logic.{◌⊎◌, inl, inr, ⊎_elim}
use mathlib.Core.List.{List, [], ◌∷◌, ◌++◌}
use native.Mathlib.Decide.{ℕ_discrete}
use Rattle.arrays.specs.Members.{In, at, past, Distinct}

module _ {A : Type 0} where
  pub not_nil : {x : A} → ¬ In x []
  not_nil h = elim h [ ]

  pub in_cases : {x y : A} {l : List A} → In x (y ∷ l) → (x ≡ y) ⊎ In x l
  in_cases (at e) = inl e
  in_cases (past h) = inr h

  pub in_one : {x y : A} → In x (y ∷ []) → x ≡ y
  in_one (at e) = e
  in_one (past h) = absurd (not_nil h)

  -- two lists, one after the other
  pub in_left : {x : A} {l : List A} (m : List A) → In x l → In x (l ++ m)
  in_left m (at e) = at e
  in_left m (past h) = past (in_left m h)

  pub in_right : {x : A} (l : List A) {m : List A} → In x m → In x (l ++ m)
  in_right [] h = h
  in_right (y ∷ l) h = past (in_right l h)

  pub in_either : {x : A} (l : List A) {m : List A} → In x (l ++ m) → In x l ⊎ In x m
  in_either [] h = inr h
  in_either (y ∷ l) (at e) = inl (at e)
  in_either {x} (y ∷ l) {m} (past h) = ⊎_elim (λ i. inl (past i)) inr (in_either l h)

  pub distinct_join : (l m : List A) → Distinct l → Distinct m → ((x : A) → In x l → In x m → ⊥) → Distinct (l ++ m)
  distinct_join [] m d e n = e
  distinct_join (x ∷ l) m d e n = (
    λ h. ⊎_elim d.0 (n x (at refl)) (in_either l h),
    distinct_join l m d.1 e (λ y a b. n y (past a) b),
  )

  pub distinct_snoc : (l : List A) (c : A) → Distinct l → ¬ In c l → Distinct (l ++ (c ∷ []))
  distinct_snoc l c d n = distinct_join l (c ∷ []) d (not_nil, tt) (λ x i h. n (rw (in_one h) at i))

  -- the two parts of a list without a member twice
  pub record Parts (l m : List A) : Type 0 where
    pub left : Distinct l
    pub right : Distinct m
    pub none : (x : A) → In x l → In x m → ⊥

  pub distinct_parts : (l m : List A) → Distinct (l ++ m) → Parts l m
  distinct_parts [] m d = record { left = tt; right = d; none = λ x i j. not_nil i }
  distinct_parts (y ∷ l) m d = more (distinct_parts l m d.1)
    where
      more : Parts l m → Parts (y ∷ l) m
      more p = record { left = (λ i. d.0 (in_left m i), p.left); right = p.right; none = none }
        where
          none : (x : A) → In x (y ∷ l) → In x m → ⊥
          none x (at e) j = d.0 (in_right l (rw e at j))
          none x (past i) j = p.none x i j

  -- begun at another place
  pub distinct_turn : (l m : List A) → Distinct (l ++ m) → Distinct (m ++ l)
  distinct_turn l m d =
      let p = distinct_parts l m d in
      distinct_join m l p.right p.left (λ x i j. p.none x j i)

-- of numbers it is decided
unfoldable pub in? : (x : ℕ) (l : List ℕ) → Dec (In x l)
in? x [] = no not_nil
in? x (y ∷ l) = pick (ℕ_discrete x y) (in? x l)
  where
    neither : ¬ (x ≡ y) → ¬ In x l → ¬ In x (y ∷ l)
    neither n m (at e) = n e
    neither n m (past h) = m h

    pick : Dec (x ≡ y) → Dec (In x l) → Dec (In x (y ∷ l))
    pick (yes e) d = yes (at e)
    pick (no n) (yes h) = yes (past h)
    pick (no n) (no m) = no (neither n m)
