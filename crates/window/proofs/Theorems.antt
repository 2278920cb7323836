-- WHAT HOLDS OF window AND window_list. The pair found is in the window and no pair in it has more branches; 31 exactly
-- if no pair is in the window; the list's pairs are exactly those with the found pair's count, and the first of them is
-- the found pair; where no pair is in the window the list is empty. A count is the number of the path's branches.
use Prim.Native.Nat.{ℕ, ◌-◌, ◌≤◌}
use mathlib.Core.Path.{◌≡◌, refl, sym, ap}
use mathlib.Core.Logic.{◌↔◌, ◌⊎◌, inl, inr}
use mathlib.Core.List.{List, [], ◌∷◌}
use native.Mathlib.Omega.{arith}
use lib.IntN.{ℤ}
use lib.ListN.{length}
use Rattle.arrays.specs.Members.{In, at}
use Rattle.arrays.proofs.Members.{not_nil, in_cases}
use Rattle.table.specs.Refuse.{refused, passed}
use Rattle.table.specs.Header.{nodes_of, bound_of}
use Rattle.table.proofs.Refusals as refusals
use Rattle.net.specs.Path.{Sum}
use Rattle.net.specs.work.Net.{Net}
use Rattle.tree.specs.Accept.{Accepts, acceptance}
use Rattle.tree.proofs.Begins.{begins_past, begins_rest}
use Rattle.pages.specs.Listing.{Entry, entry, After, first, second, Listing}
use Rattle.pages.proofs.Rising.{rising_head}
use Rattle.ground.specs.PathOf.{PathOf}
use Rattle.window.specs.Window.{
  WindowAnswer,
  Window,
  Proper,
  BranchCount,
  InWindow,
  MostOf,
  window_refusal,
  Picks,
  WindowOf,
  given_most,
}
use Rattle.window.specs.List.{AsMany}
use Rattle.std.specs.Prelude.{Ok, Err}
use Rattle.window.proofs.Counting.{length_of_lem}

-- A COUNT IS THE NUMBER OF BRANCHES on the path
ones_sum : (l : List ℕ) → Sum (λ r. 1) l ≡ length l
ones_sum [] = refl
ones_sum (x ∷ l) = omega (arith, ones_sum l)

pub count_is : (s marks : List ℕ) (n : ℕ) {a b c : ℕ} {w : ℤ} (p : BranchCount s marks n a b c w) → c ≡ length p.rows
count_is s marks n p = omega (arith, p.length, ones_sum p.rows)

abbrev taken : WindowAnswer → ℕ
taken (Ok o) = 1
taken (Err why) = 0

abbrev number_in : WindowAnswer → ℕ
number_in (Ok o) = 0
number_in (Err why) = why.number

module _ (s marks : List ℕ) (w : Window) where
  -- the pairs in the window of the table's net, and those that the list considers
  abbrev pub Inside : Entry → Type 0
  Inside = InWindow s marks (nodes_of s) w

  abbrev pub InList : Entry → Type 0
  InList = AsMany s marks (nodes_of s) w

  -- THE PAIR FOUND. Where nothing is refused, the answer is a pair in the window, no pair in it has more branches, and
  -- none that has as many is earlier
  answer_is : {a b c : ℕ} {x : ℤ} → WindowOf s marks w (given_most a b c x)
      → Net s (nodes_of s) × MostOf Inside (entry a b c x)
  answer_is {a} {b} {c} {x} p =
      let plain : (k r g : ℕ) → window_refusal k r g ≡ given_most a b c x → ⊥ = λ k r g e. omega (arith, ap taken e) in
      let n = begins_past window_refusal s plain p in (
        n.0,
        (refusals.past (plain 31 0 0)
            (refusals.past (plain 30 0 0) (refusals.past (plain 13 0 0) n.1).1).1).1,
      )

  pub found_most : {a b c : ℕ} {x : ℤ} → WindowOf s marks w (given_most a b c x) → MostOf Inside (entry a b c x)
  found_most p = (answer_is p).1

  pub none_more : {a b c : ℕ} {x : ℤ} → WindowOf s marks w (given_most a b c x) → (f : Entry) → Inside f → f.length ≤ c
  none_more p f h = (found_most p).most f h

  -- 31 EXACTLY. An accepted table with a mark for each branch and limits in order is refused by 31 exactly if no pair
  -- is in the window; and by 30 exactly if they are not in order
  module _ (a : Accepts s (acceptance (nodes_of s) (bound_of s))) (m : length marks ≡ nodes_of s - 1) (o : WindowAnswer)
      (p : WindowOf s marks w o) where
    pub thirty_one_exactly : Proper w → (o ≡ window_refusal 31 0 0) ↔ ((e : Entry) → ¬ Inside e)
    thirty_one_exactly k = let g = begins_rest window_refusal s a p in (only o g, if o g)
      where
        if : (o : WindowAnswer) → Picks s (nodes_of s) marks w o → ((e : Entry) → ¬ Inside e)
            → o ≡ window_refusal 31 0 0
        if o (refused c) nothing = absurd (c m)
        if o (passed i (refused c)) nothing = absurd (c k)
        if o (passed i (passed j (refused c))) nothing = refl
        if o (passed i (passed j (passed e g))) nothing = absurd (nothing e.0 e.1)

        only : (o : WindowAnswer) → Picks s (nodes_of s) marks w o → o ≡ window_refusal 31 0 0 → (e : Entry)
            → ¬ Inside e
        only o (refused c) z e q = omega (arith, ap number_in z)
        only o (passed i (refused c)) z e q = omega (arith, ap number_in z)
        only o (passed i (passed j (refused c))) z e q = c (e, q)
        only o (passed i (passed j (passed r g))) z e q = absurd (rw z at g)

    pub thirty_exactly : (o ≡ window_refusal 30 0 0) ↔ (¬ Proper w)
    thirty_exactly = let g = begins_rest window_refusal s a p in (only o g, if o g)
      where
        if : (o : WindowAnswer) → Picks s (nodes_of s) marks w o → ¬ Proper w → o ≡ window_refusal 30 0 0
        if o (refused c) n = absurd (c m)
        if o (passed i (refused c)) n = refl
        if o (passed i (passed j r)) n = absurd (n j)

        only : (o : WindowAnswer) → Picks s (nodes_of s) marks w o → o ≡ window_refusal 30 0 0 → ¬ Proper w
        only o (refused c) z k = omega (arith, ap number_in z)
        only o (passed i (refused c)) z k = c k
        only o (passed i (passed j (refused c))) z k = omega (arith, ap number_in z)
        only o (passed i (passed j (passed r g))) z k = absurd (rw z at g)

  -- THE LIST BESIDE THE PAIR FOUND
  module _ {a b c : ℕ} {x : ℤ} (p : WindowOf s marks w (given_most a b c x)) where
    -- its pairs are exactly those in the window with the count that was found, each with its path's length and weight
    pub same_count : (e : Entry)
        → InList e
        ↔ (PathOf s marks (nodes_of s) e.low e.high e.length e.weight
        × Inside (entry e.low e.high c e.weight))
    same_count e = (to, from)
      where
        m : MostOf Inside (entry a b c x)
        m = found_most p

        to : InList e
            → PathOf s marks (nodes_of s) e.low e.high e.length e.weight
            × Inside (entry e.low e.high c e.weight)
        to h =
            let o = h.path in
            let i : o.count ≡ c = omega (arith, m.most _ o.inside, o.greatest _ m.one) in
            (o.path, rw i at o.inside)

        from : PathOf s marks (nodes_of s) e.low e.high e.length e.weight
            × Inside (entry e.low e.high c e.weight)
            → InList e
        from h =
            record {
              pair = h.1.pair;
              node = h.1.node;
              path = record { path = h.0; count = c; inside = h.1; greatest = m.most };
              short = tt;
              heavy = tt;
            }

    -- and the first of them is the pair that was found
    pub first_is : (whole : List Entry) → Listing InList whole
        → (l : ℕ) × (rest : List Entry) × (whole ≡ entry a b l x ∷ rest)
    first_is whole t = pick whole t (t.complete (entry a b way.0 x) inside)
      where
        m : MostOf Inside (entry a b c x)
        m = found_most p

        way : (l : ℕ) × PathOf s marks (nodes_of s) a b l x
        way = length_of_lem s marks (answer_is p).0 m.one.path

        inside : InList (entry a b way.0 x)
        inside = (same_count (entry a b way.0 x)).1 (way.1, m.one)

        -- the order goes by the nodes alone
        moved : {i j l : ℕ} → After i j (entry a b l x) → After i j (entry a b c x)
        moved (first h) = first h
        moved (second e h) = second e h

        pick : (whole : List Entry) → Listing InList whole → In (entry a b way.0 x) whole
            → (l : ℕ) × (rest : List Entry) × (whole ≡ entry a b l x ∷ rest)
        pick [] t i = absurd (not_nil i)
        pick (y ∷ rest) t i = or (in_cases i)
          where
            or : (entry a b way.0 x ≡ y) ⊎ In (entry a b way.0 x) rest
                → (l : ℕ) × (r : List Entry) × (y ∷ rest ≡ entry a b l x ∷ r)
            or (inl e) = (way.0, rest, rw (sym e) refl)
            or (inr k) =
                absurd
                (m.earliest (entry y.low y.high c y.weight) ((same_count y).0 (t.sound y (at refl))).1 refl
                (moved (rising_head t.rising _ k)))

  -- where no pair is in the window the list is empty
  pub list_empty : ((e : Entry) → ¬ Inside e) → (whole : List Entry) → Listing InList whole → whole ≡ []
  list_empty none [] t = refl
  list_empty none (y ∷ rest) t = absurd (none _ (t.sound y (at refl)).path.inside)
