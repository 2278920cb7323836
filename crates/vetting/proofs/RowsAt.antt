-- The rows of a list of entries, one by one: the row of an entry stands where the entry does. A row, of an entry that
-- fits it, tells which entry it is, and its first four bytes which pair. And a list of bytes each of whose rows is an
-- entry's is the rows of those entries.
use Prim.Native.Nat.{ℕ, zero, suc, ◌+◌, ◌*◌, ◌<◌}
use mathlib.Core.Path.{◌≡◌, refl, sym, ap, ◌∙◌}
use mathlib.Core.List.{List, [], ◌∷◌, ◌++◌, append-nil}
use native.Mathlib.Omega.{arith}
use lib.ListN.{length, get_or, take, drop, take-append-drop, length-drop}
use lib.Seq.{get_or-take, take_at, take-take, drop_at, drop-drop}
use Rattle.table.specs.Bytes.{u16_at}
use Rattle.arrays.specs.Members.{In, at, past, Distinct}
use Rattle.arrays.proofs.Members.{not_nil}
use Rattle.pages.specs.Listing.{Entry}
use Rattle.pages.specs.Bytes.{row, rows, entry_at}
use Rattle.pages.specs.work.RowFits.{RowFits}
use Rattle.pages.proofs.Rows.{row_length}
use Rattle.pages.proofs.Back.{low_back, high_back, entry_back}
use Rattle.vetting.specs.Vets.{list_row, list_pair}

-- e stands at place i
pub data StandsAt (e : Entry) : List Entry → ℕ → Type 0 where
  here : {l : List Entry} → StandsAt e (e ∷ l) zero
  there : {x : Entry} {l : List Entry} {i : ℕ} → StandsAt e l i → StandsAt e (x ∷ l) (suc i)

pub stands_some : (l : List Entry) (i : ℕ) → i < length l → (e : Entry) × StandsAt e l i
stands_some [] i h = absurd (omega arith)
stands_some (x ∷ l) zero h = (x, here)
stands_some (x ∷ l) (suc i) h = let t = stands_some l i (omega arith) in (t.0, there t.1)

pub stands_in : {e : Entry} {l : List Entry} {i : ℕ} → StandsAt e l i → In e l
stands_in here = at refl
stands_in (there h) = past (stands_in h)

pub stands_low : {e : Entry} {l : List Entry} {i : ℕ} → StandsAt e l i → i < length l
stands_low here = omega arith
stands_low (there h) = omega (arith, stands_low h)

pub in_stands : {e : Entry} {l : List Entry} → In e l → (i : ℕ) × StandsAt e l i
in_stands {e} (at {l = l} q) = (zero, rw q here)
in_stands (past h) = let t = in_stands h in (suc t.0, there t.1)

-- in a list without an entry twice it stands at one place, and a list in which each stands at one place is such
stands_once_at : {e f : Entry} {l : List Entry} {i j : ℕ} → Distinct l → StandsAt e l i → StandsAt f l j → e ≡ f
    → i ≡ j
stands_once_at d here here q = refl
stands_once_at d here (there k) q = absurd (d.0 (rw (sym q) at (stands_in k)))
stands_once_at d (there h) here q = absurd (d.0 (rw q at (stands_in h)))
stands_once_at d (there h) (there k) q = ap suc (stands_once_at d.1 h k q)

pub stands_once : {e : Entry} {l : List Entry} {i j : ℕ} → Distinct l → StandsAt e l i → StandsAt e l j → i ≡ j
stands_once d h k = stands_once_at d h k refl

pub once_stands : (l : List Entry) → ((e : Entry) (i j : ℕ) → StandsAt e l i → StandsAt e l j → i ≡ j) → Distinct l
once_stands [] f = tt
once_stands (x ∷ l) f = (
  λ h. let t = in_stands h in clash t.0 (f x zero (suc t.0) here (there t.1)),
  once_stands l (λ e i j h k. before (f e (suc i) (suc j) (there h) (there k))),
)
  where
    clash : (i : ℕ) → zero ≡ suc i → ⊥
    clash i q = omega arith

    before : {i j : ℕ} → suc i ≡ suc j → i ≡ j
    before q = omega arith

-- one row on
row_next : (s : List ℕ) (i : ℕ) → list_row (drop 16 s) i ≡ list_row s (suc i)
row_next s i =
    let e : 16 + 16 * i ≡ 16 * suc i = omega arith in
    ap (take 16) (drop-drop (16 * i) 16 s ∙ ap (λ k. drop k s) e)

rows_tail : (x : Entry) (l : List Entry) → drop 16 (rows (x ∷ l)) ≡ rows l
unfolding rows
rows_tail x l = drop_at (row x) (rows l) 16 (row_length x)

pub stands_row : {e : Entry} {l : List Entry} {i : ℕ} → StandsAt e l i → list_row (rows l) i ≡ row e
unfolding rows
stands_row {e} (here {l}) = take_at (row e) (rows l) 16 (row_length e)
stands_row {e} (there {x} {l} {i} h) =
    sym (row_next (rows (x ∷ l)) i) ∙ ap (λ s. list_row s i) (rows_tail x l) ∙ stands_row h

-- a row's pair is in its first four bytes
pub pair_first : (s : List ℕ) (i : ℕ) → list_pair s i ≡ take 4 (list_row s i)
pair_first s i = sym (take-take 4 16 (drop (16 * i) s) (omega arith))

pub stands_pair : {e : Entry} {l : List Entry} {i : ℕ} → StandsAt e l i → list_pair (rows l) i ≡ take 4 (row e)
stands_pair {l = l} {i} h = pair_first (rows l) i ∙ ap (take 4) (stands_row h)

-- those four bytes tell the pair
module _ {e : Entry} (a : RowFits e) where
  byte : (i : ℕ) → i < 4 → get_or (take 4 (row e)) i 0 ≡ get_or (row e ++ []) i 0
  byte i h = get_or-take 4 (row e) i 0 h ∙ ap (λ (l : List ℕ). get_or l i 0) (sym (append-nil (row e)))

  low_told : u16_at (take 4 (row e)) 0 ≡ e.low
  low_told = omega (arith, byte 0 (omega arith), byte 1 (omega arith), low_back [] e [] 0 refl a.low)

  high_told : u16_at (take 4 (row e)) 2 ≡ e.high
  high_told = omega (arith, byte 2 (omega arith), byte 3 (omega arith), high_back [] e [] 0 refl a.high)

-- one row, one entry; one pair of bytes, one pair
module _ {e f : Entry} (a : RowFits e) (b : RowFits f) where
  pub row_one : row e ≡ row f → e ≡ f
  row_one q =
      sym (entry_back [] e [] 0 refl a) ∙ ap (λ (l : List ℕ). entry_at (l ++ []) 0) q ∙ entry_back [] f [] 0 refl b

  pub pair_one : take 4 (row e) ≡ take 4 (row f) → (e.low ≡ f.low) × (e.high ≡ f.high)
  pair_one q = (
    sym (low_told a) ∙ ap (λ (l : List ℕ). u16_at l 0) q ∙ low_told b,
    sym (high_told a) ∙ ap (λ (l : List ℕ). u16_at l 2) q ∙ high_told b,
  )

-- m rows, each of which is the row of an entry with P
pub shown : {P : Entry → Type 0} (m : ℕ) (s : List ℕ) → length s ≡ 16 * m
    → ((i : ℕ) → i < m → (e : Entry) × P e × (list_row s i ≡ row e))
    → (k : List Entry) × (s ≡ rows k) × (length k ≡ m) × ((e : Entry) → In e k → P e)
unfolding rows
shown zero [] l f = ([], refl, refl, λ e h. absurd (not_nil h))
shown zero (x ∷ s) l f = absurd (omega arith)
shown {P} (suc m) s l f =
    let t = f zero (omega arith) in
    let u = shown {P = P} m (drop 16 s) (omega (arith, length-drop 16 s))
    (λ i h. let v = f (suc i) (omega arith) in (v.0, v.1, row_next s i ∙ v.2)) in (
      t.0 ∷ u.0,
      sym (take-append-drop 16 s) ∙ cc (t.2, u.1),
      ap suc u.2,
      λ e h. side t.0 t.1 u.0 u.3 e h,
    )
  where
    side : (x : Entry) → P x → (k : List Entry) → ((e : Entry) → In e k → P e) → (e : Entry) → In e (x ∷ k) → P e
    side x p k g e (at q) = rw q p
    side x p k g e (past h) = g e h
