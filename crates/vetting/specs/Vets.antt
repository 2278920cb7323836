-- Vetting a list of rows against the entries of a listing: yes, the first row at fault, or the first pair missing.
-- Nothing is decoded: a row of the list is compared with the listing's own row of an entry, byte for byte.
use Rattle.std.specs.Prelude.{ℕ, ◌*◌, ◌<◌, ◌≡◌, ◌≢◌, List, take, drop, Result, Ok, Err}
use Rattle.pages.specs.Listing.{Entry, Before}
use Rattle.pages.specs.Bytes.{row}
use Rattle.tree.specs.declared.Refusal.{Refusal}
use Rattle.vetting.specs.declared.Verdict.{Verdict}
use Rattle.vetting.specs.declared.Verdict.TheVariants.{Yes, Fault, Missing}

-- the 16 bytes of row i of a list, and the four of them that name its pair
abbrev pub list_row : List ℕ → ℕ → List ℕ
list_row s i = take 16 (drop (16 * i) s)

abbrev pub list_pair : List ℕ → ℕ → List ℕ
list_pair s i = take 4 (drop (16 * i) s)

-- row i is the row of an entry with P, and no earlier row names the same pair
pub record GoodRow (P : Entry → Type 0) (s : List ℕ) (i : ℕ) : Type 0 where
  pub entry : Entry
  pub belongs : P entry
  pub shows : list_row s i ≡ row entry
  pub new : (j : ℕ) → j < i → list_pair s j ≢ list_pair s i

-- one of the first m rows is the row of e
pub record There (s : List ℕ) (m : ℕ) (e : Entry) : Type 0 where
  pub place : ℕ
  pub within : place < m
  pub shows : list_row s place ≡ row e

-- low and high are the pair of the first entry with P, in pair order, that is not there
pub record FirstMissing (P : Entry → Type 0) (s : List ℕ) (m low high : ℕ) : Type 0 where
  pub entry : Entry
  pub belongs : P entry
  pub absent : ¬ There s m entry
  pub first : (e : Entry) → P e → Before e entry → There s m e
  pub low_is : low ≡ entry.low
  pub high_is : high ≡ entry.high

-- the verdict on the m rows of s: all good and every entry there; or the first row that is not good; or, where all are,
-- the first pair missing
abbrev pub Vets : (Entry → Type 0) → List ℕ → ℕ → Verdict → Type 0
Vets P s m Yes = ((i : ℕ) → i < m → GoodRow P s i) × ((e : Entry) → P e → There s m e)
Vets P s m (Fault i) = (i < m) × ((j : ℕ) → j < i → GoodRow P s j) × ¬ GoodRow P s i
Vets P s m (Missing low high) = ((i : ℕ) → i < m → GoodRow P s i) × FirstMissing P s m low high

-- what vet gives: the verdict, or why none
abbrev pub Vetted : Type 0
Vetted = Result Verdict Refusal

abbrev pub GivesVerdict : (Entry → Type 0) → List ℕ → ℕ → Vetted → Type 0
GivesVerdict P s m (Ok verdict) = Vets P s m verdict
GivesVerdict P s m (Err why) = ⊥
