-- YES EXACTLY IF SORTED BY PAIR THE LIST IS THE LISTING: the rows of its entries in some order, each once and nothing
-- else. For any entries P that have a listing and fit a row. Where every row is good the list is the rows of entries
-- with P, none of them twice, for a row that repeats an entry repeats its pair; and all are there. The other way round,
-- no two entries of a listing have one pair, so no row of it in any order repeats an earlier one's.
-- So the listing cut into pages is a yes in any order of the pages, and a list of no rows exactly if the listing is
-- empty. And up to the first row at fault a repeat of an earlier one's pair is a repeat of its 16 bytes.
use Prim.Native.Nat.{ℕ, ◌*◌, ◌/◌, ◌%◌, ◌<◌}
use mathlib.Core.Path.{◌≡◌, sym, ap, ◌∙◌}
use mathlib.Core.Logic.{◌↔◌, ◌≢◌}
use mathlib.Core.List.{List, [], flatten}
use native.Mathlib.Omega.{arith}
use native.Mathlib.Decide.{dec_lt}
use lib.ListN.{length, take}
use Rattle.arrays.specs.Members.{In, Distinct}
use Rattle.arrays.proofs.Members.{not_nil}
use Rattle.pages.specs.Listing.{Entry, Listing}
use Rattle.pages.specs.Bytes.{row, rows}
use Rattle.pages.specs.work.RowFits.{RowFits}
use Rattle.pages.proofs.Rising.{rising_distinct, rising_pair}
use Rattle.pages.proofs.Rows.{rows_length}
use Rattle.pages.proofs.Listings.{listing_none}
use Rattle.vetting.specs.Shuffled.{Shuffled}
use Rattle.vetting.specs.Vets.{list_row, list_pair, GoodRow, There, Vets}
use Rattle.vetting.specs.declared.Verdict.TheVariants.{Yes}
use Rattle.vetting.proofs.Pieces.{in_any_order}
use Rattle.vetting.proofs.RowsAt.{
  StandsAt,
  stands_some,
  stands_in,
  stands_low,
  in_stands,
  stands_once,
  once_stands,
  stands_row,
  pair_first,
  stands_pair,
  row_one,
  pair_one,
  shown,
}
use Rattle.vetting.proofs.Shuffles.{shuffle, shuffled_in, shuffled_from, shuffled_distinct}

-- Good rows have different bytes, since their pairs have
rows_apart : {P : Entry → Type 0} {s : List ℕ} {m : ℕ} → ((i : ℕ) → i < m → GoodRow P s i) → (i j : ℕ) → i < m → j < m
    → list_row s i ≡ list_row s j → i ≡ j
rows_apart {s = s} g i j a b q = pick (dec_lt i j) (dec_lt j i)
  where
    same : list_pair s i ≡ list_pair s j
    same = pair_first s i ∙ ap (take 4) q ∙ sym (pair_first s j)

    pick : Dec (i < j) → Dec (j < i) → i ≡ j
    pick (yes h) k = absurd ((g j b).new i h same)
    pick (no h) (yes k) = absurd ((g i a).new j k (sym same))
    pick (no h) (no k) = omega arith

-- Of a list of entries, whose rows these are
rows_there : (k : List Entry) (e : Entry) → In e k → There (rows k) (length k) e
rows_there k e h =
    let t = in_stands h in
    record { place = t.0; within = stands_low t.1; shows = stands_row t.1 }

module _ {P : Entry → Type 0} (k : List Entry) where
  rows_distinct : ((i : ℕ) → i < length k → GoodRow P (rows k) i) → Distinct k
  rows_distinct g =
      once_stands k (λ e i j h l. rows_apart g i j (stands_low h) (stands_low l) (stands_row h ∙ sym (stands_row l)))

  module _ (fits : (e : Entry) → P e → RowFits e) (sound : (e : Entry) → In e k → P e) where
    there_in : (e : Entry) → P e → There (rows k) (length k) e → In e k
    there_in e p t =
        let u = stands_some k t.place t.within in
        let i = stands_in u.1 in
        rw (row_one (fits u.0 (sound u.0 i)) (fits e p) (sym (stands_row u.1) ∙ t.shows)) at i

    rows_good : Distinct k
        → ((e f : Entry) → In e k → In f k → e.low ≡ f.low → e.high ≡ f.high → e ≡ f)
        → (i : ℕ) → i < length k → GoodRow P (rows k) i
    rows_good d one i h =
        let u = stands_some k i h in
        record {
          entry = u.0;
          belongs = sound u.0 (stands_in u.1);
          shows = stands_row u.1;
          new = λ j l q. again u.0 u.1 j l (stands_some k j (omega arith)) q;
        }
      where
        again : (e : Entry) → StandsAt e k i → (j : ℕ) → j < i → (t : (f : Entry) × StandsAt f k j)
            → list_pair (rows k) j ≡ list_pair (rows k) i → ⊥
        again e a j l t q =
            let b = stands_in t.1 in
            let c = stands_in a in
            let p = pair_one (fits t.0 (sound t.0 b)) (fits e (sound e c))
            (sym (stands_pair t.1) ∙ q ∙ stands_pair a) in
            omega (arith, stands_once d (rw (one t.0 e b c p.0 p.1) at t.1) a)

-- THE THEOREM, of entries P that fit a row, l being their listing
module _ {P : Entry → Type 0} {l : List Entry} (fits : (e : Entry) → P e → RowFits e) (L : Listing P l) where
  -- a yes is of the listing's rows in some order
  yes_shuffled : (s : List ℕ) (m : ℕ) → length s ≡ 16 * m → Vets P s m Yes
      → (k : List Entry) × Shuffled l k × (s ≡ rows k)
  yes_shuffled s m size v =
      let u = shown {P = P} m s size (λ i h. let g = v.0 i h in (g.entry, g.belongs, g.shows)) in
      (u.0, made u.0 u.1 u.2 u.3, u.1)
    where
      made : (k : List Entry) → s ≡ rows k → length k ≡ m → ((e : Entry) → In e k → P e) → Shuffled l k
      made k e f sound =
          let w : Vets P (rows k) (length k) Yes = rw (f, ← e) v in
          shuffle l k (rising_distinct L.rising) (rows_distinct k w.0)
          (λ e h. there_in k fits sound e (L.sound e h) (w.1 e (L.sound e h)))
          (λ e h. L.complete e (sound e h))

  -- and the listing's rows in any order are a yes
  shuffled_yes : {k : List Entry} → Shuffled l k → (s : List ℕ) (m : ℕ) → length s ≡ 16 * m → s ≡ rows k
      → Vets P s m Yes
  shuffled_yes {k} h s m size e =
      let many : m ≡ length k = omega (arith, rows_length k, ap length e, size) in
      rw (e, many) (
        rows_good k fits (λ e i. L.sound e (shuffled_from h i)) (shuffled_distinct h (rising_distinct L.rising))
            (λ e f i j. rising_pair L.rising e f (shuffled_from h i) (shuffled_from h j)),
        λ e p. rows_there k e (shuffled_in h (L.complete e p)),
      )

  pub yes_exactly : (s : List ℕ) (m : ℕ) → length s ≡ 16 * m
      → Vets P s m Yes ↔ ((k : List Entry) × Shuffled l k × (s ≡ rows k))
  yes_exactly s m size = (yes_shuffled s m size, λ u. shuffled_yes u.1 s m size u.2)

  -- Pages of whole rows, which joined are the listing, are whole rows and a yes in any order.
  pub any_order_yes : (pages others : List (List ℕ)) → rows l ≡ flatten pages
      → ((page : List ℕ) → In page pages → length page % 16 ≡ 0) → Shuffled pages others
      → (length (flatten others) % 16 ≡ 0) × Vets P (flatten others) (length (flatten others) / 16) Yes
  any_order_yes pages others joined whole s =
      let u = in_any_order s l joined whole in
      let size : length (flatten others) ≡ 16 * length u.0 = ap length u.2 ∙ rows_length u.0 in
      (omega (arith, size), shuffled_yes u.1 (flatten others) _ (omega (arith, size)) u.2)

  -- A row of an entry that names the pair of an earlier good row has that row's 16 bytes.
  same_row : (s : List ℕ) (i j : ℕ) (e : Entry) → P e → list_row s i ≡ row e → GoodRow P s j
      → list_pair s j ≡ list_pair s i → list_row s j ≡ list_row s i
  same_row s i j e p shows g q =
      let f = g.entry in
      let pairs : take 4 (row f) ≡ take 4 (row e) = cc (pair_first s i, pair_first s j, g.shows) in
      let one = pair_one (fits f g.belongs) (fits e p) pairs in
      let same = rising_pair L.rising f e (L.complete f g.belongs) (L.complete e p) one.0 one.1 in
      g.shows ∙ ap row same ∙ sym shows

  -- A REPEAT OF AN EARLIER ROW: where all rows before it are good, a row is good exactly if it is the row of an entry
  -- and no earlier row has its 16 bytes.
  pub repeats_exactly : (s : List ℕ) (i : ℕ) → ((j : ℕ) → j < i → GoodRow P s j)
      → GoodRow P s i
      ↔ (((e : Entry) × P e × (list_row s i ≡ row e)) × ((j : ℕ) → j < i → list_row s j ≢ list_row s i))
  repeats_exactly s i good = (to, from)
    where
      to : GoodRow P s i → ((e : Entry) × P e × (list_row s i ≡ row e)) ×
          ((j : ℕ) → j < i → list_row s j ≢ list_row s i)
      to g = (
        (g.entry, g.belongs, g.shows),
        λ j h q. g.new j h (pair_first s j ∙ ap (take 4) q ∙ sym (pair_first s i)),
      )

      from : ((e : Entry) × P e × (list_row s i ≡ row e)) × ((j : ℕ) → j < i → list_row s j ≢ list_row s i)
          → GoodRow P s i
      from t =
          let u = t.0 in
          record {
            entry = u.0;
            belongs = u.1;
            shows = u.2;
            new = λ j h q. t.1 j h (same_row s i j u.0 u.1 u.2 (good j h) q);
          }

-- A LIST OF NO ROWS is a yes exactly if nothing is listed.
pub empty_exactly : (P : Entry → Type 0) (s : List ℕ) → Vets P s 0 Yes ↔ Listing P []
empty_exactly P s = (
  λ v. listing_none (λ e p. let t = v.1 e p in absurd (omega (arith, t.within))),
  λ L. (λ i h. absurd (omega arith), λ e p. absurd (not_nil (L.complete e p))),
)
