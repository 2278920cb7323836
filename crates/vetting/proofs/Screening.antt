-- From the passes to the verdict, of any entries that fit their rows and are one for a pair. Before the blocks every
-- row up to the first foreign one belongs; block after block the rows whose first node has been tested repeat no pair,
-- and the row that ends them, if one does, is not good. When all first nodes have been tested the rows before it are
-- good; and where none ends them, a pair is named by a row exactly if its entry is there.
use Prim.Native.Nat.{ℕ, ◌*◌, ◌≤◌, ◌<◌}
use mathlib.Core.Path.{◌≡◌, refl, sym, ap, ◌∙◌}
use mathlib.Core.List.{List}
use native.Mathlib.Omega.{arith}
use native.Mathlib.Decide.{dec_lt}
use lib.ListN.{length}
use Rattle.pages.specs.Listing.{Entry, Before, first, second}
use Rattle.pages.specs.work.RowFits.{RowFits}
use Rattle.table.specs.Bytes.{u16_at}
use Rattle.vetting.specs.Vets.{list_pair, GoodRow, There, Vets}
use Rattle.vetting.specs.declared.Verdict.TheVariants.{Yes, Fault, Missing}
use Rattle.vetting.specs.work.Foreign.{Belongs, FirstForeign}
use Rattle.vetting.specs.work.Lines.{InBlock, LineDone}
use Rattle.vetting.specs.declared.lacks.Lack.{Lack}
use Rattle.vetting.specs.work.Repeats.{low_of, high_of, Named, NamePairs, Repeats}
use Rattle.vetting.specs.work.Lacks.{Lacks, Covered, CoveredBelow, FirstOf}
use Rattle.vetting.specs.work.Screened.{Screened}
use Rattle.vetting.proofs.LineLaws.{line_some, line_half, in_block, block_or_done}
use Rattle.vetting.proofs.RowLaws.{row_low, row_high, row_names, same_front, low_read, high_read}

-- entries of pairs below n, lower first, that fit their rows, one for a pair
pub record Paired (P : Entry → Type 0) (n : ℕ) : Type 0 where
  pub fits : (e : Entry) → P e → RowFits e
  pub one : (e f : Entry) → P e → P f → e.low ≡ f.low → e.high ≡ f.high → e ≡ f
  pub pair : (e : Entry) → P e → e.low < e.high
  pub node : (e : Entry) → P e → e.high < n

named_as : {s : List ℕ} {m a b c d : ℕ} → a ≡ c → b ≡ d → Named s m a b → Named s m c d
named_as p q k = record { place = k.place; within = k.within; first = k.first ∙ p; second = k.second ∙ q }

pub covered_at : {P : Entry → Type 0} {Found : ℕ → ℕ → Type 0} {u a v : ℕ} → u ≡ a → Covered P Found a v
    → Covered P Found u v
covered_at e k = rw e k

-- all first nodes tested
all_done : {n from a : ℕ} → n ≤ 2 * from → a < n → LineDone n from a
all_done h b t l = omega (arith, line_half b l)

module _ {P : Entry → Type 0} {n : ℕ} (Q : Paired P n) (s : List ℕ) where
  -- a row that belongs names its entry's pair
  pub names_low : {i : ℕ} (b : Belongs P s i) → low_of s i ≡ b.entry.low
  names_low {i} b = row_low s i b.entry b.shows (Q.fits b.entry b.belongs)

  pub names_high : {i : ℕ} (b : Belongs P s i) → high_of s i ≡ b.entry.high
  names_high {i} b = row_high s i b.entry b.shows (Q.fits b.entry b.belongs)

  -- the first node of an entry, and of a row that belongs
  first_node : (e : Entry) → P e → e.low < n
  first_node e p = omega (arith, Q.pair e p, Q.node e p)

  row_node : {i : ℕ} → Belongs P s i → low_of s i < n
  row_node b = omega (arith, names_low b, first_node b.entry b.belongs)

  pub belong_pairs : {r : ℕ} → 16 * r ≤ length s → ((i : ℕ) → i < r → Belongs P s i) → NamePairs s n r
  belong_pairs l b = record {
    long = l;
    pair = λ i h. let v = b i h in omega (arith, names_low v, names_high v, Q.pair v.entry v.belongs);
    node = λ i h. let v = b i h in omega (arith, names_high v, Q.node v.entry v.belongs);
  }

  -- rows that belong name one pair exactly if the four bytes that name it are the same
  same_names : {i j : ℕ} → Belongs P s i → Belongs P s j → low_of s j ≡ low_of s i → high_of s j ≡ high_of s i
      → list_pair s j ≡ list_pair s i
  same_names {i} {j} a b e f =
      row_names s j b.entry b.shows
      ∙ same_front b.entry a.entry (sym (names_low b) ∙ e ∙ names_low a) (sym (names_high b) ∙ f ∙ names_high a)
      ∙ sym (row_names s i a.entry a.shows)

  names_same : (i j : ℕ) → list_pair s j ≡ list_pair s i → (low_of s j ≡ low_of s i) × (high_of s j ≡ high_of s i)
  names_same i j e = (
    low_read s j ∙ ap (λ t. u16_at t 0) e ∙ sym (low_read s i),
    high_read s j ∙ ap (λ t. u16_at t 2) e ∙ sym (high_read s i),
  )

  -- a row that belongs is good exactly if it names no earlier one's pair
  good_row : {i : ℕ} → Belongs P s i → ¬ Named s i (low_of s i) (high_of s i) → GoodRow P s i
  good_row {i} b f = record {
    entry = b.entry;
    belongs = b.belongs;
    shows = b.shows;
    new = λ j h e. let k = names_same i j e in f (record { place = j; within = h; first = k.0; second = k.1 });
  }

  not_good : {r i : ℕ} → ((j : ℕ) → j < r → Belongs P s j) → i < r → Named s i (low_of s i) (high_of s i)
      → ¬ GoodRow P s i
  not_good {r} {i} b h k g =
      g.new k.place k.within
      (same_names (b i h) (b k.place (omega (arith, k.within))) k.first k.second)

  -- before the blocks
  pub screened_none : {m r : ℕ} → FirstForeign P s m r → Screened P s m (LineDone n 0) r
  screened_none F = record {
    within = F.within;
    belong = F.belong;
    fresh = λ i h d. absurd (none (row_node (F.belong i h)) d);
    bad = λ h g. F.foreign h (record { entry = g.entry; belongs = g.belongs; shows = g.shows });
  }
    where
      none : {a : ℕ} → a < n → LineDone n 0 a → ⊥
      none b d = let t = line_some b in omega (arith, d t.0 t.1)

  -- one block more
  pub screened_next : {m r x from end : ℕ} {bits : List ℕ} → Screened P s m (LineDone n from) r
      → Repeats s n from end r x bits → Screened P s m (LineDone n end) x
  screened_next {m} {r} {x} {from} {end} T R = record {
    within = omega (arith, T.within, R.within);
    belong = λ i h. T.belong i (omega (arith, R.within));
    fresh = fresh;
    bad = λ h. bad h (dec_lt x r);
  }
    where
      fresh : (i : ℕ) → i < x → LineDone n end (low_of s i) → ¬ Named s i (low_of s i) (high_of s i)
      fresh i h d = pick (in_block {from = from} {end = end} node)
        where
          node : low_of s i < n
          node = row_node (T.belong i (omega (arith, h, R.within)))

          pick : Dec (InBlock n from end (low_of s i)) → ¬ Named s i (low_of s i) (high_of s i)
          pick (yes b) = R.seen.fresh i h b
          pick (no b) = T.fresh i (omega (arith, R.within)) (block_or_done d node b)

      bad : x < m → Dec (x < r) → ¬ GoodRow P s x
      bad h (yes l) = not_good T.belong l (R.again l)
      bad h (no l) = let e : x ≡ r = omega (arith, R.within) in rw e (T.bad (omega arith))

  module _ {m r from : ℕ} (over : n ≤ 2 * from) (T : Screened P s m (LineDone n from) r) where
    good_before : (i : ℕ) → i < r → GoodRow P s i
    good_before i h =
        let v = T.belong i h in
        good_row v (T.fresh i h (all_done over (row_node v)))

    pub vets_fault : r < m → Vets P s m (Fault r)
    vets_fault h = (h, good_before, T.bad h)

    module _ (full : r ≡ m) where
      all_good : (i : ℕ) → i < m → GoodRow P s i
      all_good i h = good_before i (omega arith)

      -- a pair that a row names is that of the row's entry
      named_there : (e : Entry) → P e → Named s m e.low e.high → There s m e
      named_there e p k =
          let v = T.belong k.place (omega (arith, k.within)) in
          let q = Q.one v.entry e v.belongs p (sym (names_low v) ∙ k.first) (sym (names_high v) ∙ k.second) in
          record { place = k.place; within = k.within; shows = rw (← q) v.shows }

      there_named : (e : Entry) → P e → There s m e → Named s m e.low e.high
      there_named e p t =
          let b : Belongs P s t.place = record { entry = e; belongs = p; shows = t.shows } in
          record { place = t.place; within = t.within; first = names_low b; second = names_high b }

      covered : (e : Entry) → P e → Covered P (Named s m) e.low e.high → There s m e
      covered e p c = named_there e p (c.found e p refl refl)

      done_low : (e : Entry) → P e → LineDone n from e.low
      done_low e p = all_done over (first_node e p)

      pub vets_yes : CoveredBelow P (Named s m) n (LineDone n from) n → Vets P s m Yes
      vets_yes F = (
        all_good,
        λ e p. covered e p (F e.low (first_node e p) (done_low e p) e.high (Q.pair e p) (Q.node e p)),
      )

      module _ {k : Lack} (F : FirstOf P (Named s m) n (LineDone n from) k) where
        L : Lacks P (Named s m) k.low k.high
        L = F.first.here

        named : Named s m L.entry.low L.entry.high → Named s m k.low k.high
        named t = named_as L.low L.high t

        earlier : (e : Entry) → P e → Before e L.entry → Covered P (Named s m) e.low e.high
        earlier e p (first l) =
            F.lines e.low (omega (arith, L.low)) (done_low e p) e.high (Q.pair e p) (Q.node e p)
        earlier e p (second q l) =
            let w : e.low ≡ k.low = q ∙ L.low in
            covered_at w (F.first.before e.high (omega (arith, Q.pair e p)) (omega (arith, L.high)))

        pub vets_missing : Vets P s m (Missing k.low k.high)
        vets_missing = (
          all_good,
          record {
            entry = L.entry;
            belongs = L.belongs;
            absent = λ t. L.unfound (named (there_named L.entry L.belongs t));
            first = λ e p b. covered e p (earlier e p b);
            low_is = sym L.low;
            high_is = sym L.high;
          },
        )
