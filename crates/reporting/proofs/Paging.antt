-- Pages one after the other: the lines of a page are those of its entries; what follows its last row is what the next
-- page begins with, and that has a row; none left over: the last line comes.
use Prim.Native.Nat.{ℕ, suc, ◌+◌, ◌-◌, ◌*◌, ◌/◌, ◌≤◌, ◌<◌}
use mathlib.Core.Path.{◌≡◌, refl, sym, ap, ◌∙◌}
use mathlib.Core.List.{List, [], ◌∷◌, ◌++◌, append_assoc, append-nil}
use native.Mathlib.Omega.{arith}
use lib.IntN.{ℤ, pos}
use lib.ListN.{length, drop, length-append, length-take, take-append-drop}
use lib.Seq.{take_all}
use Rattle.std.proofs.Common.{rules}
use Rattle.std.specs.Prelude.{Ok, Err, IsOk}
use Rattle.table.specs.Bytes.{u16_at}
use Rattle.arrays.specs.Members.{In}
use Rattle.pages.specs.Listing.{Entry, entry, Listing}
use Rattle.pages.specs.Page.{Following}
use Rattle.pages.specs.Paged.{Paged}
use Rattle.pages.specs.work.Calls.{done, again}
use Rattle.pages.specs.Bytes.{rows, entry_at, entries}
use Rattle.pages.specs.work.RowFits.{RowFits}
use Rattle.arrays.proofs.Members.{in_left}
use Rattle.pages.proofs.Listings.{listing_only}
use Rattle.pages.proofs.Rows.{rows_length}
use Rattle.pages.proofs.Back.{rows_back, entries_next}
use Rattle.pages.proofs.Pages.{pages_listing, page_full}
use Rattle.pages.proofs.Calls.{calls_pages}
use Rattle.paging.specs.Paging.{Listed, listed}
use Rattle.listing.specs.Listing.{ListingOf}
use Rattle.listing.proofs.Few.{listing_room, listing_few}
use Rattle.listing.proofs.Only.{listing_page}
use Rattle.ground.proofs.Bounds.{passes_fits}
use Rattle.listing.proofs.Demand3.{answered}
use Rattle.text.specs.work.Put.{Put}
use Rattle.lines.specs.Lines.{pairs_text, total_text}
use Rattle.lines.proofs.Lining.{pairs_append, lines_join, lines_none}
use Rattle.lines.proofs.Lengths.{pairs_some}
use Rattle.reporting.specs.Report.{Rest}
use Rattle.reporting.specs.work.Asked.{ListingReady, Counted, Asked}
use Rattle.reporting.specs.work.Pieces.{Comes, Paging}
use Rattle.reporting.proofs.Coming.{rest_as, comes_before, out_before}

-- a call that is ready is answered by a page
pub ready_taken : {s marks lent bytes : List ℕ} {floor : ℤ} {low high : ℕ} → ListingReady s marks lent
    → (o : Listed) → ListingOf s marks floor low high lent (o, bytes) → IsOk o
ready_taken r (Ok o) p = search rules
ready_taken {s} {marks} {floor = floor} r (Err why) p =
    absurd (answered _ s marks floor r.accepted r.marked r.room p)

pub ready_asked : {s marks lent bytes : List ℕ} {floor : ℤ} {low high written left : ℕ} → ListingReady s marks lent
    → ListingOf s marks floor low high lent (listed written left, bytes)
    → Asked s marks floor low high bytes written left
ready_asked {s} {marks} {lent} {bytes} {floor} {low} {high} {written} {left} r p =
    let n = listing_page _ s marks floor low high lent p in
    record {
      net = n.0;
      lent = lent;
      room = r.room;
      page = n.1;
      inside = listing_room _ s marks floor low high lent p;
      few = listing_few _ s marks floor low high lent p;
    }

module _ {s marks : List ℕ} {floor : ℤ} {low high : ℕ} {bytes : List ℕ} {written left : ℕ}
    (p : Asked s marks floor low high bytes written left) where
  some_fits : (e : Entry) → In e p.page.some → RowFits e
  some_fits e m =
      let g = p.page.page in
      let k : In e g.rows = rw (g.fit, take-append-drop (length p.lent / 16) g.rows)
      at (in_left (drop (length p.lent / 16) g.rows) m) in
      passes_fits s marks p.net (g.all.sound e k).0

  -- the lines of its bytes are those of its entries
  pub asked_lines : pairs_text (entries bytes 0 written) ≡ pairs_text p.page.some
  asked_lines =
      rw (p.page.bytes, p.page.count)
      (ap pairs_text (rows_back p.page.some (drop (16 * length p.page.some) p.lent) some_fits))

  abbrev pub later : List Entry
  later = drop (length p.lent / 16) p.page.page.rows

  pub asked_split : p.page.page.rows ≡ p.page.some ++ later
  asked_split =
      sym
      (ap (λ (l : List Entry). l ++ later) p.page.page.fit
      ∙ take-append-drop (length p.lent / 16) p.page.page.rows)

  pub asked_whole : left ≡ 0 → p.page.page.rows ≡ p.page.some ++ []
  asked_whole z =
      sym
      (append-nil p.page.some ∙ p.page.page.fit
      ∙ take_all (length p.lent / 16) p.page.page.rows
      (omega (
        arith,
        ap length p.page.page.fit,
        length-take (length p.lent / 16) p.page.page.rows,
        p.page.page.rest,
      )))

  pub asked_some : 0 < left → 0 < written
  asked_some z = omega (arith, p.page.count, page_full {room = length p.lent / 16} z p.page.page, p.room)

  -- a call with room for all of a list
  spare : List Entry → List ℕ
  spare r = rows (entry 0 0 0 (pos 0) ∷ r)

  spare_long : (r : List Entry) → length (spare r) ≡ 16 * suc (length r)
  unfolding spare
  spare_long r = rows_length (entry 0 0 0 (pos 0) ∷ r)

  abbrev whole_call : {a b : ℕ} (r : List Entry) → Listing (Following (Counted s marks floor) a b) r
      → Paged (Counted s marks floor) a b (spare r) (length r) 0 (rows r ++ drop (16 * length r) (spare r))
  whole_call r l =
      record {
        some = r;
        page = record {
          rows = r;
          all = l;
          fit = sym (take_all (length (spare r) / 16) r (omega (arith, spare_long r)));
          rest = omega arith;
        };
        count = refl;
        bytes = refl;
      }

  -- what the next page begins with is what is left of this one
  pub asked_follow : 0 < left → (r : List Entry)
      → Listing
      (Following (Counted s marks floor) (u16_at bytes (16 * (written - 1))) (u16_at bytes (16 * (written - 1) + 2))) r
      → p.page.page.rows ≡ p.page.some ++ r
  asked_follow z r l =
      let c = again p.room p.page z (done {old = spare r} (omega (arith, spare_long r)) (whole_call r l)) in
      listing_only p.page.page.all
      (pages_listing
      (calls_pages (λ e q. (omega (arith, q.pair, q.node, p.net.few), omega (arith, q.node, p.net.few))) c))

-- the lines of k rows, from row i on
abbrev lines : List ℕ → ℕ → ℕ → List ℕ
lines rows i k = pairs_text (entries rows i k)

-- the rows from i on, up to e and then up to the end
parts : (rows : List ℕ) (i e count : ℕ) → i ≤ e → e ≤ count → (u : List ℕ)
    → lines rows i (count - i) ++ u ≡ lines rows i (e - i) ++ (lines rows e (count - e) ++ u)
parts rows i e count h k u =
    let a : e - i + (count - e) ≡ count - i = omega arith in
    let b : i + (e - i) ≡ e = omega arith in
    ap (λ (l : List ℕ). l ++ u) (rw (a, b) at (lines_join rows i (e - i) (count - e)))
    ∙ append_assoc (lines rows i (e - i)) (lines rows e (count - e)) u

-- a page whose lines are all to come, with those of what follows it
pub paging_begin : {s marks : List ℕ} {floor : ℤ} {total low high : ℕ} {bytes : List ℕ} {written left at : ℕ}
    (q : Asked s marks floor low high bytes written left)
    → Rest s at (pairs_text q.page.page.rows ++ total_text total)
    → Paging s marks floor total bytes written left 0 at
paging_begin {s} {total = total} {bytes = bytes} {written = written} {at = at} q r =
    record { low = _; high = _; asked = q; most = omega arith; rest = λ l e. lined l e }
  where
    lined : (l : List Entry) → q.page.page.rows ≡ q.page.some ++ l
        → Rest s at (lines bytes 0 (written - 0) ++ (pairs_text l ++ total_text total))
    lined l e =
        let z : written - 0 ≡ written = omega arith in
        rw z
        (rest_as
        (ap (λ (m : List Entry). pairs_text m ++ total_text total) e
        ∙ ap (λ (m : List ℕ). m ++ total_text total) (pairs_append q.page.some l)
        ∙ append_assoc (pairs_text q.page.some) (pairs_text l) (total_text total)
        ∙ ap (λ (m : List ℕ). m ++ (pairs_text l ++ total_text total)) (sym (asked_lines q)))
        r)

module _ {s marks : List ℕ} {floor : ℤ} {total : ℕ} {bytes : List ℕ} {written left row at : ℕ}
    (p : Paging s marks floor total bytes written left row at) where
  to_come : List Entry → List ℕ
  to_come l = pairs_text l ++ total_text total

  cut : (e : ℕ) → row ≤ e → e ≤ written → (l : List Entry) → p.asked.page.page.rows ≡ p.asked.page.some ++ l
      → Rest s at (lines bytes row (e - row) ++ (lines bytes e (written - e) ++ to_come l))
  unfolding to_come
  cut e h k l q = rest_as (parts bytes row e written h k (to_come l)) (p.rest l q)

  lines_some : (e : ℕ) → row < e → 0 < length (lines bytes row (e - row))
  lines_some e h =
      let f : e - row ≡ suc (e - row - 1) = omega arith in
      rw (f, entries_next bytes row (e - row - 1)) (pairs_some (entry_at bytes (16 * row)) _)

  -- the lines of the next rows come next, and then those after them
  module _ {o out : List ℕ} {e n : ℕ} (h : row < e) (k : e ≤ written)
      (put : Put o 0 (lines bytes row (e - row)) out n) where
    pub paging_comes : Comes s out n at
    unfolding to_come
    paging_comes =
        comes_before (lines bytes e (written - e) ++ to_come (later p.asked))
        (cut e (omega arith) k (later p.asked) (asked_split p.asked)) put (lines_some e h)

    pub paging_on : {next : ℕ} → next ≡ at + n → Paging s marks floor total bytes written left e next
    unfolding to_come
    paging_on f = record {
      low = p.low;
      high = p.high;
      asked = p.asked;
      most = k;
      rest = λ l q. out_before (lines bytes e (written - e) ++ to_come l) (cut e (omega arith) k l q) put f;
    }

  -- all its rows' lines are out: what follows its last row comes next
  module _ (end : written ≤ row) where
    pub after_rows : (l : List Entry) → p.asked.page.page.rows ≡ p.asked.page.some ++ l
        → Rest s at (pairs_text l ++ total_text total)
    after_rows l q =
        let z : written - row ≡ 0 = omega arith in
        let e : lines bytes row (written - row) ≡ [] = rw z (lines_none bytes row) in
        rest_as (ap (λ (m : List ℕ). m ++ (pairs_text l ++ total_text total)) e) (p.rest l q)

    pub paging_last : left ≤ 0 → Rest s at (total_text total)
    unfolding pairs_text
    paging_last z = after_rows [] (asked_whole p.asked (omega arith))

    module _ {bytes₂ : List ℕ} {written₂ left₂ a b : ℕ} (some : 0 < left) (e : a ≡ u16_at bytes (16 * (written - 1)))
        (f : b ≡ u16_at bytes (16 * (written - 1) + 2)) (q : Asked s marks floor a b bytes₂ written₂ left₂) where
      follows : p.asked.page.page.rows ≡ p.asked.page.some ++ q.page.page.rows
      follows = asked_follow p.asked some q.page.page.rows (rw (e, f) at q.page.page.all)

      pub paging_again : Paging s marks floor total bytes₂ written₂ left₂ 0 at
      paging_again = paging_begin q (after_rows q.page.page.rows follows)

      -- and it has a row
      pub again_some : 0 < written₂
      again_some =
          let g = q.page.page in
          omega (
            arith,
            q.page.count,
            q.room,
            ap length g.fit,
            length-take (length q.lent / 16) g.rows,
            p.asked.page.page.rest,
            ap length follows,
            length-append p.asked.page.some g.rows,
          )

-- other rows, as many bytes
pub ready_as : {s marks rows₁ rows₂ : List ℕ} → ListingReady s marks rows₁ → length rows₂ ≡ length rows₁
    → ListingReady s marks rows₂
ready_as r e = record { accepted = r.accepted; marked = r.marked; room = omega (arith, r.room) }
