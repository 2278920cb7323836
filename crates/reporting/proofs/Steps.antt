-- From piece to piece: the lines of the page's next rows, of the page after it, or the last line.
use Prim.Native.Nat.{ℕ, ◌+◌, ◌-◌, ◌*◌, ◌≤◌, ◌<◌}
use mathlib.Core.Path.{◌≡◌, refl, ap, ◌∙◌}
use mathlib.Core.List.{List}
use native.Mathlib.Omega.{arith}
use lib.ListN.{length, length-replicate}
use lib.Seq.{length-take-le}
use Rattle.std.specs.Prelude.{Some}
use Rattle.table.specs.Bytes.{u16_at}
use Rattle.tree.proofs.Begins.{admitted}
use Rattle.pages.specs.Bytes.{entries}
use Rattle.text.specs.work.Put.{Put}
use Rattle.lines.specs.Lines.{pairs_text, total_text}
use Rattle.reporting.specs.Report.{all_free, Rest}
use Rattle.reporting.specs.work.Asked.{ListingReady, Asked}
use Rattle.reporting.specs.work.Pieces.{ReportLent, Going, Shown}
use Rattle.reporting.specs.declared.Piece.{Piece}
use Rattle.reporting.specs.declared.Pairs.{Pairs}
use Rattle.reporting.proofs.Coming.{next_fits}
use Rattle.reporting.proofs.Paging.{asked_some, paging_comes, paging_on, paging_last, paging_again, again_some}

-- other memory, as much of it
pub lent_as : {branches rows rows₂ out out₂ : List ℕ} → ReportLent branches rows out → length rows₂ ≡ length rows
    → length out₂ ≡ length out → ReportLent branches rows₂ out₂
lent_as l e f = record { free = l.free; page = omega (arith, l.page); text = omega (arith, l.text) }

-- a piece's end is a place of the report
pub shown_fits : {s rows out : List ℕ} {p : Piece} → Shown s rows out p → p.place + p.n < 9223372036854775808
shown_fits {out = out} {p = p} h =
    omega (arith, next_fits _ h.comes.next, length-take-le p.n out h.comes.room)

module _ {s rows : List ℕ} {p : Pairs} {at : ℕ} (g : Going s rows p at) where
  -- some rows more
  pub rows_shown : {o out : List ℕ} {e n : ℕ} → p.row < e → e ≤ p.page.written
      → Put o 0 (pairs_text (entries rows p.row (e - p.row))) out n
      → Shown s rows out
      (record {
        n = n;
        place = at;
        pairs = Some (record { nodes = p.nodes; floor = p.floor; total = p.total; page = p.page; row = e });
      })
  rows_shown h k put = record {
    comes = paging_comes g.paging h k put;
    goes = record {
      accepted = g.accepted;
      nodes = g.nodes;
      fits = g.fits;
      paging = paging_on g.paging h k put refl;
    };
  }

  -- the page's call is not refused, and its nodes are 1 at the least
  pub going_some : 1 ≤ p.nodes
  going_some = omega (arith, g.nodes, (admitted s _ _ g.accepted).net.some)

  pub going_few : p.nodes ≤ 4096
  going_few = omega (arith, g.nodes, (admitted s _ _ g.accepted).net.few)

  pub going_ready : {marks : List ℕ} → marks ≡ all_free p.nodes → 16 ≤ length rows → ListingReady s marks rows
  going_ready e h = record {
    accepted = g.accepted;
    marked = ap length e ∙ length-replicate (p.nodes - 1) 0 ∙ ap (λ (k : ℕ). k - 1) g.nodes;
    room = h;
  }

  -- the next page
  module _ {marks rows₂ : List ℕ} {written₂ left₂ a b : ℕ} (end : p.page.written ≤ p.row) (some : 0 < p.page.left)
      (m : marks ≡ all_free p.nodes) (e : a ≡ u16_at rows (16 * (p.page.written - 1)))
      (f : b ≡ u16_at rows (16 * (p.page.written - 1) + 2)) (q : Asked s marks p.floor a b rows₂ written₂ left₂) where
    free : Asked s (all_free p.nodes) p.floor a b rows₂ written₂ left₂
    free = rw m at q

    pub page_some : 0 < written₂
    page_some = again_some g.paging end some e f free

    pub page_going : Going s rows₂
        (record {
          nodes = p.nodes;
          floor = p.floor;
          total = p.total;
          page = record { written = written₂; left = left₂ };
          row = 0;
        })
        at
    page_going = record {
      accepted = g.accepted;
      nodes = g.nodes;
      fits = g.fits;
      paging = paging_again g.paging end some e f free;
    }

  -- the last line
  pub going_last : p.page.written ≤ p.row → p.page.left ≤ 0 → Rest s at (total_text p.total)
  going_last h z = paging_last g.paging h z

  -- a row of the page that was read stands in the lent bytes
  pub going_inside : 16 * p.page.written ≤ length rows
  going_inside = g.paging.asked.inside

  pub going_row : 0 < p.page.left → 0 < p.page.written
  going_row = asked_some g.paging.asked
