-- The report in pieces: each is what comes next, in the front of lent bytes.
use Rattle.std.specs.Prelude.{ℕ, ◌+◌, ◌-◌, ◌≤◌, ◌≡◌, Option, Some, None, List, [], ◌++◌, ℤ, length, take, replicate}
use Rattle.std.specs.Int.{w64}
use Rattle.std.proofs.Common.{SFits}
use Rattle.table.specs.Header.{nodes_of, bound_of}
use Rattle.tree.specs.Accept.{acceptance, Accepts}
use Rattle.marks.specs.Mark.{free}
use Rattle.pages.specs.Listing.{Entry}
use Rattle.pages.specs.Bytes.{entries}
use Rattle.lines.specs.Lines.{pairs_text, total_text}
use Rattle.reporting.specs.Report.{all_free, Rest, Next}
use Rattle.reporting.specs.work.Asked.{Asked}
use Rattle.reporting.specs.declared.Piece.{Piece}
use Rattle.reporting.specs.declared.Pairs.{Pairs}

-- what a caller lends: as many free branches as a net can have, room for a row, and room for text
pub record ReportLent (branches rows out : List ℕ) : Type 0 where
  pub free : branches ≡ replicate 4095 free
  pub page : 16 ≤ length rows
  pub text : 65536 ≤ length out

-- WHAT COMES NEXT. The first n bytes of `out` are those of the report of s from this place on; there are none only
-- where it has ended
pub record Comes (s out : List ℕ) (n place : ℕ) : Type 0 where
  pub room : n ≤ length out
  pub next : Next s place (take n out)
  pub ends : n ≡ 0 → Rest s place []

-- Working statements: what is known of that which follows a piece.

-- the lines of a page's rows before `row` are out, at place `at`: those of its other rows come next, then those of the
-- pages after it, and then the last line
pub record Paging (s marks : List ℕ) (floor : ℤ) (total : ℕ) (rows : List ℕ) (written left row at : ℕ) : Type 0 where
  pub low : ℕ
  pub high : ℕ
  pub asked : Asked s marks floor low high rows written left
  pub most : row ≤ written
  pub rest : (later : List Entry) → asked.page.page.rows ≡ asked.page.some ++ later
      → Rest s at (pairs_text (entries rows row (written - row)) ++ (pairs_text later ++ total_text total))

-- what is needed to go on from a place: the table is accepted, and the page is one of the listing that the report lists
pub record Going (s rows : List ℕ) (p : Pairs) (at : ℕ) : Type 0 where
  pub accepted : Accepts s (acceptance (nodes_of s) (bound_of s))
  pub nodes : p.nodes ≡ nodes_of s
  pub fits : SFits w64 p.floor
  pub paging : Paging s (all_free p.nodes) p.floor p.total rows p.page.written p.page.left p.row at

-- what follows: what is left of a page and of the listing, and the last line; or nothing
abbrev pub WhatFollows : List ℕ → List ℕ → Option Pairs → ℕ → Type 0
WhatFollows s rows (Some p) at = Going s rows p at
WhatFollows s rows None at = Rest s at []

-- a piece, and what follows it
pub record Shown (s rows out : List ℕ) (p : Piece) : Type 0 where
  pub comes : Comes s out p.n p.place
  pub goes : WhatFollows s rows p.pairs (p.place + p.n)
