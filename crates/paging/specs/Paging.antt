-- A call of an operation that lists leaves an answer and the lent bytes: a refusal, or a page.
use Rattle.std.specs.Prelude.{ℕ, List, Result, Ok, Err}
use Rattle.pages.specs.Listing.{Entry}
use Rattle.pages.specs.Paged.{Paged}
use Rattle.tree.specs.declared.Refusal.{Refusal}
use Rattle.paging.specs.declared.Rows.{Rows}

-- the rows written and the rows left over, or why not
abbrev pub Listed : Type 0
Listed = Result Rows Refusal

abbrev pub listed : ℕ → ℕ → Listed
listed written left = Ok (record { written = written; left = left })

-- a refusal leaves the lent bytes as they were
abbrev pub listing_refusal : List ℕ → ℕ → ℕ → ℕ → Listed × List ℕ
listing_refusal old k r g = (Err (record { number = k; row = r; ring = g }), old)

-- a page of what qualifies, from the starting pair on; an empty page is no refusal
abbrev pub GivesPage : (Entry → Type 0) → ℕ → ℕ → List ℕ → Listed × List ℕ → Type 0
GivesPage P low high old (Ok o, now) = Paged P low high old o.written o.left now
GivesPage P low high old (Err why, now) = ⊥
