-- A page is one outcome, and no refusal is a page.
use Prim.Native.Nat.{ℕ}
use mathlib.Core.Path.{◌≡◌, ap}
use mathlib.Core.List.{List}
use native.Mathlib.Omega.{arith}
use Rattle.table.specs.Refuse.{Only}
use Rattle.pages.specs.Listing.{Entry}
use Rattle.pages.proofs.Only.{paged_only}
use Rattle.paging.specs.Paging.{Listed, listing_refusal, GivesPage, listed}
use Rattle.std.specs.Prelude.{Ok, Err}

pub gives_only : (P : Entry → Type 0) (low high : ℕ) (old : List ℕ) → Only (GivesPage P low high old)
gives_only P low high old (Ok o, x) (Ok o', y) a b =
    let e = paged_only a b in
    λ i. (listed (e.0 i) (e.1 i), e.2 i)
gives_only P low high old (Ok o, x) (Err why, y) a b = absurd b
gives_only P low high old (Err why, x) y a b = absurd a

-- rows are no refusal
abbrev taken : Listed → ℕ
taken (Ok o) = 1
taken (Err why) = 0

pub not_refused : (old : List ℕ) {written left : ℕ} {bytes : List ℕ} (k r g : ℕ)
    → listing_refusal old k r g ≡ (listed written left, bytes) → ⊥
not_refused old k r g e = omega (arith, ap (λ (o : Listed × List ℕ). taken o.0) e)
