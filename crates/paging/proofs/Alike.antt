-- Where the same entries qualify, a call gives the same outcomes.
use Prim.Native.Nat.{ℕ}
use mathlib.Core.List.{List}
use Rattle.pages.specs.Listing.{Entry}
use Rattle.pages.proofs.Pages.{page_iff}
use Rattle.paging.specs.Paging.{Listed, GivesPage}
use Rattle.std.specs.Prelude.{Ok, Err}

pub gives_iff : {P Q : Entry → Type 0} → ((e : Entry) → P e → Q e) → ((e : Entry) → Q e → P e)
    → (low high : ℕ) (old : List ℕ) (x : Listed × List ℕ) → GivesPage P low high old x → GivesPage Q low high old x
gives_iff f g low high old (Ok o, bytes) p =
    record { some = p.some; page = page_iff f g p.page; count = p.count; bytes = p.bytes }
gives_iff f g low high old (Err why, bytes) p = p
