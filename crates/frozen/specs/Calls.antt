-- What each operation promises with a change set: 1 to 6 of the table, 33, 34, and then its own promise of the changed
-- table, word for word.
use Rattle.vetting.specs.Vets.{Vetted}
use Rattle.std.specs.Prelude.{ℕ, List, ℤ}
use Rattle.accept.specs.Accept.{accept_refusal, AcceptOf, AcceptAnswer}
use Rattle.spines.specs.Heads.{heads_refusal, Headings, HeadsAnswer}
use Rattle.changes.specs.Change.{change_refusal, Commits, Aborts, Change}
use Rattle.changes.specs.Claim.{Claims}
use Rattle.convert.specs.Convert.{conversion_refusal, Converts, Conversion}
use Rattle.pair.specs.Pair.{pair_refusal, PairOf, PairAnswer}
use Rattle.heaviest.specs.Heaviest.{heaviest_refusal, HeaviestOf, HeaviestExactOf, HeaviestAnswer}
use Rattle.paging.specs.Paging.{listing_refusal, Listed}
use Rattle.listing.specs.Listing.{ListingOf, ListingExactOf}
use Rattle.window.specs.Window.{Window, window_refusal, WindowOf, WindowAnswer}
use Rattle.window.specs.List.{WindowListOf}
use Rattle.vet.specs.Vet.{vet_refusal, VetOf}
use Rattle.dimacs.specs.Write.{Wrote, write_refusal, VersionOne, WriteOf}
use Rattle.changeset.specs.With.{With}

abbrev pub AcceptWith : List ℕ → List ℕ → AcceptAnswer → Type 0
AcceptWith s c = With AcceptAnswer accept_refusal s c AcceptOf

abbrev pub PairWith : List ℕ → List ℕ → List ℕ → ℕ → ℕ → PairAnswer → Type 0
PairWith s c marks a b = With PairAnswer pair_refusal s c (λ t. PairOf t marks a b)

abbrev pub HeaviestWith : List ℕ → List ℕ → List ℕ → HeaviestAnswer → Type 0
HeaviestWith s c marks = With HeaviestAnswer heaviest_refusal s c (λ t. HeaviestOf t marks)

abbrev pub HeaviestExactWith : List ℕ → List ℕ → List ℕ → HeaviestAnswer → Type 0
HeaviestExactWith s c marks = With HeaviestAnswer heaviest_refusal s c (λ t. HeaviestExactOf t marks)

-- where memory is lent to be written, a refusal leaves it as it was, 33 and 34 too
abbrev pub HeadsWith : List ℕ → List ℕ → List ℕ → HeadsAnswer × List ℕ → Type 0
HeadsWith s c before = With (HeadsAnswer × List ℕ) (heads_refusal before) s c (λ t. Headings t before)

abbrev pub ListingWith : List ℕ → List ℕ → List ℕ → ℤ → ℕ → ℕ → List ℕ → Listed × List ℕ → Type 0
ListingWith s c marks floor low high old =
    With (Listed × List ℕ) (listing_refusal old) s c (λ t. ListingOf t marks floor low high old)

abbrev pub ListingExactWith : List ℕ → List ℕ → List ℕ → ℤ → ℕ → ℕ → List ℕ → Listed × List ℕ → Type 0
ListingExactWith s c marks floor low high old =
    With (Listed × List ℕ) (listing_refusal old) s c (λ t. ListingExactOf t marks floor low high old)

abbrev pub WindowWith : List ℕ → List ℕ → List ℕ → Window → WindowAnswer → Type 0
WindowWith s c marks w = With WindowAnswer window_refusal s c (λ t. WindowOf t marks w)

abbrev pub WindowListWith : List ℕ → List ℕ → List ℕ → Window → ℕ → ℕ → List ℕ → Listed × List ℕ → Type 0
WindowListWith s c marks w low high old =
    With (Listed × List ℕ) (listing_refusal old) s c (λ t. WindowListOf t marks w low high old)

abbrev pub VetWith : List ℕ → List ℕ → List ℕ → ℤ → List ℕ → Vetted → Type 0
VetWith s c marks floor list = With Vetted vet_refusal s c (λ t. VetOf t marks floor list)

abbrev pub ClaimsWith : List ℕ → List ℕ → List ℕ → ℕ → ℕ → ℕ → Change × List ℕ → Type 0
ClaimsWith s c before run a b = With (Change × List ℕ) (change_refusal before) s c (λ t. Claims t before run a b)

abbrev pub CommitsWith : List ℕ → List ℕ → List ℕ → ℕ → Change × List ℕ → Type 0
CommitsWith s c before run = With (Change × List ℕ) (change_refusal before) s c (λ t. Commits t before run)

abbrev pub AbortsWith : List ℕ → List ℕ → List ℕ → ℕ → Change × List ℕ → Type 0
AbortsWith s c before run = With (Change × List ℕ) (change_refusal before) s c (λ t. Aborts t before run)

abbrev pub ConvertsWith : List ℕ → List ℕ → List ℕ → Conversion → Type 0
ConvertsWith s c marks = With Conversion conversion_refusal s c (λ t. Converts t marks)

-- of the 1 to 6 that come first, 3 is any other version than 1 here, as where there is no set
abbrev pub WriteWith : List ℕ → List ℕ → List ℕ → List ℕ → Wrote → Type 0
WriteWith s c lengths weights =
    VersionOne Wrote (write_refusal lengths weights) s
    (With Wrote (write_refusal lengths weights) s c (λ t. WriteOf t lengths weights))
