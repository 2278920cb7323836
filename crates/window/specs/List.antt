-- The operation window_list: refusals 1 to 11, then 13, 30 and 17; then a page of the pairs in the window that have the
-- greatest branch count of all. A call leaves an answer and the lent bytes.
use Rattle.std.specs.Prelude.{ℕ, ◌-◌, ◌≤◌, ◌≡◌, List, ℤ, length}
use Rattle.table.specs.Refuse.{Unless}
use Rattle.table.specs.Header.{nodes_of}
use Rattle.tree.specs.Accept.{Begins}
use Rattle.pages.specs.Listing.{Entry, entry}
use Rattle.pages.specs.Passes.{Passes}
use Rattle.ground.specs.PathOf.{PathOf}
use Rattle.paging.specs.Paging.{listing_refusal, GivesPage, Listed}
use Rattle.window.specs.Window.{Window, Proper, InWindow}

-- the path from a to b has this wire length and this weight; with its branch count the pair is in the window, and no
-- pair in the window, wherever it stands in the order, has more branches
pub record MostPath (s marks : List ℕ) (n : ℕ) (w : Window) (a b l : ℕ) (x : ℤ) : Type 0 where
  pub path : PathOf s marks n a b l x
  pub count : ℕ
  pub inside : InWindow s marks n w (entry a b count x)
  pub greatest : (f : Entry) → InWindow s marks n w f → f.length ≤ count

-- what the list considers: each such pair, with its wire length and weight
abbrev pub AsMany : List ℕ → List ℕ → ℕ → Window → Entry → Type 0
AsMany s marks n w = Passes (MostPath s marks n w) (λ l. Unit {0}) (λ x. Unit {0}) n

-- 13, 30 and 17, then the page, of a net of n nodes; an empty page is no refusal
abbrev pub ListsMost : List ℕ → ℕ → List ℕ → Window → ℕ → ℕ → List ℕ → Listed × List ℕ → Type 0
ListsMost s n marks w low high old =
    Unless (Listed × List ℕ) (listing_refusal old 13 0 0) (length marks ≡ n - 1)
    (Unless (Listed × List ℕ) (listing_refusal old 30 0 0) (Proper w)
    (Unless (Listed × List ℕ) (listing_refusal old 17 0 0) (16 ≤ length old)
    (GivesPage (AsMany s marks n w) low high old)))

abbrev pub WindowListOf : List ℕ → List ℕ → Window → ℕ → ℕ → List ℕ → Listed × List ℕ → Type 0
WindowListOf s marks w low high old =
    Begins (Listed × List ℕ) (listing_refusal old) s (ListsMost s (nodes_of s) marks w low high old)
