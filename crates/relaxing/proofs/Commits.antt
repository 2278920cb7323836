-- NO ANSWER TELLS OF A COMMIT: pair, heaviest and listing, these two in both modes, window, window_list and vet answer
-- after a commit as they did before it, whether it was refused or not. The marks before and after are free at the same
-- places, and who holds or has spent a branch never shows. It stands in this crate, which sees all of these operations.
use Prim.Native.Nat.{ℕ}
use mathlib.Core.Path.{◌≡◌, sym}
use mathlib.Core.List.{List}
use lib.IntN.{ℤ}
use Rattle.marks.proofs.Weights.{Alike}
use Rattle.changes.specs.Change.{Commits, Change}
use Rattle.changes.proofs.Freed.{Leaves, commit_alike}
use Rattle.paging.specs.Paging.{Listed}
use Rattle.pair.specs.Pair.{PairOf, PairAnswer}
use Rattle.pair.proofs.Holders.{pair_holders}
use Rattle.vetting.specs.Vets.{Vetted}
use Rattle.heaviest.specs.Heaviest.{HeaviestWithin, HeaviestAnswer}
use Rattle.heaviest.proofs.Holders.{heaviest_holders_never_show}
use Rattle.listing.specs.Listing.{ListingWithin}
use Rattle.listing.proofs.Holders.{holders_never_show}
use Rattle.window.specs.Window.{Window, WindowOf, WindowAnswer}
use Rattle.window.specs.List.{WindowListOf}
use Rattle.window.proofs.Holders.{window_holders_never_show, window_list_holders_never_show}
use Rattle.vet.specs.Vet.{VetOf}
use Rattle.vet.proofs.Holders.{vet_holders_never_show}

-- o is what the commit leaves: its answer, and the marks
module _ (s before : List ℕ) {run : ℕ} (o : Change × List ℕ) (p : Commits s before run o) where
  left : Leaves Alike before o.1
  left = commit_alike s before p

  pub pair_after_commit : (a b : ℕ) (x y : PairAnswer) → PairOf s before a b x → PairOf s o.1 a b y → x ≡ y
  pair_after_commit a b = pair_holders s before o.1 left.so (sym left.same_many) a b

  -- over any length test, so in both modes
  module _ (Within : ℕ → Type 0) where
    pub heaviest_after_commit : (none : ℕ) (x y : HeaviestAnswer) → HeaviestWithin none Within s before x
        → HeaviestWithin none Within s o.1 y → x ≡ y
    heaviest_after_commit none =
        heaviest_holders_never_show none Within s before o.1 left.so (sym left.same_many)

    pub listing_after_commit : (floor : ℤ) (low high : ℕ) (old : List ℕ) (x y : Listed × List ℕ)
        → ListingWithin Within s before floor low high old x → ListingWithin Within s o.1 floor low high old y
        → x ≡ y
    listing_after_commit = holders_never_show Within s before o.1 left.so (sym left.same_many)

  module _ (w : Window) where
    pub window_after_commit : (x y : WindowAnswer) → WindowOf s before w x → WindowOf s o.1 w y → x ≡ y
    window_after_commit = window_holders_never_show s before o.1 left.so (sym left.same_many) w

    pub window_list_after_commit : (low high : ℕ) (old : List ℕ) (x y : Listed × List ℕ)
        → WindowListOf s before w low high old x → WindowListOf s o.1 w low high old y → x ≡ y
    window_list_after_commit = window_list_holders_never_show s before o.1 left.so (sym left.same_many) w

  pub vet_after_commit : (floor : ℤ) (list : List ℕ) (x y : Vetted) → VetOf s before floor list x
      → VetOf s o.1 floor list y → x ≡ y
  vet_after_commit = vet_holders_never_show s before o.1 left.so (sym left.same_many)
