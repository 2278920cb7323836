-- Every C function is two calls: the operation's promise and how its outcome is shown are all that its own asks. The
-- floor of a listing and of vetting and a window's two sums are signed numbers, which are not changed by being handed
-- on.
use Prim.Native.Nat.{ℕ}
use mathlib.Core.Path.{◌≡◌}
use mathlib.Core.List.{List}
use lib.IntN.{ℤ}
use mir.Syntax.{w64}
use mir.Val.{to_z, of_z, SFits}
use mir.ValLaws.{to_z-of_z}
use Rattle.vetting.specs.Vets.{Vetted}
use Rattle.paging.specs.Paging.{Listed}
use Rattle.listing.specs.Listing.{ListingWithin}
use Rattle.window.specs.Window.{Window, window, WindowOf, WindowAnswer}
use Rattle.window.specs.List.{WindowListOf}
use Rattle.vet.specs.Vet.{VetOf}
use Rattle.eight.specs.Call.{Call}
use Rattle.eight.specs.Shown.{window_in_c, listing_in_c, vet_in_c}
use Rattle.capi.specs.Promises.{ShowsInC}

pub shows : {O C : Type 0} {Promise : O → Type 0} {in_c : O → C} {c : C} (o : O) → Promise o → c ≡ in_c o
    → ShowsInC Promise in_c c
shows o p e = record { outcome = o; promise = p; shown = e }

pub shows_page :
    (Within : ℕ → Type 0) (s marks : List ℕ) (floor : ℤ) (low high : ℕ) (old : List ℕ) (o : Listed × List ℕ) {c : Call}
    → SFits w64 floor → ListingWithin Within s marks (to_z w64 (of_z w64 floor)) low high old o → c ≡ listing_in_c o
    → ShowsInC (ListingWithin Within s marks floor low high old) listing_in_c c
shows_page Within s marks floor low high old o f p e = shows o (rw (to_z-of_z w64 floor f) at p) e

pub shows_vet : (s marks : List ℕ) (floor : ℤ) (list : List ℕ) (o : Vetted) {c : Call} → SFits w64 floor
    → VetOf s marks (to_z w64 (of_z w64 floor)) list o → c ≡ vet_in_c o → ShowsInC (VetOf s marks floor list) vet_in_c c
shows_vet s marks floor list o f p e = shows o (rw (to_z-of_z w64 floor f) at p) e

-- what is promised of a window
handed : (P : Window → Type 0) (a b : ℕ) (x y : ℤ) → SFits w64 x → SFits w64 y
    → P (window a b (to_z w64 (of_z w64 x)) (to_z w64 (of_z w64 y))) → P (window a b x y)
handed P a b x y f g p = rw (to_z-of_z w64 x f, to_z-of_z w64 y g) at p

pub shows_window : (s marks : List ℕ) (a b : ℕ) (x y : ℤ) (o : WindowAnswer) {c : Call} → SFits w64 x → SFits w64 y
    → WindowOf s marks (window a b (to_z w64 (of_z w64 x)) (to_z w64 (of_z w64 y))) o → c ≡ window_in_c o
    → ShowsInC (WindowOf s marks (window a b x y)) window_in_c c
shows_window s marks a b x y o f g p e = shows o (handed (λ w. WindowOf s marks w o) a b x y f g p) e

pub shows_window_list : (s marks : List ℕ) (a b : ℕ) (x y : ℤ) (low high : ℕ) (old : List ℕ) (o : Listed × List ℕ)
    {c : Call} → SFits w64 x → SFits w64 y
    → WindowListOf s marks (window a b (to_z w64 (of_z w64 x)) (to_z w64 (of_z w64 y))) low high old o → c ≡
    listing_in_c o
    → ShowsInC (WindowListOf s marks (window a b x y) low high old) listing_in_c c
shows_window_list s marks a b x y low high old o f g p e =
    shows o (handed (λ w. WindowListOf s marks w low high old o) a b x y f g p) e
