-- Each promise with a change set allows one outcome: by the one law of `With`, from the operation's own.
use Prim.Native.Nat.{ℕ}
use mathlib.Core.List.{List}
use lib.IntN.{ℤ}
use Rattle.table.specs.Refuse.{Only}
use Rattle.table.proofs.Refusals.{unless_only}
use Rattle.accept.specs.Accept.{accept_refusal}
use Rattle.accept.proofs.Only.{accept_only}
use Rattle.spines.specs.Heads.{heads_refusal}
use Rattle.spines.proofs.HeadsOnly.{heads_only}
use Rattle.changes.specs.Change.{change_refusal}
use Rattle.changes.proofs.Only.{claim_only, commit_only, abort_only}
use Rattle.convert.specs.Convert.{conversion_refusal}
use Rattle.convert.proofs.Only.{convert_only}
use Rattle.pair.specs.Pair.{pair_refusal}
use Rattle.pair.proofs.Only.{pair_only}
use Rattle.heaviest.specs.Heaviest.{heaviest_refusal}
use Rattle.heaviest.proofs.Only.{heaviest_only, heaviest_exact_only}
use Rattle.paging.specs.Paging.{listing_refusal}
use Rattle.listing.proofs.Only.{listing_only, listing_exact_only}
use Rattle.window.specs.Window.{Window, window_refusal}
use Rattle.window.proofs.Only.{window_only, window_list_only}
use Rattle.vet.specs.Vet.{vet_refusal}
use Rattle.vet.proofs.Only.{vet_only}
use Rattle.dimacs.specs.Write.{write_refusal}
use Rattle.dimacs.proofs.Only.{write_only}
use Rattle.changeset.proofs.Withs.{with_only}
use Rattle.frozen.specs.Calls.{
  AcceptWith,
  PairWith,
  HeaviestWith,
  HeaviestExactWith,
  HeadsWith,
  ListingWith,
  ListingExactWith,
  WindowWith,
  WindowListWith,
  VetWith,
  ClaimsWith,
  CommitsWith,
  AbortsWith,
  ConvertsWith,
  WriteWith,
}

module _ (s c : List ℕ) where
  pub accept_with_only : Only (AcceptWith s c)
  accept_with_only = with_only accept_refusal s c accept_only

  pub heads_with_only : (before : List ℕ) → Only (HeadsWith s c before)
  heads_with_only before = with_only (heads_refusal before) s c (λ t. heads_only t before)

  pub write_with_only : (lengths weights : List ℕ) → Only (WriteWith s c lengths weights)
  write_with_only lengths weights =
      unless_only
      (unless_only
      (unless_only (with_only (write_refusal lengths weights) s c (λ t. write_only t lengths weights))))

module _ (s c marks : List ℕ) where
  pub pair_with_only : (a b : ℕ) → Only (PairWith s c marks a b)
  pair_with_only a b = with_only pair_refusal s c (λ t. pair_only t marks a b)

  pub heaviest_with_only : Only (HeaviestWith s c marks)
  heaviest_with_only = with_only heaviest_refusal s c (λ t. heaviest_only t marks)

  pub heaviest_exact_with_only : Only (HeaviestExactWith s c marks)
  heaviest_exact_with_only = with_only heaviest_refusal s c (λ t. heaviest_exact_only t marks)

  pub listing_with_only : (floor : ℤ) (low high : ℕ) (old : List ℕ) → Only (ListingWith s c marks floor low high old)
  listing_with_only floor low high old =
      with_only (listing_refusal old) s c (λ t. listing_only t marks floor low high old)

  pub listing_exact_with_only : (floor : ℤ) (low high : ℕ) (old : List ℕ)
      → Only (ListingExactWith s c marks floor low high old)
  listing_exact_with_only floor low high old =
      with_only (listing_refusal old) s c (λ t. listing_exact_only t marks floor low high old)

  pub window_with_only : (w : Window) → Only (WindowWith s c marks w)
  window_with_only w = with_only window_refusal s c (λ t. window_only t marks w)

  pub window_list_with_only : (w : Window) (low high : ℕ) (old : List ℕ)
      → Only (WindowListWith s c marks w low high old)
  window_list_with_only w low high old =
      with_only (listing_refusal old) s c (λ t. window_list_only t marks w low high old)

  pub vet_with_only : (floor : ℤ) (list : List ℕ) → Only (VetWith s c marks floor list)
  vet_with_only floor list = with_only vet_refusal s c (λ t. vet_only t marks floor list)

  pub convert_with_only : Only (ConvertsWith s c marks)
  convert_with_only = with_only conversion_refusal s c (λ t. convert_only t marks)

module _ (s c before : List ℕ) (run : ℕ) where
  pub claim_with_only : (a b : ℕ) → Only (ClaimsWith s c before run a b)
  claim_with_only a b = with_only (change_refusal before) s c (λ t. claim_only t before run a b)

  pub commit_with_only : Only (CommitsWith s c before run)
  commit_with_only = with_only (change_refusal before) s c (λ t. commit_only t before run)

  pub abort_with_only : Only (AbortsWith s c before run)
  abort_with_only = with_only (change_refusal before) s c (λ t. abort_only t before run)
