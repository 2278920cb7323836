-- Each C function's promise with a change set allows one outcome: it shows the operation's own, of which there is one.
use Prim.Native.Nat.{ℕ}
use mathlib.Core.List.{List}
use lib.IntN.{ℤ}
use Rattle.table.specs.Refuse.{Only}
use Rattle.window.specs.Window.{Window}
use Rattle.frozen.proofs.Only as frozen
use Rattle.eight.specs.Shown.{
  accept_in_c,
  pair_in_c,
  heaviest_in_c,
  heads_in_c,
  listing_in_c,
  window_in_c,
  vet_in_c,
  change_in_c,
  conversion_in_c,
  write_in_c,
}
use Rattle.capi.specs.PromisesWith.{
  AcceptWithCall,
  PairWithCall,
  HeaviestWithCall,
  HeaviestExactWithCall,
  HeadsWithCall,
  ListingWithCall,
  ListingExactWithCall,
  WindowWithCall,
  WindowListWithCall,
  VetWithCall,
  ClaimWithCall,
  CommitWithCall,
  AbortWithCall,
  ConvertWithCall,
  WriteWithCall,
}
use Rattle.capi.proofs.Only.{shows_only}

pub hb_accept_with_only : (s c : List ℕ) → Only (AcceptWithCall s c)
hb_accept_with_only s c = shows_only accept_in_c (frozen.accept_with_only s c)

pub hb_pair_with_only : (s c : List ℕ) (marks : List ℕ) (a : ℕ) (b : ℕ) → Only (PairWithCall s c marks a b)
hb_pair_with_only s c marks a b = shows_only pair_in_c (frozen.pair_with_only s c marks a b)

pub hb_heaviest_with_only : (s c : List ℕ) (marks : List ℕ) → Only (HeaviestWithCall s c marks)
hb_heaviest_with_only s c marks = shows_only heaviest_in_c (frozen.heaviest_with_only s c marks)

pub hb_heaviest_exact_with_only : (s c : List ℕ) (marks : List ℕ) → Only (HeaviestExactWithCall s c marks)
hb_heaviest_exact_with_only s c marks = shows_only heaviest_in_c (frozen.heaviest_exact_with_only s c marks)

pub hb_heads_with_only : (s c : List ℕ) (before : List ℕ) → Only (HeadsWithCall s c before)
hb_heads_with_only s c before = shows_only heads_in_c (frozen.heads_with_only s c before)

pub hb_listing_with_only : (s c : List ℕ) (marks : List ℕ) (floor : ℤ) (low : ℕ) (high : ℕ) (old : List ℕ)
    → Only (ListingWithCall s c marks floor low high old)
hb_listing_with_only s c marks floor low high old =
    shows_only listing_in_c (frozen.listing_with_only s c marks floor low high old)

pub hb_listing_exact_with_only : (s c : List ℕ) (marks : List ℕ) (floor : ℤ) (low : ℕ) (high : ℕ) (old : List ℕ)
    → Only (ListingExactWithCall s c marks floor low high old)
hb_listing_exact_with_only s c marks floor low high old =
    shows_only listing_in_c (frozen.listing_exact_with_only s c marks floor low high old)

pub hb_window_with_only : (s c : List ℕ) (marks : List ℕ) (w : Window) → Only (WindowWithCall s c marks w)
hb_window_with_only s c marks w = shows_only window_in_c (frozen.window_with_only s c marks w)

pub hb_window_list_with_only : (s c : List ℕ) (marks : List ℕ) (w : Window) (low : ℕ) (high : ℕ) (old : List ℕ)
    → Only (WindowListWithCall s c marks w low high old)
hb_window_list_with_only s c marks w low high old =
    shows_only listing_in_c (frozen.window_list_with_only s c marks w low high old)

pub hb_vet_with_only : (s c : List ℕ) (marks : List ℕ) (floor : ℤ) (list : List ℕ)
    → Only (VetWithCall s c marks floor list)
hb_vet_with_only s c marks floor list = shows_only vet_in_c (frozen.vet_with_only s c marks floor list)

pub hb_claim_with_only : (s c : List ℕ) (before : List ℕ) (run : ℕ) (a : ℕ) (b : ℕ)
    → Only (ClaimWithCall s c before run a b)
hb_claim_with_only s c before run a b = shows_only change_in_c (frozen.claim_with_only s c before run a b)

pub hb_commit_with_only : (s c : List ℕ) (before : List ℕ) (run : ℕ) → Only (CommitWithCall s c before run)
hb_commit_with_only s c before run = shows_only change_in_c (frozen.commit_with_only s c before run)

pub hb_abort_with_only : (s c : List ℕ) (before : List ℕ) (run : ℕ) → Only (AbortWithCall s c before run)
hb_abort_with_only s c before run = shows_only change_in_c (frozen.abort_with_only s c before run)

pub hb_convert_with_only : (s c : List ℕ) (marks : List ℕ) → Only (ConvertWithCall s c marks)
hb_convert_with_only s c marks = shows_only conversion_in_c (frozen.convert_with_only s c marks)

pub hb_dimacs_write_with_only : (s c : List ℕ) (lengths : List ℕ) (weights : List ℕ)
    → Only (WriteWithCall s c lengths weights)
hb_dimacs_write_with_only s c lengths weights = shows_only write_in_c (frozen.write_with_only s c lengths weights)
