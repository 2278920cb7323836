-- Each C function with a change set: it shows an outcome that the operation's own promise with a set allows.
use Rattle.std.specs.Prelude.{ℕ, List, ℤ}
use Rattle.window.specs.Window.{Window}
use Rattle.frozen.specs.Calls.{
  AcceptWith,
  PairWith,
  HeaviestWith,
  HeaviestExactWith,
  HeadsWith,
  ListingWith,
  ListingExactWith,
  WindowWith,
  WindowListWith,
  VetWith,
  ClaimsWith,
  CommitsWith,
  AbortsWith,
  ConvertsWith,
  WriteWith,
}
use Rattle.eight.specs.Call.{Call}
use Rattle.eight.specs.Shown.{
  accept_in_c,
  pair_in_c,
  heaviest_in_c,
  heads_in_c,
  listing_in_c,
  window_in_c,
  vet_in_c,
  change_in_c,
  conversion_in_c,
  write_in_c,
}
use Rattle.capi.specs.Promises.{ShowsInC}

abbrev pub AcceptWithCall : List ℕ → List ℕ → Call → Type 0
AcceptWithCall s c = ShowsInC (AcceptWith s c) accept_in_c

abbrev pub PairWithCall : List ℕ → List ℕ → List ℕ → ℕ → ℕ → Call → Type 0
PairWithCall s c marks a b = ShowsInC (PairWith s c marks a b) pair_in_c

abbrev pub HeaviestWithCall : List ℕ → List ℕ → List ℕ → Call → Type 0
HeaviestWithCall s c marks = ShowsInC (HeaviestWith s c marks) heaviest_in_c

abbrev pub HeaviestExactWithCall : List ℕ → List ℕ → List ℕ → Call → Type 0
HeaviestExactWithCall s c marks = ShowsInC (HeaviestExactWith s c marks) heaviest_in_c

abbrev pub HeadsWithCall : List ℕ → List ℕ → List ℕ → Call → Type 0
HeadsWithCall s c before = ShowsInC (HeadsWith s c before) heads_in_c

abbrev pub ListingWithCall : List ℕ → List ℕ → List ℕ → ℤ → ℕ → ℕ → List ℕ → Call → Type 0
ListingWithCall s c marks floor low high old = ShowsInC (ListingWith s c marks floor low high old) listing_in_c

abbrev pub ListingExactWithCall : List ℕ → List ℕ → List ℕ → ℤ → ℕ → ℕ → List ℕ → Call → Type 0
ListingExactWithCall s c marks floor low high old = ShowsInC (ListingExactWith s c marks floor low high old)
    listing_in_c

abbrev pub WindowWithCall : List ℕ → List ℕ → List ℕ → Window → Call → Type 0
WindowWithCall s c marks w = ShowsInC (WindowWith s c marks w) window_in_c

abbrev pub WindowListWithCall : List ℕ → List ℕ → List ℕ → Window → ℕ → ℕ → List ℕ → Call → Type 0
WindowListWithCall s c marks w low high old = ShowsInC (WindowListWith s c marks w low high old) listing_in_c

abbrev pub VetWithCall : List ℕ → List ℕ → List ℕ → ℤ → List ℕ → Call → Type 0
VetWithCall s c marks floor list = ShowsInC (VetWith s c marks floor list) vet_in_c

abbrev pub ClaimWithCall : List ℕ → List ℕ → List ℕ → ℕ → ℕ → ℕ → Call → Type 0
ClaimWithCall s c before run a b = ShowsInC (ClaimsWith s c before run a b) change_in_c

abbrev pub CommitWithCall : List ℕ → List ℕ → List ℕ → ℕ → Call → Type 0
CommitWithCall s c before run = ShowsInC (CommitsWith s c before run) change_in_c

abbrev pub AbortWithCall : List ℕ → List ℕ → List ℕ → ℕ → Call → Type 0
AbortWithCall s c before run = ShowsInC (AbortsWith s c before run) change_in_c

abbrev pub ConvertWithCall : List ℕ → List ℕ → List ℕ → Call → Type 0
ConvertWithCall s c marks = ShowsInC (ConvertsWith s c marks) conversion_in_c

abbrev pub WriteWithCall : List ℕ → List ℕ → List ℕ → List ℕ → Call × List ℕ → Type 0
WriteWithCall s c lengths weights = ShowsInC (WriteWith s c lengths weights) write_in_c
