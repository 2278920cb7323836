-- Each C function's promise: it shows an outcome that the operation's own promise allows.
use Rattle.std.specs.Prelude.{ℕ, ◌≡◌, List, ℤ}
use Rattle.accept.specs.Accept.{AcceptOf}
use Rattle.spines.specs.Heads.{Headings}
use Rattle.changes.specs.Change.{Commits, Aborts}
use Rattle.changes.specs.Claim.{Claims}
use Rattle.convert.specs.Convert.{Converts}
use Rattle.pair.specs.Pair.{PairOf}
use Rattle.heaviest.specs.Heaviest.{HeaviestOf, HeaviestExactOf}
use Rattle.listing.specs.Listing.{ListingOf, ListingExactOf}
use Rattle.window.specs.Window.{Window, WindowOf}
use Rattle.window.specs.List.{WindowListOf}
use Rattle.vet.specs.Vet.{VetOf}
use Rattle.writer.specs.WriteRow.{WritesRow}
use Rattle.mesh.specs.Answer.{MeshOf}
use Rattle.dimacs.specs.Read.{ReadOf}
use Rattle.dimacs.specs.Write.{WriteOf}
use Rattle.eight.specs.Call.{Call}
use Rattle.eight.specs.Shown.{
  accept_in_c,
  pair_in_c,
  heaviest_in_c,
  window_in_c,
  heads_in_c,
  listing_in_c,
  vet_in_c,
  change_in_c,
  conversion_in_c,
  read_in_c,
  write_in_c,
  row_in_c,
  mesh_in_c,
}

-- a call leaves what an outcome that the operation's own promise allows is in C: a `Call`, and where two memories are
-- lent to be written the second of them beside it
pub record ShowsInC {O C : Type 0} (Promise : O → Type 0) (in_c : O → C) (c : C) : Type 0 where
  pub outcome : O
  pub promise : Promise outcome
  pub shown : c ≡ in_c outcome

abbrev pub AcceptCall : List ℕ → Call → Type 0
AcceptCall s = ShowsInC (AcceptOf s) accept_in_c

abbrev pub PairCall : List ℕ → List ℕ → ℕ → ℕ → Call → Type 0
PairCall s marks a b = ShowsInC (PairOf s marks a b) pair_in_c

abbrev pub HeaviestCall : List ℕ → List ℕ → Call → Type 0
HeaviestCall s marks = ShowsInC (HeaviestOf s marks) heaviest_in_c

abbrev pub HeaviestExactCall : List ℕ → List ℕ → Call → Type 0
HeaviestExactCall s marks = ShowsInC (HeaviestExactOf s marks) heaviest_in_c

abbrev pub HeadsCall : List ℕ → List ℕ → Call → Type 0
HeadsCall s before = ShowsInC (Headings s before) heads_in_c

abbrev pub ListingCall : List ℕ → List ℕ → ℤ → ℕ → ℕ → List ℕ → Call → Type 0
ListingCall s marks floor low high old = ShowsInC (ListingOf s marks floor low high old) listing_in_c

abbrev pub ListingExactCall : List ℕ → List ℕ → ℤ → ℕ → ℕ → List ℕ → Call → Type 0
ListingExactCall s marks floor low high old = ShowsInC (ListingExactOf s marks floor low high old) listing_in_c

abbrev pub WindowCall : List ℕ → List ℕ → Window → Call → Type 0
WindowCall s marks w = ShowsInC (WindowOf s marks w) window_in_c

abbrev pub WindowListCall : List ℕ → List ℕ → Window → ℕ → ℕ → List ℕ → Call → Type 0
WindowListCall s marks w low high old = ShowsInC (WindowListOf s marks w low high old) listing_in_c

abbrev pub VetCall : List ℕ → List ℕ → ℤ → List ℕ → Call → Type 0
VetCall s marks floor list = ShowsInC (VetOf s marks floor list) vet_in_c

abbrev pub ClaimCall : List ℕ → List ℕ → ℕ → ℕ → ℕ → Call → Type 0
ClaimCall s before run a b = ShowsInC (Claims s before run a b) change_in_c

abbrev pub CommitCall : List ℕ → List ℕ → ℕ → Call → Type 0
CommitCall s before run = ShowsInC (Commits s before run) change_in_c

abbrev pub AbortCall : List ℕ → List ℕ → ℕ → Call → Type 0
AbortCall s before run = ShowsInC (Aborts s before run) change_in_c

abbrev pub ConvertCall : List ℕ → List ℕ → Call → Type 0
ConvertCall s marks = ShowsInC (Converts s marks) conversion_in_c

abbrev pub ReadCall : List ℕ → List ℕ → ℕ → List ℕ → Call → Type 0
ReadCall lengths weights bound old = ShowsInC (ReadOf lengths weights bound old) read_in_c

abbrev pub WriteCall : List ℕ → List ℕ → List ℕ → Call × List ℕ → Type 0
WriteCall s lengths weights = ShowsInC (WriteOf s lengths weights) write_in_c

abbrev pub WriteRowCall : ℕ → ℕ → ℕ → ℕ → ℕ → List ℕ → Call → Type 0
WriteRowCall a b wire kind count before = ShowsInC (WritesRow a b wire kind count before) row_in_c

abbrev pub MeshCall : List ℕ → Call → Type 0
MeshCall s = ShowsInC (MeshOf s) mesh_in_c
