-- Each C function's promise allows one outcome: it shows the operation's own, of which there is one.
use Prim.Native.Nat.{ℕ}
use mathlib.Core.Path.{sym, ap, ◌∙◌}
use mathlib.Core.List.{List}
use lib.IntN.{ℤ}
use Rattle.table.specs.Refuse.{Only}
use Rattle.accept.proofs.Only.{accept_only}
use Rattle.spines.proofs.HeadsOnly.{heads_only}
use Rattle.changes.proofs.Only.{claim_only, commit_only, abort_only}
use Rattle.convert.proofs.Only.{convert_only}
use Rattle.pair.proofs.Only.{pair_only}
use Rattle.heaviest.proofs.Only.{heaviest_only, heaviest_exact_only}
use Rattle.listing.proofs.Only.{listing_only, listing_exact_only}
use Rattle.window.specs.Window.{Window}
use Rattle.window.proofs.Only.{window_only, window_list_only}
use Rattle.vet.proofs.Only.{vet_only}
use Rattle.writer.proofs.Only.{write_row_only}
use Rattle.mesh.proofs.Only.{mesh_only}
use Rattle.dimacs.proofs.Only.{read_only, write_only}
use Rattle.eight.specs.Shown.{
  accept_in_c,
  pair_in_c,
  heaviest_in_c,
  window_in_c,
  heads_in_c,
  listing_in_c,
  vet_in_c,
  change_in_c,
  conversion_in_c,
  read_in_c,
  write_in_c,
  row_in_c,
  mesh_in_c,
}
use Rattle.capi.specs.Promises.{
  ShowsInC,
  AcceptCall,
  PairCall,
  HeaviestCall,
  HeaviestExactCall,
  HeadsCall,
  ListingCall,
  ListingExactCall,
  WindowCall,
  WindowListCall,
  VetCall,
  ClaimCall,
  CommitCall,
  AbortCall,
  ConvertCall,
  ReadCall,
  WriteCall,
  WriteRowCall,
  MeshCall,
}

pub shows_only : {O C : Type 0} {Promise : O → Type 0} (in_c : O → C) → Only Promise → Only (ShowsInC Promise in_c)
shows_only in_c o x y p q = p.shown ∙ ap in_c (o p.outcome q.outcome p.promise q.promise) ∙ sym q.shown

pub hb_accept_only : (s : List ℕ) → Only (AcceptCall s)
hb_accept_only s = shows_only accept_in_c (accept_only s)

pub hb_pair_only : (s marks : List ℕ) (a b : ℕ) → Only (PairCall s marks a b)
hb_pair_only s marks a b = shows_only pair_in_c (pair_only s marks a b)

pub hb_heaviest_only : (s marks : List ℕ) → Only (HeaviestCall s marks)
hb_heaviest_only s marks = shows_only heaviest_in_c (heaviest_only s marks)

pub hb_heaviest_exact_only : (s marks : List ℕ) → Only (HeaviestExactCall s marks)
hb_heaviest_exact_only s marks = shows_only heaviest_in_c (heaviest_exact_only s marks)

pub hb_heads_only : (s before : List ℕ) → Only (HeadsCall s before)
hb_heads_only s before = shows_only heads_in_c (heads_only s before)

pub hb_listing_only : (s marks : List ℕ) (floor : ℤ) (low high : ℕ) (old : List ℕ)
    → Only (ListingCall s marks floor low high old)
hb_listing_only s marks floor low high old = shows_only listing_in_c (listing_only s marks floor low high old)

pub hb_listing_exact_only : (s marks : List ℕ) (floor : ℤ) (low high : ℕ) (old : List ℕ)
    → Only (ListingExactCall s marks floor low high old)
hb_listing_exact_only s marks floor low high old = shows_only listing_in_c
    (listing_exact_only s marks floor low high old)

pub hb_window_only : (s marks : List ℕ) (w : Window) → Only (WindowCall s marks w)
hb_window_only s marks w = shows_only window_in_c (window_only s marks w)

pub hb_window_list_only : (s marks : List ℕ) (w : Window) (low high : ℕ) (old : List ℕ)
    → Only (WindowListCall s marks w low high old)
hb_window_list_only s marks w low high old = shows_only listing_in_c (window_list_only s marks w low high old)

pub hb_vet_only : (s marks : List ℕ) (floor : ℤ) (list : List ℕ) → Only (VetCall s marks floor list)
hb_vet_only s marks floor list = shows_only vet_in_c (vet_only s marks floor list)

pub hb_claim_only : (s before : List ℕ) (run a b : ℕ) → Only (ClaimCall s before run a b)
hb_claim_only s before run a b = shows_only change_in_c (claim_only s before run a b)

pub hb_commit_only : (s before : List ℕ) (run : ℕ) → Only (CommitCall s before run)
hb_commit_only s before run = shows_only change_in_c (commit_only s before run)

pub hb_abort_only : (s before : List ℕ) (run : ℕ) → Only (AbortCall s before run)
hb_abort_only s before run = shows_only change_in_c (abort_only s before run)

pub hb_convert_only : (s marks : List ℕ) → Only (ConvertCall s marks)
hb_convert_only s marks = shows_only conversion_in_c (convert_only s marks)

pub hb_dimacs_read_only : (lengths weights : List ℕ) (bound : ℕ) (old : List ℕ)
    → Only (ReadCall lengths weights bound old)
hb_dimacs_read_only lengths weights bound old = shows_only read_in_c (read_only lengths weights bound old)

pub hb_dimacs_write_only : (s lengths weights : List ℕ) → Only (WriteCall s lengths weights)
hb_dimacs_write_only s lengths weights = shows_only write_in_c (write_only s lengths weights)

pub hb_write_row_only : (a b wire kind count : ℕ) (before : List ℕ) → Only (WriteRowCall a b wire kind count before)
hb_write_row_only a b wire kind count before = shows_only row_in_c (write_row_only a b wire kind count before)

pub hb_mesh_only : (s : List ℕ) → Only (MeshCall s)
hb_mesh_only s = shows_only mesh_in_c (mesh_only s)
