-- The promise of heaviest allows one outcome, under any length test: of two heaviest runs each is at least as good as
-- the other, so they agree in weight, length and pair.
use Prim.Native.Nat.{ℕ}
use mathlib.Core.Path.{◌≡◌, sym, ap}
use mathlib.Core.List.{List}
use native.Mathlib.Omega.{arith}
use lib.Dec.{leb→le}
use lib.IntN.{ℤ, pos, negsuc}
use lib.Signed.{◌≤ℤ◌}
use Rattle.table.specs.Refuse.{Only}
use Rattle.table.specs.Header.{nodes_of}
use Rattle.table.proofs.Refusals.{unless_only}
use Rattle.tree.proofs.Begins.{begins_only}
use Rattle.pages.specs.Listing.{Entry, entry}
use Rattle.pages.proofs.Order.{one_pair}
use Rattle.heaviest.specs.Heaviest.{
  heaviest_refusal,
  AtLeast,
  Heaviest,
  GivesHeaviest,
  Chooses,
  HeaviestWithin,
  HeaviestOf,
  HeaviestExactOf,
  between,
}
use Rattle.std.specs.Prelude.{Ok, Err}

pub level : (y z : ℤ) → y ≤ℤ z → z ≤ℤ y → y ≡ z
level (pos m) (pos n) h k = ap pos (omega (arith, leb→le m n h.le, leb→le n m k.le))
level (pos m) (negsuc n) h k = absurd h.le
level (negsuc m) (pos n) h k = absurd k.le
level (negsuc m) (negsuc n) h k = ap negsuc (omega (arith, leb→le n m h.le, leb→le m n k.le))

pub heaviest_run_only : (P : Entry → Type 0) → Only (Heaviest P)
heaviest_run_only P e f p q =
    let a : AtLeast e f = p.best f q.one in
    let b : AtLeast f e = q.best e p.one in
    let w : e.weight ≡ f.weight = level e.weight f.weight b.weight a.weight in
    let l : e.length ≡ f.length = omega (arith, a.length (sym w), b.length w) in
    let c = one_pair e f (b.pair w l) (a.pair (sym w) (sym l)) in
    λ i. record { low = c.0 i; high = c.1 i; length = l i; weight = w i }

gives_only : (P : Entry → Type 0) → Only (GivesHeaviest P)
gives_only P (Ok o) (Ok o') p q =
    let e = heaviest_run_only P (entry o.low o.high o.length o.weight) (entry o'.low o'.high o'.length o'.weight) p q in
    λ i. between (e i).low (e i).high (e i).length (e i).weight
gives_only P (Ok o) (Err why) p q = absurd q
gives_only P (Err why) y p q = absurd p

pub goes_only : (none : ℕ) (Within : ℕ → Type 0) (s : List ℕ) (n : ℕ) (marks : List ℕ)
    → Only (Chooses none Within s n marks)
goes_only none Within s n marks = unless_only (unless_only (gives_only _))

pub heaviest_within_only : (none : ℕ) (Within : ℕ → Type 0) (s marks : List ℕ)
    → Only (HeaviestWithin none Within s marks)
heaviest_within_only none Within s marks = begins_only heaviest_refusal s (goes_only none Within s (nodes_of s) marks)

pub heaviest_only : (s marks : List ℕ) → Only (HeaviestOf s marks)
heaviest_only s = heaviest_within_only 16 _ s

pub heaviest_exact_only : (s marks : List ℕ) → Only (HeaviestExactOf s marks)
heaviest_exact_only s = heaviest_within_only 21 _ s
