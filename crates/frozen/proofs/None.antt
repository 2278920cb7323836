-- A CHANGE SET OF 6 BYTES CHANGES NOTHING: with it each operation allows exactly the outcome that it allows without a
-- set, both ways. Every promise begins with 1 to 6, which are then said twice.
use Rattle.vetting.specs.Vets.{Vetted}
use Prim.Native.Nat.{ℕ}
use mathlib.Core.Path.{◌≡◌}
use mathlib.Core.List.{List}
use mathlib.Core.Logic.{◌↔◌}
use lib.IntN.{ℤ}
use lib.ListN.{length}
use Rattle.table.specs.Header.{Header}
use Rattle.table.specs.Refuse.{passed}
use Rattle.table.proofs.Refusals.{settled, unless_map}
use Rattle.table.proofs.Accepted.{header_map}
use Rattle.accept.specs.Accept.{accept_refusal, AcceptOf, AcceptAnswer}
use Rattle.spines.specs.Heads.{heads_refusal, Headings, HeadsAnswer}
use Rattle.changes.specs.Change.{change_refusal, Commits, Aborts, Change}
use Rattle.changes.specs.Claim.{Claims}
use Rattle.convert.specs.Convert.{conversion_refusal, Converts, Conversion}
use Rattle.pair.specs.Pair.{pair_refusal, PairOf, PairAnswer}
use Rattle.heaviest.specs.Heaviest.{heaviest_refusal, HeaviestOf, HeaviestExactOf, HeaviestAnswer}
use Rattle.paging.specs.Paging.{listing_refusal, Listed}
use Rattle.listing.specs.Listing.{ListingOf, ListingExactOf}
use Rattle.window.specs.Window.{Window, window_refusal, WindowOf, WindowAnswer}
use Rattle.window.specs.List.{WindowListOf}
use Rattle.vet.specs.Vet.{vet_refusal, VetOf}
use Rattle.dimacs.specs.Write.{Wrote, write_refusal, WriteOf}
use Rattle.changeset.specs.Entries.{Formed}
use Rattle.changeset.specs.With.{With}
use Rattle.changeset.proofs.Withs.{with_none, none_with, header_once, header_twice}
use Rattle.frozen.specs.Calls.{
  AcceptWith,
  PairWith,
  HeaviestWith,
  HeaviestExactWith,
  HeadsWith,
  ListingWith,
  ListingExactWith,
  WindowWith,
  WindowListWith,
  VetWith,
  ClaimsWith,
  CommitsWith,
  AbortsWith,
  ConvertsWith,
  WriteWith,
}

module _ (s c : List ℕ) (f : Formed c) (six : length c ≡ 6) where
  -- of any promise that begins with 1 to 6
  none : {A : Type 0} (refuse : ℕ → ℕ → ℕ → A) (rest : List ℕ → A → Type 0) (x : A)
      → (With A refuse s c (λ t. Header A (λ k r. refuse k r 0) t (rest t)) x) ↔
      (Header A (λ k r. refuse k r 0) s (rest s) x)
  none refuse rest x = (
    λ p. header_once (λ k r. refuse k r 0) s (with_none refuse s c f six p),
    λ p. none_with refuse s c f six (header_twice (λ k r. refuse k r 0) s p),
  )

  pub accept_none : (x : AcceptAnswer) → (AcceptWith s c x) ↔ (AcceptOf s x)
  accept_none x = none accept_refusal _ x

  pub heads_none : (before : List ℕ) (x : HeadsAnswer × List ℕ) → (HeadsWith s c before x) ↔ (Headings s before x)
  heads_none before x = none (heads_refusal before) _ x

  -- writing begins with 1 to 3 of its own
  pub write_none : (lengths weights : List ℕ) (x : Wrote)
      → (WriteWith s c lengths weights x) ↔ (WriteOf s lengths weights x)
  write_none lengths weights x =
      let refuse = write_refusal lengths weights in (
        unless_map (λ z. z)
            (λ a. unless_map (λ z. z)
            (λ b. unless_map (λ z. z)
            (λ d p. header_once (λ k r. refuse k r 0) s
            (header_map (λ z. z) (λ k r. refuse k r 0) s (λ _ q. settled d (settled b (settled a q)))
            (with_none refuse s c f six p))))),
        unless_map (λ z. z)
            (λ a. unless_map (λ z. z)
            (λ b. unless_map (λ z. z)
            (λ d p. none_with refuse s c f six
            (header_map (λ z. z) (λ k r. refuse k r 0) s (λ _ q. passed a (passed b (passed d q)))
            (header_twice (λ k r. refuse k r 0) s p))))),
      )

  module _ (marks : List ℕ) where
    pub pair_none : (a b : ℕ) (x : PairAnswer) → (PairWith s c marks a b x) ↔ (PairOf s marks a b x)
    pair_none a b x = none pair_refusal _ x

    pub heaviest_none : (x : HeaviestAnswer) → (HeaviestWith s c marks x) ↔ (HeaviestOf s marks x)
    heaviest_none x = none heaviest_refusal _ x

    pub heaviest_exact_none : (x : HeaviestAnswer) → (HeaviestExactWith s c marks x) ↔ (HeaviestExactOf s marks x)
    heaviest_exact_none x = none heaviest_refusal _ x

    pub listing_none : (floor : ℤ) (low high : ℕ) (old : List ℕ) (x : Listed × List ℕ)
        → (ListingWith s c marks floor low high old x) ↔ (ListingOf s marks floor low high old x)
    listing_none floor low high old x = none (listing_refusal old) _ x

    pub listing_exact_none : (floor : ℤ) (low high : ℕ) (old : List ℕ) (x : Listed × List ℕ)
        → (ListingExactWith s c marks floor low high old x) ↔ (ListingExactOf s marks floor low high old x)
    listing_exact_none floor low high old x = none (listing_refusal old) _ x

    pub window_none : (w : Window) (x : WindowAnswer) → (WindowWith s c marks w x) ↔ (WindowOf s marks w x)
    window_none w x = none window_refusal _ x

    pub window_list_none : (w : Window) (low high : ℕ) (old : List ℕ) (x : Listed × List ℕ)
        → (WindowListWith s c marks w low high old x) ↔ (WindowListOf s marks w low high old x)
    window_list_none w low high old x = none (listing_refusal old) _ x

    pub vet_none : (floor : ℤ) (list : List ℕ) (x : Vetted)
        → (VetWith s c marks floor list x) ↔ (VetOf s marks floor list x)
    vet_none floor list x = none vet_refusal _ x

    pub convert_none : (x : Conversion) → (ConvertsWith s c marks x) ↔ (Converts s marks x)
    convert_none x = none conversion_refusal _ x

  module _ (before : List ℕ) (run : ℕ) (x : Change × List ℕ) where
    pub claim_none : (a b : ℕ) → (ClaimsWith s c before run a b x) ↔ (Claims s before run a b x)
    claim_none a b = none (change_refusal before) _ x

    pub commit_none : (CommitsWith s c before run x) ↔ (Commits s before run x)
    commit_none = none (change_refusal before) _ x

    pub abort_none : (AbortsWith s c before run x) ↔ (Aborts s before run x)
    abort_none = none (change_refusal before) _ x
