-- Where the same entries belong, a list has the same verdict: by the entries that belong a row is good, and a pair
-- missing.
use Rattle.std.specs.Prelude.{Ok, Err}
use Prim.Native.Nat.{ℕ}
use mathlib.Core.List.{List}
use Rattle.pages.specs.Listing.{Entry}
use Rattle.vetting.specs.Vets.{GoodRow, FirstMissing, Vets, Vetted, GivesVerdict}
use Rattle.vetting.specs.declared.Verdict.{Verdict}
use Rattle.vetting.specs.declared.Verdict.TheVariants.{Yes, Fault, Missing}

good_map : {P Q : Entry → Type 0} → ((e : Entry) → P e → Q e) → {s : List ℕ} {i : ℕ} → GoodRow P s i
    → GoodRow Q s i
good_map f g =
    record { entry = g.entry; belongs = f g.entry g.belongs; shows = g.shows; new = g.new }

module _ {P Q : Entry → Type 0} (f : (e : Entry) → P e → Q e) (g : (e : Entry) → Q e → P e) where
  missing_iff : {s : List ℕ} {m low high : ℕ} → FirstMissing P s m low high → FirstMissing Q s m low high
  missing_iff x = record {
    entry = x.entry;
    belongs = f x.entry x.belongs;
    absent = x.absent;
    first = λ e q. x.first e (g e q);
    low_is = x.low_is;
    high_is = x.high_is;
  }

  pub vets_iff : (s : List ℕ) (m : ℕ) (v : Verdict) → Vets P s m v → Vets Q s m v
  vets_iff s m Yes p = (λ i h. good_map f (p.0 i h), λ e q. p.1 e (g e q))
  vets_iff s m (Fault i) p = (p.0, λ j h. good_map f (p.1 j h), λ b. p.2 (good_map g b))
  vets_iff s m (Missing a b) p = (λ i h. good_map f (p.0 i h), missing_iff p.1)

  pub verdict_iff : (s : List ℕ) (m : ℕ) (o : Vetted) → GivesVerdict P s m o → GivesVerdict Q s m o
  verdict_iff s m (Ok v) p = vets_iff s m v p
  verdict_iff s m (Err why) p = p
