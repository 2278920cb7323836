-- One verdict on a list: no two rows are both the first at fault, and no two pairs both the first missing.
use Rattle.std.specs.Prelude.{Ok, Err}
use Prim.Native.Nat.{ℕ, ◌<◌}
use mathlib.Core.Path.{◌≡◌, refl, sym, ◌∙◌}
use mathlib.Core.List.{List}
use native.Mathlib.Omega.{arith}
use native.Mathlib.Decide.{dec_lt}
use Rattle.table.specs.Refuse.{Only}
use Rattle.pages.specs.Listing.{Entry}
use Rattle.pages.proofs.Order.{one_pair}
use Rattle.vetting.specs.Vets.{GoodRow, FirstMissing, Vets, GivesVerdict}
use Rattle.vetting.specs.declared.Verdict.TheVariants.{Yes, Fault, Missing}

module _ {P : Entry → Type 0} {s : List ℕ} where
  one_fault : (i j : ℕ) → ((k : ℕ) → k < i → GoodRow P s k) → ¬ GoodRow P s i → ((k : ℕ) → k < j → GoodRow P s k)
      → ¬ GoodRow P s j → i ≡ j
  one_fault i j a b c d = pick (dec_lt i j) (dec_lt j i)
    where
      pick : Dec (i < j) → Dec (j < i) → i ≡ j
      pick (yes h) k = absurd (b (c i h))
      pick (no h) (yes k) = absurd (d (a j k))
      pick (no h) (no k) = omega arith

  one_missing : {m a b c d : ℕ} → FirstMissing P s m a b → FirstMissing P s m c d → (a ≡ c) × (b ≡ d)
  one_missing x y =
      let e = one_pair x.entry y.entry (λ h. x.absent (y.first x.entry x.belongs h))
      (λ h. y.absent (x.first y.entry y.belongs h)) in
      (x.low_is ∙ e.0 ∙ sym y.low_is, x.high_is ∙ e.1 ∙ sym y.high_is)

pub vets_only : (P : Entry → Type 0) (s : List ℕ) (m : ℕ) → Only (Vets P s m)
vets_only P s m Yes Yes p q = refl
vets_only P s m Yes (Fault i) p q = absurd (q.2 (p.0 i q.0))
vets_only P s m Yes (Missing a b) p q = absurd (q.1.absent (p.1 q.1.entry q.1.belongs))
vets_only P s m (Fault i) Yes p q = absurd (p.2 (q.0 i p.0))
vets_only P s m (Fault i) (Fault j) p q = cc (one_fault i j p.1 p.2 q.1 q.2)
vets_only P s m (Fault i) (Missing a b) p q = absurd (p.2 (q.0 i p.0))
vets_only P s m (Missing a b) Yes p q = absurd (p.1.absent (q.1 p.1.entry p.1.belongs))
vets_only P s m (Missing a b) (Fault i) p q = absurd (q.2 (p.0 i q.0))
vets_only P s m (Missing a b) (Missing c d) p q =
    let e = one_missing p.1 q.1 in
    cc (e.0, e.1)

-- and the same of what vet gives
pub verdict_only : (P : Entry → Type 0) (s : List ℕ) (m : ℕ) → Only (GivesVerdict P s m)
verdict_only P s m (Ok v) (Ok w) p q = cc (vets_only P s m v w p q)
verdict_only P s m (Ok v) (Err why) p q = absurd q
verdict_only P s m (Err why) y p q = absurd p
