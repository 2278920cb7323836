-- Each promise of this crate allows one outcome. The header's and the rows' follow along their lists of refusals; a
-- part, a row number and a row by whether the row stands there.
use mathlib.Core.Path.{◌≡◌, refl, sym, ◌∙◌}
use mathlib.Core.List.{List, []}
use Prim.Native.Nat.{ℕ, ◌+◌, ◌*◌, ◌<◌}
use native.Mathlib.Decide.{dec_le, dec_lt}
use native.Mathlib.Omega.{arith}
use lib.ListN.{length}
use Rattle.table.specs.Refuse.{Only}
use Rattle.table.specs.Header.{Header, nodes_of}
use Rattle.table.specs.Signed.{InRange}
use Rattle.table.specs.Row.{Stands, PartOf, NextOf, RowOf, row_at}
use Rattle.table.specs.Reader.{HeldOf, Stepped, FirstOf}
use Rattle.table.specs.work.Lift.{LiftedOf, LoweredOf}
use Rattle.table.specs.Examine.{Tested}
use Rattle.table.specs.Opens.{opening_refusal, Opens, Examines}
use Rattle.table.proofs.Refusals.{unless_both, first_bad_both}
use Rattle.table.proofs.Range.{within?}
use Rattle.table.proofs.Accepted.{row_number_only}
use Rattle.table.proofs.Lift.{diff_only, lift_only}

-- two promises that begin with one table's own tests give related outcomes, where each refusal is related to itself and
-- what follows is; so one outcome, where what follows allows one
module _ {A : Type 0} (R : A → A → Type 0) (refuse : ℕ → ℕ → A) (self : (k r : ℕ) → R (refuse k r) (refuse k r))
    (s : List ℕ) where
  header_both : {rest rest' : A → Type 0} → ((x y : A) → rest x → rest' y → R x y) → (x y : A)
      → Header A refuse s rest x → Header A refuse s rest' y → R x y
  header_both o =
      unless_both R (self 1 0)
      (λ _. unless_both R (self 2 0)
      (λ _. unless_both R (self 3 0)
      (λ _. unless_both R (self 4 0) (λ _. unless_both R (self 5 0) (λ _. unless_both R (self 6 0) (λ _. o))))))

  pub tested_both : {rest rest' : A → Type 0} → ((x y : A) → rest x → rest' y → R x y) → (x y : A)
      → Tested A refuse s rest x → Tested A refuse s rest' y → R x y
  tested_both o = header_both (first_bad_both R self (row_number_only (nodes_of s) s) o)

pub header_only : {A : Type 0} (refuse : ℕ → ℕ → A) (s : List ℕ) {rest : A → Type 0} → Only rest
    → Only (Header A refuse s rest)
header_only refuse s = header_both (λ x y. x ≡ y) refuse (λ k r. refl) s

tested_only : {A : Type 0} (refuse : ℕ → ℕ → A) (s : List ℕ) {rest : A → Type 0} → Only rest
    → Only (Tested A refuse s rest)
tested_only refuse s = tested_both (λ x y. x ≡ y) refuse (λ k r. refl) s

pub open_only : (s : List ℕ) → Only (Opens s)
open_only s = header_only opening_refusal s (λ x y p q. p ∙ sym q)

pub examine_only : (s : List ℕ) → Only (Examines s)
examine_only s = tested_only opening_refusal s (λ x y p q. p ∙ sym q)

-- a row stands, or it does not
by_row : {C : Type 0} (s : List ℕ) (r : ℕ) → (Stands s r → C) → ((Stands s r → ⊥) → C) → C
by_row {C} s r f g = pick (dec_le (24 + 12 * r) (length s))
  where
    pick : Dec (Stands s r) → C
    pick (yes h) = f h
    pick (no h) = g h

pub part_only : (s : List ℕ) (home : ℕ × ℕ) (r : ℕ) (q q' : List ℕ) (place place' : ℕ × ℕ) → PartOf s home r q place
    → PartOf s home r q' place' → (q ≡ q') × (place ≡ place')
part_only s home r q q' place place' p p' =
    by_row s r (λ h. (p.bytes h ∙ sym (p'.bytes h), p.own h ∙ sym (p'.own h)))
    (λ h. (p.none h ∙ sym (p'.none h), p.none_at h ∙ sym (p'.none_at h)))

pub next_only : (s : List ℕ) (r : ℕ) → Only (NextOf s r)
next_only s r x y p q = by_row s r (λ h. p.moves h ∙ sym (q.moves h)) (λ h. p.stays h ∙ sym (q.stays h))

pub row_only : (s : List ℕ) (r : ℕ) → Only (RowOf s r)
row_only s r x y p q = by_row s r (λ h. p.there h ∙ sym (q.there h)) (λ h. p.none h ∙ sym (q.none h))

-- by whether its weight is in range too (`within?`)
pub lifted_only : (s : List ℕ) (r : ℕ) → Only (LiftedOf s r)
lifted_only s r x y p q =
    by_row s r (λ h. pick h (within? (row_at s r).weight)) (λ h. p.none (λ k w. h k) ∙ sym (q.none (λ k w. h k)))
  where
    pick : Stands s r → Dec (InRange (row_at s r).weight) → x ≡ y
    pick h (yes w) = lift_only (p.lifts h w) (q.lifts h w)
    pick h (no n) = p.none (λ k w. n w) ∙ sym (q.none (λ k w. n w))

pub lowered_only : (x : ℕ) → Only (LoweredOf x)
lowered_only x y z p q = pick (dec_lt x 17179869184)
  where
    pick : Dec (x < 17179869184) → y ≡ z
    pick (yes h) = diff_only (p.back h) (q.back h)
    pick (no h) = p.none (omega arith) ∙ sym (q.none (omega arith))

-- the reader's
pub held_only : (s : List ℕ) (home : ℕ × ℕ) (q q' : List ℕ) (place place' : ℕ × ℕ) → HeldOf s home q place
    → HeldOf s home q' place' → (q ≡ q') × (place ≡ place')
held_only s home q q' place place' p p' = (
  header_only (λ _ _. []) s (λ x y a b. a ∙ sym b) q q' p.bytes p'.bytes,
  p.own ∙ sym p'.own,
)

pub step_only : (s : List ℕ) (home : ℕ × ℕ) (r : ℕ) (q q' : List ℕ) (place place' : ℕ × ℕ) (n n' : ℕ)
    → Stepped s home r q place n → Stepped s home r q' place' n' → ((q ≡ q') × (place ≡ place')) × (n ≡ n')
step_only s home r q q' place place' n n' p p' = (
  part_only s home r q q' place place' p.part p'.part,
  next_only s r n n' p.moved p'.moved,
)

pub first_only : (s : List ℕ) (home : ℕ × ℕ) (q q' : List ℕ) (place place' : ℕ × ℕ) → FirstOf s home q place
    → FirstOf s home q' place' → (q ≡ q') × (place ≡ place')
first_only s home q q' place place' p p' =
    let h = held_only s home p.kept p'.kept p.kept_at p'.kept_at p.of p'.of in
    part_only p'.kept p'.kept_at 0 q q' place place' (rw (h.0, h.1) at p.part) p'.part
