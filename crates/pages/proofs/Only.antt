-- One outcome only: of a page in lent bytes, of the lifts of a floor and of a ceiling, of the second node to begin
-- with. A page is the same where the same entries qualify.
use Prim.Native.Nat.{ℕ, ◌/◌, ◌≤◌, ◌<◌}
use mathlib.Core.Path.{◌≡◌, refl, sym, ap, ◌∙◌}
use mathlib.Core.List.{List, []}
use native.Mathlib.Omega.{arith}
use native.Mathlib.Decide.{dec_lt}
use lib.IntN.{ℤ}
use lib.ListN.{length}
use lib.Seq.{take-nil}
use Rattle.table.specs.Refuse.{Only}
use Rattle.pages.specs.Listing.{Entry}
use Rattle.pages.specs.Bytes.{rows}
use Rattle.pages.specs.Paged.{Paged}
use Rattle.pages.specs.work.Lowered.{lower, Raised, Capped}
use Rattle.pages.specs.work.Filling.{Starts}
use Rattle.pages.proofs.Lift.{lower_is}
use Rattle.pages.proofs.Listings.{listing_none}
use Rattle.pages.proofs.Pages.{page_iff, page_only}

pub paged_only : {P : Entry → Type 0} {s t : ℕ} {old : List ℕ} {g l g₁ l₁ : ℕ} {now now₁ : List ℕ}
    → Paged P s t old g l now → Paged P s t old g₁ l₁ now₁ → (g ≡ g₁) × (l ≡ l₁) × (now ≡ now₁)
paged_only {old} {g} {g₁} a b =
    let e = page_only a.page b.page in
    let q : g ≡ g₁ = a.count ∙ ap length e.0 ∙ sym b.count in
    (q, e.1, a.bytes ∙ rw (e.0, q) (sym b.bytes))

-- the same entries qualify: the same page
pub paged_iff : {P Q : Entry → Type 0} {s t : ℕ} {old : List ℕ} {given left : ℕ} {now : List ℕ}
    → ((e : Entry) → P e → Q e) → ((e : Entry) → Q e → P e) → Paged P s t old given left now
    → Paged Q s t old given left now
paged_iff f g p = record { some = p.some; page = page_iff f g p.page; count = p.count; bytes = p.bytes }

-- none qualifies: nothing is given, nothing is left, and no byte changes
pub paged_none : {P : Entry → Type 0} {s t : ℕ} {old : List ℕ} → ((e : Entry) → P e → ⊥) → Paged P s t old 0 0 old
unfolding rows
paged_none {old = old} f =
    record {
      some = [];
      page = record {
        rows = [];
        all = listing_none (λ e p. f e p.0);
        fit = sym (take-nil (length old / 16));
        rest = refl;
      };
      count = refl;
      bytes = refl;
    }

pub raised_only : (floor : ℤ) → Only (Raised floor)
raised_only floor x y a b =
    let p : y ≤ x = b.needed x (lower x) (lower_is x) (a.enough x (lower x) (lower_is x) (omega arith)) in
    let q : x ≤ y = a.needed y (lower y) (lower_is y) (b.enough y (lower y) (lower_is y) (omega arith)) in
    omega arith

pub capped_only : (ceiling : ℤ) → Only (Capped ceiling)
capped_only ceiling x y a b = pick (dec_lt x y) (dec_lt y x)
  where
    apart : (x y : ℕ) → Capped ceiling x → Capped ceiling y → x < y → ⊥
    apart x y a b h =
        omega (arith, a.needed x (lower x) (lower_is x) (b.enough x (lower x) (lower_is x) h))

    pick : Dec (x < y) → Dec (y < x) → x ≡ y
    pick (yes h) e = absurd (apart x y a b h)
    pick (no h) (yes g) = absurd (apart y x b a g)
    pick (no h) (no g) = omega arith

pub starts_only : (s t u n : ℕ) → Only (Starts s t u n)
starts_only s t u n x y a b = pick (dec_lt x y) (dec_lt y x)
  where
    apart : (x y : ℕ) → Starts s t u n x → Starts s t u n y → x < y → ⊥
    apart x y a b h =
        let c : x < n = omega (arith, b.within) in
        let d = a.after x c (omega arith) in
        omega (arith, b.before x c d.0 d.1)

    pick : Dec (x < y) → Dec (y < x) → x ≡ y
    pick (yes h) e = absurd (apart x y a b h)
    pick (no h) (yes g) = absurd (apart y x b a g)
    pick (no h) (no g) = omega arith
