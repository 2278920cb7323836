-- A page that is filling: it starts empty; an entry more is written or counted; the listing of more entries goes in one
-- by one, in order.
use Prim.Native.Nat.{ℕ, ◌+◌, ◌*◌, ◌/◌, ◌≤◌, ◌<◌}
use mathlib.Core.Path.{◌≡◌, refl, sym, ◌∙◌}
use mathlib.Core.Logic.{◌⊎◌}
use mathlib.Core.List.{List, [], ◌∷◌, ◌++◌, append_assoc, append-nil}
use native.Mathlib.Omega.{arith}
use native.Mathlib.Decide.{dec_lt}
use lib.ListN.{length, take, drop, length-append, length-drop, length-take}
use lib.Seq.{sets, length-sets, take-append-le, take_all, drop-drop}
use Rattle.pages.specs.Listing.{Entry, Before}
use Rattle.pages.specs.Bytes.{row, rows}
use Rattle.pages.specs.work.Filling.{Fills, Added, GrownBy}
use Rattle.pages.proofs.Listings.{listing_iff, listing_none, listing_one, listing_join}
use Rattle.pages.proofs.Rows.{row_length, rows_length, rows_end, sets_after}

pub fills_none : (old : List ℕ) → Fills old [] 0 0 old
unfolding rows
fills_none old = record { room = omega arith; total = refl; full = λ h. absurd (omega arith); written = refl }

module _ {old : List ℕ} {seen : List Entry} {given left : ℕ} {out : List ℕ} (f : Fills old seen given left out) where
  pub fills_length : length out ≡ length old
  fills_length =
      rw f.written (simp (length-append, rows_length, length-drop, length-take) (omega (arith, f.room, f.total)))

  fills_count : (e : Entry) → length old < 16 * given + 16 → Fills old (seen ++ e ∷ []) given (left + 1) out
  fills_count e h = record {
    room = f.room;
    total = omega (arith, f.total, length-append seen (e ∷ []));
    full = λ z. h;
    written = rw (take-append-le given seen (e ∷ []) (omega (arith, f.total))) f.written;
  }

  fills_write : (e : Entry) → 16 * given + 16 ≤ length old
      → Fills old (seen ++ e ∷ []) (given + 1) left (sets out (16 * given) (row e))
  fills_write e h =
      record {
        room = omega arith;
        total = omega (arith, f.total, length-append seen (e ∷ []));
        full = λ z. absurd (omega (arith, f.full z));
        written = rw (
          f.written,
          take_all given seen (omega (arith, none_left, f.total)),
          take_all (given + 1) (seen ++ e ∷ []) (omega (arith, none_left, f.total, length-append seen (e ∷ []))),
          rows_end seen e,
        )
            (sets_after (rows seen) (drop (16 * given) old) (row e) (16 * given)
            (omega (arith, rows_length seen, none_left, f.total))
            (omega (arith, row_length e, length-drop (16 * given) old))
            ∙ rw (row_length e, drop-drop 16 (16 * given) old, more) refl);
      }
    where
      none_left : left ≡ 0
      none_left = pick (dec_lt 0 left)
        where
          pick : Dec (0 < left) → left ≡ 0
          pick (yes z) = absurd (omega (arith, f.full z))
          pick (no z) = omega arith

      more : 16 * given + 16 ≡ 16 * (given + 1)
      more = omega arith

  -- the rows given are as many as fit
  pub fills_fit : take given seen ≡ take (length old / 16) seen
  fills_fit = pick (dec_lt 0 left)
    where
      pick : Dec (0 < left) → take given seen ≡ take (length old / 16) seen
      pick (yes z) = let e : given ≡ length old / 16 = omega (arith, f.full z, f.room) in rw e
      pick (no z) =
          take_all given seen (omega (arith, f.total))
          ∙ sym (take_all (length old / 16) seen (omega (arith, f.total, f.room)))

-- a row more where there is room, one more left over where there is none
module _ {old : List ℕ} {room given left : ℕ} (a : 16 * room ≤ length old) (b : length old < 16 * room + 16)
    (e : Entry) where
  pub added_row : (now : List ℕ) → given < room → now ≡ sets old (16 * given) (row e)
      → Added e old given left now (given + 1) left
  added_row now h q = record {
    fills = λ page seen f. rw q (fills_write f e (omega (arith, fills_length f)));
    same = rw q (length-sets old (16 * given) (row e));
    few = omega arith;
  }

  pub added_left : room ≤ given → Added e old given left old given (left + 1)
  added_left h = record {
    fills = λ page seen f. fills_count f e (omega (arith, fills_length f));
    same = refl;
    few = omega arith;
  }

pub grown_none : {X : Entry → Type 0} (old : List ℕ) (given left : ℕ) → ((e : Entry) → X e → ⊥)
    → GrownBy X old given left old given left
grown_none old given left f =
    record { found = []; all = listing_none f; fills = λ page seen h. rw append-nil h; same = refl }

pub grown_iff : {X Y : Entry → Type 0} {old now : List ℕ} {g l g₁ l₁ : ℕ} → ((e : Entry) → X e → Y e)
    → ((e : Entry) → Y e → X e) → GrownBy X old g l now g₁ l₁ → GrownBy Y old g l now g₁ l₁
grown_iff f b r = record { found = r.found; all = listing_iff f b r.all; fills = r.fills; same = r.same }

-- one entry more, after all the others
pub grown_end : {X Y : Entry → Type 0} {old mid now : List ℕ} {g l g₁ l₁ g₂ l₂ : ℕ} (e : Entry)
    → GrownBy X old g l mid g₁ l₁ → Added e mid g₁ l₁ now g₂ l₂ → Y e → ((x : Entry) → X x → Y x)
    → ((x : Entry) → X x → Before x e) → ((x : Entry) → Y x → X x ⊎ (x ≡ e)) → GrownBy Y old g l now g₂ l₂
grown_end {Y} e r a y up before down =
    record {
      found = r.found ++ e ∷ [];
      all = listing_join r.all (listing_one e) (λ x z p q. rw q (before x p)) up (λ x q. rw q y) down;
      fills = λ page seen h. rw (← append_assoc seen r.found (e ∷ []))
          (a.fills page (seen ++ r.found) (r.fills page seen h));
      same = a.same ∙ r.same;
    }
