-- Listings: one at the most, the same where the same entries qualify, two joined where the one comes before the other.
use mathlib.Core.Path.{◌≡◌}
use mathlib.Core.Logic.{◌⊎◌, inl, inr}
use mathlib.Core.List.{List, [], ◌∷◌, ◌++◌}
use Rattle.arrays.specs.Members.{In, at}
use Rattle.pages.specs.Listing.{Entry, Before, none, more, Listing}
use Rattle.arrays.proofs.Members.{not_nil, in_one, in_left, in_right, in_either}
use Rattle.pages.proofs.Rising.{rising_join, same_list}

pub listing_only : {P : Entry → Type 0} {l m : List Entry} → Listing P l → Listing P m → l ≡ m
listing_only {l} {m} a b =
    same_list l m a.rising b.rising (λ e h. b.complete e (a.sound e h)) (λ e h. a.complete e (b.sound e h))

pub listing_iff : {P Q : Entry → Type 0} {l : List Entry} → ((e : Entry) → P e → Q e) → ((e : Entry) → Q e → P e)
    → Listing P l → Listing Q l
listing_iff f g a =
    record { rising = a.rising; sound = λ e h. f e (a.sound e h); complete = λ e q. a.complete e (g e q) }

pub listing_none : {P : Entry → Type 0} → ((e : Entry) → P e → ⊥) → Listing P []
listing_none f = record { rising = none; sound = λ e h. absurd (not_nil h); complete = λ e p. absurd (f e p) }

pub listing_one : (e : Entry) → Listing (λ x. x ≡ e) (e ∷ [])
listing_one e =
    record { rising = more (λ y h. absurd (not_nil h)) none; sound = λ x h. in_one h; complete = λ x p. at p }

pub listing_join : {X Y Z : Entry → Type 0} {l m : List Entry} → Listing X l → Listing Y m
    → ((x y : Entry) → X x → Y y → Before x y) → ((x : Entry) → X x → Z x) → ((x : Entry) → Y x → Z x)
    → ((x : Entry) → Z x → X x ⊎ Y x) → Listing Z (l ++ m)
listing_join {X} {Y} {Z} {l} {m} a b before left right down = record {
  rising = rising_join l a.rising b.rising (λ x y h k. before x y (a.sound x h) (b.sound y k));
  sound = λ x h. side x (in_either l h);
  complete = λ x z. back x (down x z);
}
  where
    side : (x : Entry) → In x l ⊎ In x m → Z x
    side x (inl h) = left x (a.sound x h)
    side x (inr h) = right x (b.sound x h)

    back : (x : Entry) → X x ⊎ Y x → In x (l ++ m)
    back x (inl p) = in_left m (a.complete x p)
    back x (inr p) = in_right l (b.complete x p)
