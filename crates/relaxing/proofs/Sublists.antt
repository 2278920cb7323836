-- A rising list whose members are all in another rising list is a sublist of it: what stays, stays in its order.
use mathlib.Core.Path.{◌≡◌, refl, sym, ◌∙◌}
use mathlib.Core.Logic.{◌⊎◌, inl, inr}
use mathlib.Core.List.{List, [], ◌∷◌}
use Rattle.arrays.specs.Members.{In, at, past}
use Rattle.arrays.proofs.Members.{not_nil, in_cases}
use Rattle.pages.specs.Listing.{Entry, Rising, Listing}
use Rattle.pages.proofs.Order.{after_self, after_both}
use Rattle.pages.proofs.Rising.{rising_head, rising_tail}
use Rattle.relaxing.specs.Relaxed.{Sublist, none, kept, left_out}

abbrev AllIn : List Entry → List Entry → Type 0
AllIn l m = (e : Entry) → In e l → In e m

sublist : (l m : List Entry) → Rising l → Rising m → AllIn l m → Sublist l m
sublist [] [] r q f = none
sublist [] (y ∷ m) r q f = left_out (sublist [] m r (rising_tail q) (λ e h. absurd (not_nil h)))
sublist (x ∷ l) [] r q f = absurd (not_nil (f x (at refl)))
sublist (x ∷ l) (y ∷ m) r q f =
    pick (in_cases (f x (at refl))) (sublist l m (rising_tail r) (rising_tail q)) (sublist (x ∷ l) m r (rising_tail q))
  where
    -- the heads are the same: those after it are no head
    after_head : x ≡ y → AllIn l m
    after_head e z h = drop (in_cases (f z (past h)))
      where
        drop : (z ≡ y) ⊎ In z m → In z m
        drop (inl g) = absurd (after_self (rw (g ∙ sym e) at (rising_head r z h)))
        drop (inr k) = k

    -- the first head comes later: the second is none of its list
    after_other : In x m → AllIn (x ∷ l) m
    after_other k z h = drop (in_cases (f z h)) (in_cases h)
      where
        drop : (z ≡ y) ⊎ In z m → (z ≡ x) ⊎ In z l → In z m
        drop (inr g) c = g
        drop (inl g) (inl c) = rw c k
        drop (inl g) (inr c) = absurd (after_both (rw g at (rising_head r z c)) (rising_head q x k))

    pick : (x ≡ y) ⊎ In x m → (AllIn l m → Sublist l m) → (AllIn (x ∷ l) m → Sublist (x ∷ l) m)
        → Sublist (x ∷ l) (y ∷ m)
    pick (inl e) both later = rw e (kept (both (after_head e)))
    pick (inr k) both later = left_out (later (after_other k))

pub listing_sublist : {P Q : Entry → Type 0} {l m : List Entry} → ((e : Entry) → P e → Q e) → Listing P l
    → Listing Q m → Sublist l m
listing_sublist {l} {m} f a b = sublist l m a.rising b.rising (λ e h. b.complete e (f e (a.sound e h)))
