-- Pages: one at the most; what follows a row of the list is what stands after it, so that pages one after the other
-- join up to the whole; each page begins with fewer to give, and gives some where some follow.
use Prim.Native.Nat.{ℕ, ◌+◌, ◌≤◌, ◌<◌}
use mathlib.Core.Path.{◌≡◌, refl, sym, ap, ◌∙◌}
use mathlib.Core.Logic.{◌⊎◌, inl, inr}
use mathlib.Core.List.{List, [], ◌∷◌, ◌++◌}
use native.Mathlib.Omega.{arith}
use native.Mathlib.Decide.{dec_lt}
use lib.ListN.{length, take, drop, take-append-drop, length-drop, length-take}
use lib.Seq.{take_all}
use Rattle.arrays.specs.Members.{In, at, past}
use Rattle.pages.specs.Listing.{Entry, Before, Listing}
use Rattle.pages.specs.Page.{Following, Page}
use Rattle.pages.specs.work.Pages.{PagesFrom, ends, goes}
use Rattle.pages.proofs.Order.{after_trans, after_self, after_both, after_start}
use Rattle.arrays.proofs.Members.{in_one, in_left, in_right, in_either}
use Rattle.pages.proofs.Rising.{rising_right, rising_left, rising_across}
use Rattle.pages.proofs.Listings.{listing_only, listing_iff}

-- what follows a row of the list is what stands after it
module _ {P : Entry → Type 0} {s t : ℕ} (front : List Entry) (e : Entry) (back : List Entry)
    (w : Listing (Following P s t) ((front ++ e ∷ []) ++ back)) where
  e_in : In e ((front ++ e ∷ []) ++ back)
  e_in = in_left back (in_right front (at refl))

  listing_back : Listing (Following P e.low e.high) back
  listing_back =
      record {
        rising = rising_right (front ++ e ∷ []) w.rising;
        sound =
            λ x h. (
              (w.sound x (in_right (front ++ e ∷ []) h)).0,
              rising_across (front ++ e ∷ []) back w.rising (in_right front (at refl)) h,
            );
        complete = λ x p. pick x p.1
            (in_either (front ++ e ∷ []) (w.complete x (p.0, after_trans (w.sound e e_in).1 p.1)));
      }
    where
      upto : (x : Entry) → Before e x → In x front ⊎ In x (e ∷ []) → ⊥
      upto x b (inl h) =
          after_both b (rising_across front (e ∷ []) (rising_left (front ++ e ∷ []) back w.rising) h (at refl))
      upto x b (inr h) = after_self (rw (in_one h) at b)

      pick : (x : Entry) → Before e x → In x (front ++ e ∷ []) ⊎ In x back → In x back
      pick x b (inl h) = absurd (upto x b (in_either front h))
      pick x b (inr h) = h

in_some : {e : Entry} {l : List Entry} → In e l → 0 < length l
in_some (at q) = omega arith
in_some (past i) = omega arith

module _ {P : Entry → Type 0} where
  page_next : {s t room left : ℕ} {given : List Entry} (front : List Entry) (e : Entry) (p : Page P s t room given left)
      → given ≡ front ++ e ∷ [] → Listing (Following P e.low e.high) (drop room p.rows)
  page_next {s} {t} {room} {given} front e p q =
      listing_back {s = s} {t = t} front e (drop room p.rows)
      (rw (sym q, p.fit, take-append-drop room p.rows) p.all)

  page_whole : {s t room : ℕ} {given : List Entry} (p : Page P s t room given 0) → given ≡ p.rows
  page_whole {room} {given} p =
      p.fit ∙ take_all room p.rows (omega (arith, ap length p.fit, length-take room p.rows, p.rest))

  -- A page's rows and what the pages after it give are all that follows its start
  pub pages_listing : {s t : ℕ} {joined : List Entry} → PagesFrom P s t joined → Listing (Following P s t) joined
  pages_listing (ends k p) = rw (page_whole p) p.all
  pages_listing (goes {room} {given} {later} front e k p z q r) =
      rw (joined (listing_only (page_next front e p q) (pages_listing r))) p.all
    where
      joined : drop room p.rows ≡ later → given ++ later ≡ p.rows
      joined h = rw (p.fit, ← h) (take-append-drop room p.rows)

  -- where the lower node stands first, all that qualifies follows (0, 0)
  pub whole_follows : {l : List Entry} → ((e : Entry) → P e → e.low < e.high) → Listing (Following P 0 0) l
      → Listing P l
  whole_follows f = listing_iff (λ e p. p.0) (λ e p. (p, after_start e (f e p)))

  -- given and left together are what follows the start
  pub page_count : {s t room left : ℕ} {given whole : List Entry} → Page P s t room given left
      → Listing (Following P s t) whole → length given + left ≡ length whole
  page_count p w = p.rest ∙ ap length (listing_only p.all w)

  -- where some are left, the page is full: the next start is there, and the next page begins with fewer to give
  pub page_full : {s t room left : ℕ} {given : List Entry} → 0 < left → Page P s t room given left → length given ≡ room
  page_full {room} {left} {given} z p = omega (arith, ap length p.fit, length-take room p.rows, p.rest)

  -- where some follow the start, a page with room for one row gives some
  pub page_some : {s t room left : ℕ} {given : List Entry} {e : Entry} → 1 ≤ room → Page P s t room given left
      → Following P s t e → 0 < length given
  page_some {room = room} k p f =
      omega (arith, ap length p.fit, length-take room p.rows, in_some (p.all.complete _ f))

  next_left : {s t room room₂ left left₂ : ℕ} {given given₂ : List Entry} (front : List Entry) (e : Entry)
      → Page P s t room given left → 0 < left → given ≡ front ++ e ∷ [] → Page P e.low e.high room₂ given₂ left₂
      → length given₂ + left₂ ≡ left
  next_left {room} front e p z q p₂ =
      omega (
        arith,
        page_count p₂ (page_next front e p q),
        length-drop room p.rows,
        ap length p.fit,
        length-take room p.rows,
        p.rest,
      )

  pub next_fewer : {s t room room₂ left left₂ : ℕ} {given given₂ : List Entry} (front : List Entry) (e : Entry)
      → Page P s t room given left → 0 < left → given ≡ front ++ e ∷ [] → 1 ≤ room₂
      → Page P e.low e.high room₂ given₂ left₂ → left₂ < left
  next_fewer {room₂} {left} {left₂} {given₂} front e p z q k p₂ = pick (dec_lt 0 left₂) (next_left front e p z q p₂)
    where
      pick : Dec (0 < left₂) → length given₂ + left₂ ≡ left → left₂ < left
      pick (yes y) h = omega (arith, page_full y p₂)
      pick (no y) h = omega arith

  pub page_only : {s t room left left₂ : ℕ} {given given₂ : List Entry} → Page P s t room given left
      → Page P s t room given₂ left₂ → (given ≡ given₂) × (left ≡ left₂)
  page_only {room} {given} {given₂} p q = (
    rows,
    omega (arith, ap length rows, p.rest, q.rest, ap length (listing_only p.all q.all)),
  )
    where
      rows : given ≡ given₂
      rows = p.fit ∙ ap (take room) (listing_only p.all q.all) ∙ sym q.fit

-- the same entries qualify: the same page
pub page_iff : {P Q : Entry → Type 0} {s t room left : ℕ} {given : List Entry} → ((e : Entry) → P e → Q e)
    → ((e : Entry) → Q e → P e) → Page P s t room given left → Page Q s t room given left
page_iff f g p =
    record {
      rows = p.rows;
      all = listing_iff (λ e h. (f e h.0, h.1)) (λ e h. (g e h.0, h.1)) p.all;
      fit = p.fit;
      rest = p.rest;
    }

-- a list that is not empty has a last row
pub snoc : (l : List Entry) → 0 < length l → (front : List Entry) × (e : Entry) × (l ≡ front ++ e ∷ [])
snoc [] h = absurd (omega arith)
snoc (x ∷ []) h = ([], x, refl)
snoc (x ∷ (y ∷ l)) h = let t = snoc (y ∷ l) (omega arith) in (x ∷ t.0, t.1, ap (λ m. x ∷ m) t.2)
