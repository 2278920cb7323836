-- Calls over a caller's bytes are pages one after the other: the two nodes read out of the last row written are that
-- row's.
use Prim.Native.Nat.{ℕ, ◌+◌, ◌-◌, ◌*◌, ◌/◌, ◌≤◌, ◌<◌}
use mathlib.Core.Path.{◌≡◌, refl, ap}
use mathlib.Core.List.{List, [], ◌∷◌, ◌++◌, append_assoc}
use native.Mathlib.Omega.{arith}
use lib.ListN.{length, take, drop, length-append, take-append-drop}
use lib.Seq.{take-append_seam}
use Rattle.table.specs.Bytes.{u16_at}
use Rattle.arrays.specs.Members.{In, at}
use Rattle.pages.specs.Listing.{Entry}
use Rattle.pages.specs.work.Pages.{PagesFrom, ends, goes}
use Rattle.pages.specs.Bytes.{row, rows}
use Rattle.pages.specs.Paged.{Paged}
use Rattle.pages.specs.work.Calls.{Calls, done, again}
use Rattle.arrays.proofs.Members.{in_left, in_right}
use Rattle.pages.proofs.Pages.{page_full, next_fewer, snoc}
use Rattle.pages.proofs.Rows.{rows_length, rows_end}
use Rattle.pages.proofs.Back.{low_back, high_back}

module _ {P : Entry → Type 0} (small : (e : Entry) → P e → (e.low < 65536) × (e.high < 65536)) where
  -- where some are left, the last row given, and its two nodes read out of the bytes
  last_given : {s t given left : ℕ} {old now : List ℕ} → 16 ≤ length old → (c : Paged P s t old given left now)
      → 0 < left
      → (front : List Entry)
      × (e : Entry)
      × (c.some ≡ front ++ e ∷ [])
      × (u16_at now (16 * (given - 1)) ≡ e.low)
      × (u16_at now (16 * (given - 1) + 2) ≡ e.high)
      × P e
  last_given {given = given} {old = old} {now = now} h c z =
      let w = snoc c.some (omega (arith, page_full {room = length old / 16} z c.page)) in
      (w.0, w.1, w.2, first_is w.0 w.1 w.2, second_is w.0 w.1 w.2, last_in w.0 w.1 w.2)
    where
      last_in : (front : List Entry) (e : Entry) → c.some ≡ front ++ e ∷ [] → P e
      last_in front e q =
          let m : In e c.some = rw q (in_right front (at refl)) in
          let k : In e c.page.rows = rw (c.page.fit, take-append-drop (length old / 16) c.page.rows)
          at (in_left (drop (length old / 16) c.page.rows) m) in
          (c.page.all.sound e k).0

      stands : (front : List Entry) (e : Entry) → c.some ≡ front ++ e ∷ []
          → now ≡ rows front ++ (row e ++ drop (16 * given) old)
      stands front e q = rw (c.bytes, q, rows_end front e) (append_assoc (rows front) (row e) (drop (16 * given) old))

      place : (front : List Entry) (e : Entry) → c.some ≡ front ++ e ∷ [] → length (rows front) ≡ 16 * (given - 1)
      place front e q = omega (arith, rows_length front, c.count, ap length q, length-append front (e ∷ []))

      first_is : (front : List Entry) (e : Entry) → c.some ≡ front ++ e ∷ [] → u16_at now (16 * (given - 1)) ≡ e.low
      first_is front e q =
          rw (stands front e q)
          (low_back (rows front) e (drop (16 * given) old) (16 * (given - 1)) (place front e q)
          (small e (last_in front e q)).0)

      second_is : (front : List Entry) (e : Entry) → c.some ≡ front ++ e ∷ []
          → u16_at now (16 * (given - 1) + 2) ≡ e.high
      second_is front e q =
          rw (stands front e q)
          (high_back (rows front) e (drop (16 * given) old) (16 * (given - 1)) (place front e q)
          (small e (last_in front e q)).1)

  pub calls_pages : {s t : ℕ} {joined : List Entry} → Calls P s t joined → PagesFrom P s t joined
  calls_pages (done {old} h c) = ends {room = length old / 16} (omega arith) c.page
  calls_pages (again {old} h c z r) =
      let w = last_given h c z in
      goes {room = length old / 16} w.0 w.1 (omega arith) c.page z w.2 (rw (w.3, w.4) at (calls_pages r))

  -- the next start is two numbers of 16 bits
  pub calls_next : {s t given left : ℕ} {old now : List ℕ} → 16 ≤ length old → Paged P s t old given left now → 0 < left
      → (u16_at now (16 * (given - 1)) < 65536) × (u16_at now (16 * (given - 1) + 2) < 65536)
  calls_next h c z =
      let w = last_given h c z in
      rw (w.3, w.4) (small w.1 w.5)

  -- each call begins with fewer to give than the one before
  pub calls_fewer : {s t given left given₂ left₂ : ℕ} {old now old₂ now₂ : List ℕ} → 16 ≤ length old
      → Paged P s t old given left now → 0 < left → 16 ≤ length old₂
      → Paged P (u16_at now (16 * (given - 1))) (u16_at now (16 * (given - 1) + 2)) old₂ given₂ left₂ now₂ → left₂ <
      left
  calls_fewer {old₂} h c z h₂ d =
      let w = last_given h c z in
      next_fewer w.0 w.1 c.page z w.2 (omega arith) (rw (w.3, w.4) at d.page)

-- what a call wrote
pub paged_written : {P : Entry → Type 0} {s t given left : ℕ} {old now : List ℕ} (c : Paged P s t old given left now)
    → take (16 * given) now ≡ rows c.some
paged_written {given = given} {old = old} c =
    let e : 16 * given ≡ length (rows c.some) = omega (arith, c.count, rows_length c.some) in
    rw (c.bytes, e) (take-append_seam (rows c.some) (drop (length (rows c.some)) old))
