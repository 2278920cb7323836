-- How long the lines are: 20 bytes at most for each number, and the words.
use Prim.Native.Nat.{ℕ, ◌+◌, ◌*◌, ◌≤◌, ◌<◌}
use mathlib.Core.Path.{◌≡◌, refl}
use mathlib.Core.List.{List, [], ◌∷◌}
use native.Mathlib.Omega.{arith}
use native.Mathlib.Decide.{ℕ_discrete}
use lib.ListN.{length, length-append}
use Rattle.arrays.specs.Members.{In, at, past}
use Rattle.pages.specs.Listing.{Entry}
use Rattle.pages.specs.work.RowFits.{RowFits}
use Rattle.text.specs.Word.{word}
use Rattle.text.specs.Decimal.{decimal, signed}
use Rattle.text.proofs.Decimals.{decimal_few, signed_few}
use Rattle.lines.specs.Lines.{ring_text, refused_text, net_text, best_text, pair_text, pairs_text, total_text}
use Rattle.lines.proofs.Told.{ring_told, none_told}

ring_few : (k g : ℕ) → g < 18446744073709551616 → length (ring_text k g) ≤ 26
unfolding word
ring_few k g h = pick (ℕ_discrete k 11)
  where
    pick : Dec (k ≡ 11) → length (ring_text k g) ≤ 26
    pick (yes e) = rw (ring_told g e) (simp length-append (omega (arith, decimal_few g h)))
    pick (no n) = rw (none_told g n) (omega arith)

pub refused_few : (k r g : ℕ) → k < 18446744073709551616 → r < 18446744073709551616 → g < 18446744073709551616
    → length (refused_text k r g) ≤ 128
unfolding refused_text word
refused_few k r g h j i = simp length-append (omega (arith, decimal_few k h, decimal_few r j, ring_few k g i))

pub net_few : (n b : ℕ) → n < 18446744073709551616 → b < 18446744073709551616 → length (net_text n b) ≤ 128
unfolding net_text word
net_few n b h j = simp length-append (omega (arith, decimal_few n h, decimal_few b j))

pub total_few : (k : ℕ) → k < 18446744073709551616 → length (total_text k) ≤ 128
unfolding total_text word
total_few k h = simp length-append (omega (arith, decimal_few k h))

-- the four numbers of an entry that fits a row
module _ (e : Entry) (f : RowFits e) where
  numbers_few : length (decimal e.low)
      + length (decimal e.high)
      + length (decimal e.length)
      + length (signed e.weight) ≤ 80
  numbers_few =
      omega (
        arith,
        decimal_few e.low (omega (arith, f.low)),
        decimal_few e.high (omega (arith, f.high)),
        decimal_few e.length (omega (arith, f.length)),
        signed_few e.weight f.weight,
      )

  pub best_few : length (best_text e) ≤ 128
  unfolding best_text word
  best_few = simp length-append (omega (arith, numbers_few))

  pub pair_few : length (pair_text e) ≤ 96
  unfolding pair_text word
  pair_few = simp length-append (omega (arith, numbers_few))

pub pairs_few : (l : List Entry) → ((e : Entry) → In e l → RowFits e) → length (pairs_text l) ≤ 96 * length l
unfolding pairs_text
pairs_few [] f = omega arith
pairs_few (e ∷ l) f =
    omega (
      arith,
      length-append (pair_text e) (pairs_text l),
      pair_few e (f e (at refl)),
      pairs_few l (λ x m. f x (past m)),
    )

-- no line is empty
pub net_some : (n b : ℕ) → 0 < length (net_text n b)
unfolding net_text word
net_some n b = simp length-append (omega arith)

pair_some : (e : Entry) → 0 < length (pair_text e)
unfolding pair_text word
pair_some e = simp length-append (omega arith)

pub pairs_some : (e : Entry) (l : List Entry) → 0 < length (pairs_text (e ∷ l))
unfolding pairs_text
pairs_some e l = omega (arith, length-append (pair_text e) (pairs_text l), pair_some e)
