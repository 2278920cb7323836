-- Bytes that stand in a list are those of the numbers that they say.
use Prim.Native.Nat.{ℕ, suc, ◌+◌, ◌*◌, ◌/◌, ◌%◌, ◌≤◌, ◌<◌}
use mathlib.Core.Path.{◌≡◌, refl, sym, ap, ◌∙◌}
use mathlib.Core.List.{List, ◌∷◌, ◌++◌, append_assoc}
use native.Mathlib.Omega.{arith}
use lib.ListN.{length, drop}
use lib.Seq.{drop-cons}
use Rattle.table.specs.Bytes.{byte_at, u16_at, u32_at}
use Rattle.numbers.specs.Bytes.{bytes, u64_at, EachByte}

-- a number's lowest byte, and the bytes of the rest
low_byte : (k v x q : ℕ) → x < 256 → v ≡ x + 256 * q → bytes (suc k) v ≡ x ∷ bytes k q
unfolding bytes
low_byte k v x q h e =
    let a : v % 256 ≡ x = omega arith in
    let b : v / 256 ≡ q = omega arith in
    rw (a, b)

-- the byte at a place, and what follows
next : (s : List ℕ) (i j : ℕ) → suc i ≡ j → j ≤ length s → drop i s ≡ byte_at s i ∷ drop j s
next s i j e h = rw (← e) (drop-cons s i 0 (omega arith))

-- one more byte before those of a number
step : (s : List ℕ) (i j n k v q : ℕ) → byte_at s i < 256 → suc i ≡ j → j ≤ length s → v ≡ byte_at s i + 256 * q
    → drop j s ≡ bytes k q ++ drop n s → drop i s ≡ bytes (suc k) v ++ drop n s
step s i j n k v q h e l f g =
    next s i j e l
    ∙ ap (λ (r : List ℕ). byte_at s i ∷ r) g
    ∙ sym (ap (λ (r : List ℕ). r ++ drop n s) (low_byte k v (byte_at s i) q h f))

none : (s : List ℕ) (n : ℕ) → drop n s ≡ bytes 0 0 ++ drop n s
unfolding bytes
none s n = refl

-- the bytes a stand from place i of s up to place j
pub record From (s : List ℕ) (i : ℕ) (a : List ℕ) (j : ℕ) : Type 0 where
  pub is : drop i s ≡ a ++ drop j s

pub then : {s a b : List ℕ} {i j k : ℕ} → From s i a j → From s j b k → From s i (a ++ b) k
then {s} {a} {b} {i} {j} {k} e f = record {
  is = e.is ∙ ap (λ (l : List ℕ). a ++ l) f.is ∙ sym (append_assoc a b (drop k s));
}

-- eight bytes are four and four
eight_is : (x y : ℕ) → x < 4294967296 → bytes 8 (x + 4294967296 * y) ≡ bytes 4 x ++ bytes 4 y
unfolding bytes
eight_is x y h =
    let a : (x + 4294967296 * y) % 256 ≡ x % 256 = omega arith in
    let b : (x + 4294967296 * y) / 256 ≡ x / 256 + 16777216 * y = omega arith in
    let c : (x / 256 + 16777216 * y) % 256 ≡ x / 256 % 256 = omega arith in
    let d : (x / 256 + 16777216 * y) / 256 ≡ x / 256 / 256 + 65536 * y = omega arith in
    let e : (x / 256 / 256 + 65536 * y) % 256 ≡ x / 256 / 256 % 256 = omega arith in
    let f : (x / 256 / 256 + 65536 * y) / 256 ≡ x / 256 / 256 / 256 + 256 * y = omega arith in
    let g : (x / 256 / 256 / 256 + 256 * y) % 256 ≡ x / 256 / 256 / 256 % 256 = omega arith in
    let k : (x / 256 / 256 / 256 + 256 * y) / 256 ≡ y = omega arith in
    rw (a, b, c, d, e, f, g, k)

module _ (s : List ℕ) (all : EachByte s) where
  pub two_at : (i j : ℕ) → i + 2 ≡ j → j ≤ length s → From s i (bytes 2 (u16_at s i)) j
  two_at i j e h = record {
    is = step s i (i + 1) j 1 (u16_at s i) (byte_at s (i + 1)) (all i) (omega arith) (omega arith) (omega arith)
        (step s (i + 1) j j 0 (byte_at s (i + 1)) 0 (all (i + 1)) (omega arith) h (omega arith) (none s j));
  }

  pub four_at : (i j : ℕ) → i + 4 ≡ j → j ≤ length s → From s i (bytes 4 (u32_at s i)) j
  four_at i j e h =
      let a = byte_at s (i + 1) in
      let b = byte_at s (i + 2) in
      let c = byte_at s (i + 3) in
      record {
        is = step s i (i + 1) j 3 (u32_at s i) (a + 256 * b + 65536 * c) (all i) (omega arith) (omega arith)
            (omega arith)
            (step s (i + 1) (i + 2) j 2 (a + 256 * b + 65536 * c) (b + 256 * c) (all (i + 1)) (omega arith)
            (omega arith) (omega arith)
            (step s (i + 2) (i + 3) j 1 (b + 256 * c) c (all (i + 2)) (omega arith) (omega arith) (omega arith)
            (step s (i + 3) j j 0 c 0 (all (i + 3)) (omega arith) h (omega arith) (none s j))));
      }

  pub eight_at : (i j : ℕ) → i + 8 ≡ j → j ≤ length s → From s i (bytes 8 (u64_at s i)) j
  eight_at i j e h =
      rw (eight_is (u32_at s i) (u32_at s (i + 4)) (omega (arith, all i, all (i + 1), all (i + 2), all (i + 3))))
      (then (four_at i (i + 4) refl (omega arith)) (four_at (i + 4) j (omega arith) h))
