-- What a place of a text stands for, what the text has from there on: the byte there and what follows it, or nothing
-- past the end; and a stretch that is passed grows byte by byte.
use mathlib.Core.Path.{◌≡◌}
use mathlib.Core.List.{List, [], ◌∷◌, ◌++◌}
use Prim.Native.Nat.{ℕ, ◌+◌, ◌<◌}
use native.Mathlib.Omega.{arith}
use native.Mathlib.Numerals.{add-one}
use lib.ListN.{length, get_or, drop}
use lib.Seq.{drop-cons, append_snoc}

pub from_place : (s : List ℕ) (i : ℕ) → i < length s → drop i s ≡ get_or s i 0 ∷ drop (i + 1) s
from_place s i h = rw add-one (drop-cons s i 0 h)

pub byte_there : (s : List ℕ) (i b : ℕ) → i < length s → get_or s i 0 ≡ b → drop i s ≡ b ∷ drop (i + 1) s
byte_there s i b h e = rw e at (from_place s i h)

-- one byte more is passed
pub passed_more : {l : List ℕ} (t s : List ℕ) (i : ℕ) → i < length s → l ≡ t ++ drop i s
    → l ≡ t ++ get_or s i 0 ∷ [] ++ drop (i + 1) s
passed_more t s i h e = rw (append_snoc t (get_or s i 0) (drop (i + 1) s), ← from_place s i h) e

-- nothing begins with no byte
pub empty_not : {b : ℕ} {s q : List ℕ} → s ≡ [] → s ≡ b ∷ q → ⊥
empty_not e f = let z : ◌≡◌ {A = ℕ} 0 1 = cc in omega arith

pub empty_within : {s : List ℕ} (u r : List ℕ) (b : ℕ) → s ≡ [] → s ≡ u ++ b ∷ r → ⊥
empty_within [] r b e f = empty_not e f
empty_within (c ∷ u) r b e f = empty_not e f
