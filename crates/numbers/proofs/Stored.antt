-- A number's bytes: how many, and how they are stored one by one.
use Prim.Native.Nat.{ℕ, zero, suc, ◌+◌, ◌-◌, ◌/◌, ◌%◌, ◌≤◌, ◌<◌}
use mathlib.Core.Path.{◌≡◌, refl, ap}
use mathlib.Core.List.{List}
use native.Mathlib.Omega.{arith}
use native.Mathlib.Numerals.{add-one}
use lib.ListN.{length, set}
use lib.Seq.{sets}
use Rattle.numbers.specs.Bytes.{bytes}

pub bytes_length : (k x : ℕ) → length (bytes k x) ≡ k
unfolding bytes
bytes_length zero x = refl
bytes_length (suc k) x = ap suc (bytes_length k (x / 256))

-- a turn of the loop that stores bytes up to place e: what is left to do makes the same as before
pub bytes_step : (out : List ℕ) (p e y : ℕ) → p < e
    → sets (set out p (y % 256)) (p + 1) (bytes (e - (p + 1)) (y / 256)) ≡ sets out p (bytes (e - p) y)
unfolding bytes
bytes_step out p e y h = let f : e - p ≡ suc (e - (p + 1)) = omega arith in rw (f, add-one p)

pub bytes_none : (out : List ℕ) (p e y : ℕ) → e ≤ p → sets out p (bytes (e - p) y) ≡ out
unfolding bytes
bytes_none out p e y h = let f : e - p ≡ 0 = omega arith in rw f
