-- `[v; m]` is filled with v, and so is what `fill(v)` leaves of an array of m places; no other list is: two lists of
-- one
-- length whose elements agree are equal.
use Prim.Native.Nat.{ℕ}
use mathlib.Core.Path.{◌≡◌, sym, ◌∙◌}
use mathlib.Core.List.{List}
use lib.ListN.{replicate, length-replicate, get_or-replicate}
use lib.Seq.{ext_get_or}
use Rattle.arrays.specs.work.Filled.{Filled}

pub filled : (m v : ℕ) → Filled m v (replicate m v)
filled m v = record { long = length-replicate m v; each = λ i h. get_or-replicate m i v 0 h }

-- by the library's promise of `fill`, of an array of n places
pub filled_by : {n m v : ℕ} {new : List ℕ} → n ≡ m → (((y : ℕ) → y ≡ v → y ≡ v) → new ≡ replicate n v)
    → Filled m v new
filled_by {n} {m} {v} e after = rw (after (λ _ q. q), e) (filled m v)

pub filled_only : {m v : ℕ} {l k : List ℕ} → Filled m v l → Filled m v k → l ≡ k
filled_only {m} {v} {l} {k} a b =
    ext_get_or 0 l k (a.long ∙ sym b.long)
    (λ i h. a.each i (rw a.long at h) ∙ sym (b.each i (rw a.long at h)))
