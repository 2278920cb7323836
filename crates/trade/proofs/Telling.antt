-- Lines and what follows them, put together as they are handed over, are what is told.
use Prim.Native.Nat.{ℕ, ◌+◌, ◌≤◌}
use mathlib.Core.Path.{◌≡◌, refl, ap}
use mathlib.Core.List.{List, [], ◌∷◌, ◌++◌}
use native.Mathlib.Omega.{arith}
use lib.ListN.{length, take, length-append}
use lib.Seq.{length-take-le, take_all}
use Rattle.std.proofs.Common.{Option, Result, Ok, Err, OnErr}
use Rattle.streams.specs.Front.{HasWritten}
use Rattle.text.specs.work.Put.{Put}
use Rattle.text.proofs.Puts.{put_front}
use Rattle.lines.specs.Lines.{total_text}
use Rattle.trade.specs.Told.{sized, Tells, HandedOver, WritesFront}

nothing_after : (l : List ℕ) → l ++ [] ≡ l
nothing_after [] = refl
nothing_after (x ∷ l) = ap {B = List ℕ} (λ r. x ∷ r) (nothing_after l)

-- the front of lent bytes, by itself
pub sized_front : (n : ℕ) (now : List ℕ) → n ≤ length now → sized (length (take n now)) (take n now) ≡ sized n now
sized_front n now h =
    let e : length (take n now) ≡ n = length-take-le n now h in
    let f : take n (take n now) ≡ take n now = take_all n (take n now) (omega (arith, e)) in
    rw (e, f) refl

module _ (way : ℕ) (first second : List ℕ) (bound : ℕ) where
  -- a line alone; a line and the bytes after it; and both twice
  pub tells_line : (old t new : List ℕ) (k : ℕ) → Put old 0 t new k → Tells way first second bound t
      → Tells way first second bound ((take k new ++ []) ++ ([] ++ []))
  tells_line old t new k p q =
      rw (nothing_after (take k new ++ []), nothing_after (take k new), put_front p) q

  pub tells_bytes : (old new now : List ℕ) (n k : ℕ) → Put old 0 (total_text n) new k
      → Tells way first second bound (sized n now)
      → Tells way first second bound ((take k new ++ take n now) ++ ([] ++ []))
  tells_bytes old new now n k p q = rw (nothing_after (take k new ++ take n now), put_front p) q

  pub tells_both : (old new old' new' long heavy : List ℕ) (l w k m : ℕ) → Put old 0 (total_text l) new k
      → Put old' 0 (total_text w) new' m → Tells way first second bound (sized l long ++ sized w heavy)
      → Tells way first second bound ((take k new ++ take l long) ++ (take m new' ++ take w heavy))
  tells_both old new old' new' long heavy l w k m p p' q = rw (put_front p, put_front p') q

  -- what was handed over in four parts
  pub handed_whole : (a b c d : List ℕ) (x y : ℕ) → Tells way first second bound ((a ++ b) ++ (c ++ d))
      → x ≡ length a + length b → y ≡ length c + length d → HandedOver way first second bound x y
  handed_whole a b c d x y t e f =
      record {
        text = (a ++ b) ++ (c ++ d);
        tells = t;
        all = omega (arith, e, f, length-append (a ++ b) (c ++ d), length-append a b, length-append c d);
      }

  -- what was written of it where an error came
  pub front_told : {T E : Type 0} (r : Result T E) (old new : Option (List ℕ)) (t : List ℕ)
      → Tells way first second bound t → HasWritten old new t
      → OnErr r (WritesFront way first second bound old new)
  front_told (Ok x) old new t p q = tt
  front_told (Err e) old new t p q = (t, p, q)
