-- Bytes that are written a part at a time: the parts that follow one another are one front of the whole.
use Rattle.std.proofs.Common.{ℕ, List, Option, sym, ap, subst, arith, ◌+◌, ◌-◌, ◌++◌, ◌∙◌, length, take, drop}
use Rattle.std.proofs.lemmas.List.{take_rest, take-append-le, length-append}
use Rattle.std.proofs.Math.Seq.{take-add, take-append-add}
use Rattle.std.proofs.KnownBytes.{Appends-trans}
use Rattle.std.specs.Io.KnownBytes.{Appends}
use Rattle.streams.specs.Front.{HasWritten}

-- the first a bytes were put, and then n of the rest
pub put_more : (old mid new : Option (List ℕ)) (a n : ℕ) (xs : List ℕ) → Appends old mid (take a xs)
    → Appends mid new (take n (take (length xs - a) (drop a xs))) → Appends old new (take (a + n) xs)
put_more old mid new a n xs before more =
    subst (Appends old new)
    (ap (λ l. take a xs ++ take n l) (take_rest xs a) ∙ sym (take-add a n xs))
    (Appends-trans old mid new _ _ before more)

-- what is a front of the ones is a front of the ones and the others
pub front_of_both : (old new : Option (List ℕ)) (xs ys : List ℕ) → HasWritten old new xs
    → HasWritten old new (xs ++ ys)
front_of_both old new xs ys (n, within, put) = (
  n,
  omega (arith, length-append xs ys),
  subst (Appends old new) (sym (take-append-le n xs ys within)) put,
)

-- after all of the ones a front of the others
pub front_behind : (old mid new : Option (List ℕ)) (xs ys : List ℕ) → Appends old mid xs → HasWritten mid new ys
    → HasWritten old new (xs ++ ys)
front_behind old mid new xs ys before (n, within, put) = (
  length xs + n,
  omega (arith, length-append xs ys),
  subst (Appends old new) (sym (take-append-add xs ys n)) (Appends-trans old mid new _ _ before put),
)
