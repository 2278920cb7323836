-- A table copied to the front of the lent bytes is given.
use Prim.Native.Nat.{ℕ}
use mathlib.Core.Path.{◌≡◌, ap, ◌∙◌}
use mathlib.Core.List.{List, ◌++◌}
use native.Mathlib.Omega.{arith}
use lib.ListN.{length, drop}
use Rattle.text.specs.work.Put.{Put}
use Rattle.dimacs.specs.Read.{GivesTable}
use Rattle.std.specs.Prelude.{Ok}

pub copied_given : {old t new : List ℕ} {next : ℕ} → Put old 0 t new next → GivesTable old t (Ok next, new)
copied_given {old} {t} {new} {next} p =
    let e : next ≡ length t = omega (arith, p.after) in
    let f : new ≡ t ++ drop (length t) old = p.bytes ∙ ap (λ (k : ℕ). t ++ drop k old) e in
    λ i. (Ok (e i), f i)
