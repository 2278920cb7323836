-- `ring` puts the ring's rows for 11, and nothing for any other number.
use native.Mathlib.Omega.{arith}
use Rattle.text.specs.Word.{word}
use Rattle.text.proofs.Puts.{put_none, put_as}
use mathlib.Core.Path.{sym}
use Rattle.lines.proofs.Told.{ring_told, none_told}
use Rattle.lines.proofs.ring.Goals as goal

pub returns-then-number-eq11 : goal.returns-then-number-eq11
unfolding word
returns-then-number-eq11 c =
    let if1-taken = c.if-number-eq11.true in
    (put_as (sym (ring_told _ if1-taken)) c.field.ensures.0, omega arith)

pub returns : goal.returns
returns c = (put_as (sym (none_told _ (λ e. omega (arith, e)))) (put_none _ _ (omega arith)), omega arith)
