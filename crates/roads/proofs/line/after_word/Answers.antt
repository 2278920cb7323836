-- `after_word` compares what stands at the place with the word (proofs/Skipping).
use native.Mathlib.Omega.{arith}
use Rattle.std.proofs.lemmas.Bool.Decides.{Decides-eqb}
use Rattle.std.proofs.lemmas.Slice.Eq.{starts_is}
use Rattle.roads.proofs.Skipping.{word_past, word_found, word_other}
use Rattle.roads.proofs.line.after_word.Goals as goal

pub returns-in_err-get : goal.returns-in_err-get
returns-in_err-get c =
    let past = c.in_err-get.ensures.lookup in
    rw c.from_residual.ensures (word_past _ (omega arith) c.requires)

pub returns-then-starts_with : goal.returns-then-starts_with
returns-then-starts_with c =
    let rest = c.in_ok-get.ensures.lookup.0 in
    let starts = starts_is Decides-eqb _ _ _ c.starts_with.ensures.value in
    word_found _ _ rest.0 c.requires rest.2 (starts.0 c.if-starts_with.true)

pub returns-else-starts_with : goal.returns-else-starts_with
returns-else-starts_with c =
    let rest = c.in_ok-get.ensures.lookup.0 in
    let starts = starts_is Decides-eqb _ _ _ c.starts_with.ensures.value in
    let other = c.if-starts_with.false in
    word_other _ _ rest.0 rest.2 (λ r e. absurd (let it = starts.1 r e in cc))
