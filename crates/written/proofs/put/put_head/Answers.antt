-- `put_head` puts the word and the two counts.
use native.Mathlib.Omega.{arith}
use Rattle.written.specs.work.Texts.{head_text}
use Rattle.text.specs.Word.{word}
use Rattle.text.proofs.Puts.{put_then}
use Rattle.written.proofs.Texts.{head_length}
use Rattle.written.proofs.put.put_head.Goals as goal

pub put_word-p-requires : goal.put_word-p-requires
put_word-p-requires c =
    let args = c.args in
    omega (arith, head_length args.nodes args.arcs)

pub put_field-q-requires : goal.put_field-q-requires
put_field-q-requires c =
    let args = c.args in
    omega (arith, head_length args.nodes args.arcs)

pub put_field-requires : goal.put_field-requires
put_field-requires c =
    let args = c.args in
    omega (arith, head_length args.nodes args.arcs)

pub returns : goal.returns
unfolding head_text word
returns c =
    let put-field-ensures = c.put_field-q.ensures in
    let put-word-ensures = c.put_word-p.ensures in
    put_then (put_then put-word-ensures put-field-ensures) c.put_field.ensures
