-- `put_arc` puts the word, two nodes and a number.
use native.Mathlib.Omega.{arith}
use Rattle.text.specs.Word.{word}
use Rattle.text.proofs.Puts.{put_then}
use Rattle.roads.specs.work.Line.{arc_of}
use Rattle.written.specs.work.Texts.{arc_text}
use Rattle.written.proofs.Texts.{arc_length}
use Rattle.written.proofs.put.put_arc.Goals as goal

pub put_word-p-requires : goal.put_word-p-requires
put_word-p-requires c =
    let args = c.args in
    omega (arith, arc_length args.top (arc_of args.from args.to args.b))

pub put_field-q-requires : goal.put_field-q-requires
put_field-q-requires c =
    let args = c.args in
    omega (arith, arc_length args.top (arc_of args.from args.to args.b))

pub put_field-r-requires : goal.put_field-r-requires
put_field-r-requires c =
    let args = c.args in
    omega (arith, arc_length args.top (arc_of args.from args.to args.b))

pub put_last-requires : goal.put_last-requires
put_last-requires c =
    let args = c.args in
    (omega (arith, arc_length args.top (arc_of args.from args.to args.b)), omega arith)

pub returns : goal.returns
unfolding arc_text word
returns c =
    let put-field2-ensures = c.put_field-r.ensures in
    let put-field-ensures = c.put_field-q.ensures in
    let put-word-ensures = c.put_word-p.ensures in
    put_then (put_then (put_then put-word-ensures put-field-ensures) put-field2-ensures)
    c.put_last.ensures
