-- `write_net`: both sizes are those of the texts, so that 29 is decided before a byte is written; then each text stands
-- in front of its memory.
use native.Mathlib.Omega.{arith}
use Rattle.dimacs.proofs.Texting.{rows_there, no_long_room, no_heavy_room, both_given}
use Rattle.dimacs.proofs.writing.write_net.Goals as goal
use Rattle.dimacs.proofs.writing.write_net.Goals.{
  then-lengths-a-via-then-lengths-a,
  then-lengths-a-via-else-lengths-a+then-weights-b,
}

pub text_size-a-requires : goal.text_size-a-requires
text_size-a-requires c = (c.requires.some, rows_there c.requires 4 (omega arith))

pub text_size-b-requires : goal.text_size-b-requires
text_size-b-requires c = (c.requires.some, rows_there c.requires 8 (omega arith))

pub returns-then-lengths-a : goal.returns-then-lengths-a
returns-then-lengths-a c =
    let args = c.args in
    let long = c.text_size-a.ensures in
    let heavy = c.text_size-b.ensures in
    rw c.rowless.ensures
    (elim c.then-lengths-a.branch [
      | then-lengths-a-via-then-lengths-a w ↦
          no_long_room args.s.now args.nodes c.requires (λ i. (c.shared_slice_known-1.given i).fits) args.lengths.now
          args.weights.now (omega (arith, w.if-lengths-a.true, long))
      | then-lengths-a-via-else-lengths-a+then-weights-b w ↦
          no_heavy_room args.s.now args.nodes c.requires (λ i. (c.shared_slice_known-1.given i).fits) args.lengths.now
          args.weights.now (omega (arith, w.if-weights-b.true, heavy))
    ])

pub put_text-requires : goal.put_text-requires
put_text-requires c =
    let long = c.text_size-a.ensures in
    (omega (arith, c.if-lengths-a.false, long), c.requires.some, rows_there c.requires 4 (omega arith))

pub put_text-requires-2 : goal.put_text-requires-2
put_text-requires-2 c =
    let heavy = c.text_size-b.ensures in
    (omega (arith, heavy), c.requires.some, rows_there c.requires 8 (omega arith))

pub returns : goal.returns
returns c =
    let args = c.args in
    both_given args.s.now args.nodes c.requires (λ i. (c.shared_slice_known-1.given i).fits) args.lengths.now
    args.weights.now c.text_size-a.ensures c.text_size-b.ensures c.put_text.ensures c.put_text-2.ensures
