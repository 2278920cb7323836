-- `put_header` stores the header's parts one after the other, which is the store of the header.
use Rattle.text.specs.Word.{word}
use Rattle.text.proofs.Puts.{sets_put}
use Rattle.dimacs.proofs.Headers.{header_sets}
use Rattle.dimacs.proofs.header.put_header.Goals as goal

pub returns : goal.returns
unfolding word
returns c =
    let put-bytes3-ensures = c.put_bytes-3.ensures in
    let put-bytes2-ensures = c.put_bytes-2.ensures in
    let put-bytes-ensures = c.put_bytes.ensures in
    let put-word-ensures = c.put_word.ensures in
    rw (
      c.put_bytes-4.ensures,
      put-bytes3-ensures,
      put-bytes2-ensures,
      put-bytes-ensures,
      sets_put put-word-ensures,
      c.from.ensures,
      c.from-2.ensures,
    ) (header_sets _ _ _)
