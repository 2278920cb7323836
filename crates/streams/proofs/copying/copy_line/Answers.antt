-- `copy_line`: a read that fails comes before any write, and a line that is too long is left as it is.
use Rattle.std.proofs.Common.{rules, arith}
use Rattle.std.proofs.KnownBytes.{Appends-nil, Keeps-refl}
use Rattle.streams.specs.Front.{HasLost}
use Rattle.streams.proofs.copying.copy_line.Goals as goal

pub returns-in_err-read_full-clause-err : goal.returns-in_err-read_full-clause-err
returns-in_err-read_full-clause-err g c =
    let lost : HasLost c.args.count (g.R.Read.remaining c.args.from.now) (g.R.Read.remaining c.read_full.new.from)
    (g.W.Write.contents c.args.to.now) (g.W.Write.contents c.args.to.now) = (
      c.read_full.new.buf,
      search rules,
      c.in_err-read_full.ensures.err,
      (0, omega arith, Appends-nil _),
    ) in
    search (rules, lost)

pub returns-else-size-le512-clause-read : goal.returns-else-size-le512-clause-read
returns-else-size-le512-clause-read g c = λ _. Keeps-refl _

pub returns-else-size-le512-clause-written : goal.returns-else-size-le512-clause-written
returns-else-size-le512-clause-written g c = λ _. Keeps-refl _
