-- `rows`: one chunk, or many.
use native.Mathlib.Omega.{arith}
use Rattle.arcs.proofs.Making.{made_many}
use Rattle.arcs.proofs.Streams.{more_arcs}
use Rattle.arcs.proofs.rows.Goals as goal

pub returns-else-m-le8192 : goal.returns-else-m-le8192
returns-else-m-le8192 c = λ x t y u. made_many (c.decide_many.ensures x t y u) (more_arcs t (omega arith))
