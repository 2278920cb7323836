-- `start` meets its contract: three arrays filled, and the root's places set.
use Rattle.arrays.proofs.Fills.{filled_by}
use Rattle.mesh.proofs.Growing.{root_alone}
use native.Mathlib.Omega.{arith}
use Rattle.mesh.proofs.hang.Tree.start.Goals as goal

pub returns : goal.returns
returns c =
    root_alone c.requires (filled_by (omega arith) c.fill.ensures.after)
    (filled_by (omega arith) c.fill-2.ensures.after) (filled_by (omega arith) c.fill-3.ensures.after)
