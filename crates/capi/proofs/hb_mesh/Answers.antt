-- `hb_mesh` shows what the operation mesh gives.
use native.Mathlib.Omega.{arith}
use Rattle.capi.proofs.Rows.{mesh_low}
use Rattle.capi.proofs.Shown.{shows}
use Rattle.capi.proofs.hb_mesh.Goals as goal

pub show_mesh-requires : goal.show_mesh-requires
show_mesh-requires c = mesh_low _ _ (omega (arith, c.well_formed.0)) c.mesh-o.ensures

pub returns : goal.returns
returns c = shows _ c.mesh-o.ensures c.show_mesh.ensures
