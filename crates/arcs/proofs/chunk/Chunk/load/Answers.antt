use native.Mathlib.Omega.{arith}
use Prim.Native.Nat.{ℕ}
use mathlib.Core.Path.{refl}
use lib.ListN.{length-set, length-replicate}
use Rattle.arcs.proofs.Loading.{loaded_none, loaded_more, loaded_end, loaded_all}
use Rattle.arcs.proofs.chunk.Chunk.load.Goals as goal

pub loop-t-init : goal.loop-t-init
loop-t-init c = let long = length-replicate {A = ℕ} 8192 0 in (long, refl, loaded_none _ _ _ long)

pub returns-in_default : goal.returns-in_default
returns-in_default c =
    let h = c.loop-t.invariant in
    (h.0, h.1, loaded_end _ _ _ c.loop-t.t _ c.loop-t.c _ (omega arith) (rw c.in_default.is at c.next_arc.ensures) h.2)

pub loop-t-preserved : goal.loop-t-preserved
loop-t-preserved c =
    let h = c.loop-t.invariant in (
      simp length-set h.0,
      h.1,
      loaded_more _ _ _ c.loop-t.t c.loop-t.c c.packed.result _ (omega arith) c.requires.1.nodes_fit c.in-Some.ensures
          c.packed.ensures.0 c.packed.ensures.1 h.2,
    )

pub returns : goal.returns
returns c = let h = c.loop-t.invariant in (h.0, h.1, loaded_all _ _ _ c.loop-t.t _ _ _ (omega arith) h.2)
