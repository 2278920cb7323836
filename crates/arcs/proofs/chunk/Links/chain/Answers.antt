use mathlib.Core.Path.{◌≡◌, ap, ◌∙◌}
use native.Mathlib.Omega.{arith}
use Rattle.arrays.proofs.Fills.{filled_by}
use Rattle.arcs.specs.work.Chunk.{bucket}
use Rattle.arcs.proofs.Chunks.{buckets_none, buckets_more}
use Rattle.arcs.proofs.chunk.Links.chain.Goals as goal

pub loop-i-init : goal.loop-i-init
loop-i-init c = buckets_none _ _ _ (filled_by (omega arith) c.fill.ensures.after) (omega arith)

pub loop-i-preserved : goal.loop-i-preserved
loop-i-preserved c =
    let v = c.bucket_of-v.ensures in
    buckets_more _ _ _ _ _ (omega arith) (v.0 ∙ ap bucket c.key_of.ensures) v.1 c.loop-i.invariant

pub returns : goal.returns
returns c =
    let h = c.loop-i.invariant in
    let e : c.loop-i.i ≡ c.args.chunk.now.count = omega arith in
    rw (e) at h
