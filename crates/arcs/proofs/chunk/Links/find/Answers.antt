use Prim.Native.Nat.{◌-◌, ◌+◌}
use mathlib.Core.Path.{◌≡◌, sym, ◌∙◌}
use native.Mathlib.Omega.{arith}
use Rattle.arcs.proofs.Chunks.{down_first, down_next, down_hit, down_miss}
use Rattle.arcs.proofs.chunk.Links.find.Goals as goal

pub loop-i-init : goal.loop-i-init
loop-i-init c =
    let v = c.bucket_of.ensures in
    rw c.from-i.ensures (down_first _ _ _ _ _ _ v.0 v.1 c.requires.buckets)

pub offset_bounds-chunk-h : goal.offset_bounds-chunk-h
offset_bounds-chunk-h c = omega (arith, c.loop-i.invariant.below, c.requires.buckets.few)

pub bounds-chunk-h : goal.bounds-chunk-h
bounds-chunk-h c = omega (arith, c.loop-i.invariant.below, c.requires.buckets.few)

pub returns-then-key_of-key : goal.returns-then-key_of-key
returns-then-key_of-key c =
    let e : c.loop-i.i - 1 + 1 ≡ c.loop-i.i = omega arith in
    rw (e) (down_hit _ _ _ _ c.loop-i.invariant (omega arith) (sym c.key_of.ensures ∙ c.if-key_of-key.true))

pub offset_bounds-self-h : goal.offset_bounds-self-h
offset_bounds-self-h c = omega (arith, c.loop-i.invariant.below, c.requires.buckets.few)

pub bounds-self-h : goal.bounds-self-h
bounds-self-h c = omega (arith, c.loop-i.invariant.below, c.requires.buckets.few)

pub loop-i-smaller : goal.loop-i-smaller
loop-i-smaller c =
    let h = c.loop-i.invariant in
    let next = c.requires.buckets.nexts (c.loop-i.i - 1) (omega (arith, h.below)) in
    omega (arith, c.from-i-in-loop-i.ensures, next.below)

pub loop-i-preserved : goal.loop-i-preserved
loop-i-preserved c =
    rw c.from-i-in-loop-i.ensures
    (down_next _ _ _ _ _ _ c.requires.buckets c.loop-i.invariant (omega arith)
    (λ e. c.if-key_of-key.false (c.key_of.ensures ∙ e)))

pub returns : goal.returns
returns c = down_miss _ _ _ _ c.loop-i.invariant (omega arith)
