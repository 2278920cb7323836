use native.Mathlib.Omega.{arith}
use Rattle.changeset.proofs.Overlay.{overlaid_none, overlaid_more, overlaid_all}
use Rattle.changeset.proofs.buffer.put_entries.Goals as goal

pub loop-i-init : goal.loop-i-init
loop-i-init c = overlaid_none c.requires c.put_word.ensures c.count-m.ensures

pub loop-i-preserved : goal.loop-i-preserved
loop-i-preserved c =
    overlaid_more c.loop-i.invariant (omega arith) _ c.number_at-r.ensures.0 (omega arith) (omega arith) c.put.ensures

pub returns : goal.returns
returns c = overlaid_all c.loop-i.invariant (omega arith)
