-- `put`: a number whose bit is set was in before; else the bit is set, and no other changes.
use native.Mathlib.Omega.{arith}
use Rattle.vetting.proofs.BitLaws.{not_one, put_not, put_in}
use Rattle.vetting.proofs.bits.put.Goals as goal

pub returns-then-bit_of-eq1 : goal.returns-then-bit_of-eq1
returns-then-bit_of-eq1 c = put_not c.bit_of.ensures c.if-bit_of-eq1.true

pub with-requires : goal.with-requires
with-requires c = (omega arith, not_one _ _ c.bit_of.ensures c.if-bit_of-eq1.false)

pub returns : goal.returns
returns c =
    let pre = c.requires in
    put_in _ _ c.with.result pre.1 pre.0 c.bit_of.ensures c.if-bit_of-eq1.false
    c.with.ensures
