-- `hb_vet` exports the function of that name: what that promises of the same memory is what is promised here. Signed
-- numbers are passed as bits, which read back as the numbers.
use mir.Syntax.{w64}
use mir.ValLaws.{to_z-of_z}
use Rattle.capi_c.proofs.hb_vet.Goals as goal

pub returns : goal.returns
returns c = rw (to_z-of_z w64 c.args.floor c.ranges.floor) at c.hb_vet.ensures
