-- `hb_window` exports the function of that name: what that promises of the same memory is what is promised here. Signed
-- numbers are passed as bits, which read back as the numbers.
use mir.Syntax.{w64}
use mir.ValLaws.{to_z-of_z}
use Rattle.capi_c.proofs.hb_window.Goals as goal

pub returns : goal.returns
returns c = rw (to_z-of_z w64 c.args.floor c.ranges.floor, to_z-of_z w64 c.args.ceiling c.ranges.ceiling) at
    c.hb_window.ensures
