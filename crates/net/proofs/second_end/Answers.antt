-- `second_end` meets its contract: the row that is read is the net's.
use mathlib.Core.Path.{◌∙◌}
use Rattle.net.proofs.Net.{reads_second}
use Rattle.net.proofs.second_end.Goals as goal

pub returns : goal.returns
returns c = c.from.ensures ∙ reads_second c.requires c.row_at.ensures
