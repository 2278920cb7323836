-- `first_end` meets its contract: the row that is read is the net's.
use mathlib.Core.Path.{◌∙◌}
use Rattle.net.proofs.Net.{reads_first}
use Rattle.net.proofs.first_end.Goals as goal

pub returns : goal.returns
returns c = c.from.ensures ∙ reads_first c.requires c.row_at.ensures
