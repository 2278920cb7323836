use Rattle.std.proofs.Common.{rules}
use Rattle.layout.proofs.laid.lay_long.Goals as goal

pub returns : goal.returns
returns c = c.lay.ensures _ (λ v r a b p. search rules)
