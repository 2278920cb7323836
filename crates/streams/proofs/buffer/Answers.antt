-- `buffer`: an array of one byte holds nothing else.
use Rattle.std.proofs.Common.{refl, ◌≡◌}
use Rattle.std.proofs.lemmas.List.Elements.{All-replicate}
use Rattle.streams.proofs.buffer.Goals as goal

pub returns-clause-zeros : goal.returns-clause-zeros
returns-clause-zeros g c = All-replicate (λ byte. byte ≡ 0) g.row.N 0 refl
