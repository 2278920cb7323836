-- `bucket_of` gives a key's bucket.
use Rattle.std.proofs.Common.{arith}
use Rattle.arcs.specs.work.Chunk.{bucket}
use Rattle.arcs.proofs.chunk.bucket_of.Goals as goal

pub returns : goal.returns
unfolding bucket
returns c = omega arith
