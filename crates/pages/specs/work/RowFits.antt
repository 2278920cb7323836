-- An entry whose numbers fit their places in a row: what is written of it can be read back.
use Rattle.std.specs.Prelude.{◌<◌}
use Rattle.std.specs.Int.{w64}
use Rattle.std.proofs.Common.{SFits}
use Rattle.pages.specs.Listing.{Entry}

-- an entry whose numbers fit their places in a row
pub record RowFits (e : Entry) : Type 0 where
  pub low : e.low < 65536
  pub high : e.high < 65536
  pub length : e.length < 4294967296
  pub weight : SFits w64 e.weight
