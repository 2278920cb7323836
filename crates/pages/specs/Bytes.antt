-- A row of a page as bytes, and what bytes say as rows.
use Rattle.std.specs.Prelude.{ℕ, zero, suc, ◌+◌, ◌*◌, List, [], ◌∷◌, ◌++◌}
use Rattle.std.specs.Int.{w64}
use Rattle.std.proofs.Common.{of_z, to_z}
use Rattle.table.specs.Bytes.{u16_at, u32_at}
use Rattle.numbers.specs.Bytes.{bytes, u64_at}
use Rattle.pages.specs.Listing.{Entry, entry}

-- node, node (16 bits each), length (32 bits), weight (64 bits signed): 16 bytes
unfoldable pub row : Entry → List ℕ
row e = bytes 2 e.low ++ bytes 2 e.high ++ bytes 4 e.length ++ bytes 8 (of_z w64 e.weight)

unfoldable pub rows : List Entry → List ℕ
rows [] = []
rows (e ∷ l) = row e ++ rows l

-- the same read: what the 16 bytes from place i on say, and what k rows say, from row i on
abbrev pub entry_at : List ℕ → ℕ → Entry
entry_at s i = entry (u16_at s i) (u16_at s (i + 2)) (u32_at s (i + 4)) (to_z w64 (u64_at s (i + 8)))

unfoldable pub entries : List ℕ → ℕ → ℕ → List Entry
entries s i zero = []
entries s i (suc k) = entry_at s (16 * i) ∷ entries s (i + 1) k
