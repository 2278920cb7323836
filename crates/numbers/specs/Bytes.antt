-- A number as bytes, lowest first; what eight bytes say (two and four: table's specs/Bytes); and lists of bytes.
use Rattle.std.specs.Prelude.{ℕ, zero, suc, ◌+◌, ◌*◌, ◌/◌, ◌%◌, ◌<◌, List, [], ◌∷◌}
use Rattle.table.specs.Bytes.{byte_at, u32_at}

-- the k lowest bytes of x, lowest first
unfoldable pub bytes : ℕ → ℕ → List ℕ
bytes zero x = []
bytes (suc k) x = x % 256 ∷ bytes k (x / 256)

abbrev pub u64_at : List ℕ → ℕ → ℕ
u64_at s i = u32_at s i + 4294967296 * u32_at s (i + 4)

-- a list of bytes
abbrev pub EachByte : List ℕ → Type 0
EachByte s = (i : ℕ) → byte_at s i < 256
