-- The header, 12 bytes: the letters RTN, version, node count n, a reserved byte, wire bound B; and its refusals 1 to 6,
-- in order.
use Rattle.std.specs.Prelude.{◌≡◌, List, ◌⊎◌, ℕ, ◌*◌, ◌≤◌, length}
use Rattle.table.specs.Refuse.{Unless}
use Rattle.table.specs.Bytes.{byte_at, u16_at, u32_at}

-- R, T, N
abbrev pub Lettered : List ℕ → Type 0
Lettered s = (byte_at s 0 ≡ 82) × (byte_at s 1 ≡ 84) × (byte_at s 2 ≡ 78)

abbrev pub version_of : List ℕ → ℕ
version_of s = u16_at s 3

abbrev pub nodes_of : List ℕ → ℕ
nodes_of s = u16_at s 5

abbrev pub bound_of : List ℕ → ℕ
bound_of s = u32_at s 8

-- 1 to 6, and then as the rest says; no row is named
abbrev pub Header : (A : Type 0) → (ℕ → ℕ → A) → List ℕ → (A → Type 0) → A → Type 0
Header A refusal s rest =
    Unless A (refusal 1 0) (12 ≤ length s)
    (Unless A (refusal 2 0) (Lettered s)
    (Unless A (refusal 3 0) ((version_of s ≡ 1) ⊎ (version_of s ≡ 2))
    (Unless A (refusal 4 0) ((1 ≤ nodes_of s) × (nodes_of s ≤ 4096))
    (Unless A (refusal 5 0) (byte_at s 7 ≡ 0)
    (Unless A (refusal 6 0) (length s ≡ 12 * nodes_of s)
    rest)))))
