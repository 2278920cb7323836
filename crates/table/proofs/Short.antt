-- A table of under 12 bytes is refused by 1.
use Rattle.std.proofs.Common.{ℕ, ◌<◌, List, length, arith}
use Rattle.table.specs.Refuse.{refused}
use Rattle.table.specs.Opens.{opening_refusal, Opens}

pub too_short : (s : List ℕ) → length s < 12 → Opens s (opening_refusal 1 0)
too_short s h = refused (λ n. omega arith)
