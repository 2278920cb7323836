-- What reading the header gives: n and the number of rows, or the number of the refusal.
use Rattle.std.specs.Prelude.{ℕ, ◌≡◌, List, Result, Ok, Err}
use Rattle.table.specs.Header.{nodes_of}
use Rattle.mesh.specs.Table.{rows_of, MeshHeader}
use Rattle.mesh.specs.declared.header.Head.{Head}

abbrev pub good_head : ℕ → ℕ → Head
good_head n k = record { nodes = n; rows = k }

abbrev pub HeadTold : List ℕ → Result Head ℕ → Type 0
HeadTold s =
    MeshHeader (Result Head ℕ) (λ k r. Err k) s (λ x. x ≡ Ok (good_head (nodes_of s) (rows_of s)))
