-- The operation mesh: 1 to 10, each as version 3 has it, then 36, 37 and 38; then the greatest number of branches on
-- any simple path, and the two ends of the first path that has it.
use Rattle.std.specs.Prelude.{ℕ, List, Result, Ok, Err}
use Rattle.table.specs.Refuse.{Unless, FirstBad}
use Rattle.table.specs.Header.{nodes_of}
use Rattle.net.specs.Net.{first_end, second_end}
use Rattle.mesh.specs.Table.{rows_of, MeshHeader, MeshRows}
use Rattle.mesh.specs.Mesh.{PairNumber, Connected, OneRing, Longest}
use Rattle.tree.specs.declared.Refusal.{Refusal}
use Rattle.mesh.specs.declared.Most.{Most}

-- the most branches on a simple path and its two ends, or why not
abbrev pub MeshAnswer : Type 0
MeshAnswer = Result Most Refusal

abbrev pub most : ℕ → ℕ → ℕ → MeshAnswer
most l a b = Ok (record { branches = l; low = a; high = b })

-- the ring field is 0
abbrev pub mesh_refusal : ℕ → ℕ → MeshAnswer
mesh_refusal k r = Err (record { number = k; row = r; ring = 0 })

abbrev pub GivesLongest : (ℕ → ℕ) → (ℕ → ℕ) → ℕ → ℕ → MeshAnswer → Type 0
GivesLongest u v k n (Ok o) = Longest u v k n o.branches o.low o.high
GivesLongest u v k n (Err w) = ⊥

-- 37, then 38, then the answer
abbrev pub MeshJoined : (ℕ → ℕ) → (ℕ → ℕ) → ℕ → ℕ → MeshAnswer → Type 0
MeshJoined u v k n =
    Unless MeshAnswer (mesh_refusal 37 0) (Connected u v k n)
    (Unless MeshAnswer (mesh_refusal 38 0) (OneRing u v k) (GivesLongest u v k n))

-- 36, the first such row named, then these
abbrev pub Answered : (ℕ → ℕ) → (ℕ → ℕ) → ℕ → ℕ → MeshAnswer → Type 0
Answered u v k n = FirstBad MeshAnswer mesh_refusal k (PairNumber u v) (MeshJoined u v k n)

abbrev pub MeshOf : List ℕ → MeshAnswer → Type 0
MeshOf s =
    MeshHeader MeshAnswer mesh_refusal s
    (MeshRows MeshAnswer mesh_refusal s (nodes_of s) (rows_of s)
    (Answered (first_end s) (second_end s) (rows_of s) (nodes_of s)))
