-- The operation accept: refusals 1 to 11; then n, B and how many rows are filler.
use Rattle.std.specs.Prelude.{ℕ, ◌-◌, ◌<◌, ◌≡◌, List, Result, Ok, Err}
use Rattle.table.specs.Header.{version_of, nodes_of, bound_of}
use Rattle.table.specs.Row.{kind_at}
use Rattle.net.specs.Count.{Count}
use Rattle.tree.specs.Accept.{Begins}
use Rattle.writer.specs.WriteRow.{Filler}
use Rattle.tree.specs.declared.Refusal.{Refusal}
use Rattle.accept.specs.declared.Accepted.{Accepted}

-- n, B and how many rows are filler; or why not
abbrev pub AcceptAnswer : Type 0
AcceptAnswer = Result Accepted Refusal

abbrev pub accept_answer : ℕ → ℕ → ℕ → AcceptAnswer
accept_answer n b filler = Ok (record { nodes = n; bound = b; filler = filler })

-- row r is filler: by its kind, whatever it weighs. Rows of version 1 have no kind
abbrev pub FillerRow : List ℕ → ℕ → Type 0
FillerRow s r = (version_of s ≡ 2) × Filler (kind_at s r)

-- and one of the first m
abbrev pub FillerBelow : List ℕ → ℕ → ℕ → Type 0
FillerBelow s m r = (r < m) × FillerRow s r

abbrev pub accept_refusal : ℕ → ℕ → ℕ → AcceptAnswer
accept_refusal k r g = Err (record { number = k; row = r; ring = g })

abbrev pub GivesNet : List ℕ → AcceptAnswer → Type 0
GivesNet s (Ok o) =
    (o.nodes ≡ nodes_of s) × (o.bound ≡ bound_of s) × Count (FillerBelow s (nodes_of s - 1)) o.filler
GivesNet s (Err w) = ⊥

abbrev pub AcceptOf : List ℕ → AcceptAnswer → Type 0
AcceptOf s = Begins AcceptAnswer accept_refusal s (GivesNet s)
