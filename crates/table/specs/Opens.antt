-- What opening and examining give: number and row of a refusal, or n and B.
use Rattle.std.specs.Prelude.{◌≡◌, List, ℕ, Result, Ok, Err}
use Rattle.table.specs.Header.{Header, nodes_of, bound_of}
use Rattle.table.specs.Examine.{Tested}
use Rattle.table.specs.declared.Opened.{Opened}
use Rattle.table.specs.declared.Refusal.{Refusal}

abbrev pub Opening : Type 0
Opening = Result Opened Refusal

abbrev pub opening_refusal : ℕ → ℕ → Opening
opening_refusal k r = Err (record { number = k; row = r })

-- n and B
abbrev pub opening : ℕ → ℕ → Opening
opening n b = Ok (record { nodes = n; bound = b })

-- opening: 1 to 6, then n and B
abbrev pub Opens : List ℕ → Opening → Type 0
Opens s = Header Opening opening_refusal s (λ x. x ≡ opening (nodes_of s) (bound_of s))

-- examining: 1 to 10, 22 and 23, then n and B
abbrev pub Examines : List ℕ → Opening → Type 0
Examines s = Tested Opening opening_refusal s (λ x. x ≡ opening (nodes_of s) (bound_of s))
