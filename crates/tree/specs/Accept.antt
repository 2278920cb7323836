-- Refusal 11, and how every operation over a tree's table but the row reader's begins: 1 to 11 in order, which takes in
-- 22 and 23, since they stand where 10 does for the rows of a version 2 table. What acceptance gives: n and B. A
-- refusal is a number, a row (0 where none is named) and, for 11 alone, how many rows the ring has (0 for every other).
use Rattle.std.specs.Prelude.{ℕ, ◌-◌, ◌≡◌, List, Result, Ok, Err}
use Rattle.table.specs.Refuse.{FirstBad}
use Rattle.table.specs.Header.{nodes_of, bound_of}
use Rattle.table.specs.Examine.{Tested}
use Rattle.net.specs.Ring.{RingRows}
use Rattle.net.specs.Net.{first_end, second_end}
use Rattle.table.specs.declared.Opened.{Opened}
use Rattle.tree.specs.declared.Refusal.{Refusal}

-- 11 over all rows, the first row that closes a ring named, with how many rows the ring has; then as the rest says
abbrev pub Rings : (A : Type 0) → (ℕ → ℕ → ℕ → A) → List ℕ → ℕ → (A → Type 0) → A → Type 0
Rings A refuse s n rest =
    FirstBad A (λ g r. refuse 11 r g) (n - 1) (RingRows (first_end s) (second_end s)) rest

-- 1 to 11, and then as the rest says. Number 12 is unused: rows that pass 11 join all nodes (proofs/Theorems)
abbrev pub Begins : (A : Type 0) → (ℕ → ℕ → ℕ → A) → List ℕ → (A → Type 0) → A → Type 0
Begins A refuse s rest = Tested A (λ k r. refuse k r 0) s (Rings A refuse s (nodes_of s) rest)

abbrev pub Acceptance : Type 0
Acceptance = Result Opened Refusal

-- n and B
abbrev pub acceptance : ℕ → ℕ → Acceptance
acceptance n b = Ok (record { nodes = n; bound = b })

abbrev pub acceptance_refusal : ℕ → ℕ → ℕ → Acceptance
acceptance_refusal k r g = Err (record { number = k; row = r; ring = g })

abbrev pub Accepts : List ℕ → Acceptance → Type 0
Accepts s = Begins Acceptance acceptance_refusal s (λ x. x ≡ acceptance (nodes_of s) (bound_of s))
