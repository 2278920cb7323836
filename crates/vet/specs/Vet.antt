-- The operation vet: refusals 1 to 11, then 13 and 32; then the verdict on the list's rows. It is the verdict against
-- what the listing of the same table, marks and floor considers.
use Rattle.std.specs.Prelude.{ℕ, ◌-◌, ◌/◌, ◌%◌, ◌≤◌, ◌≡◌, List, ℤ, length, Err}
use Rattle.table.specs.Refuse.{Unless}
use Rattle.table.specs.Header.{nodes_of, bound_of}
use Rattle.tree.specs.Accept.{Begins}
use Rattle.ground.specs.Considered.{Considered}
use Rattle.vetting.specs.Vets.{Vetted, GivesVerdict}

abbrev pub vet_refusal : ℕ → ℕ → ℕ → Vetted
vet_refusal k r g = Err (record { number = k; row = r; ring = g })

-- 13 and 32, then the verdict on as many rows of 16 bytes as the list has, of a net of n nodes
abbrev pub VetsOn : List ℕ → ℕ → List ℕ → ℤ → List ℕ → Vetted → Type 0
VetsOn s n marks floor list =
    Unless Vetted (vet_refusal 13 0 0) (length marks ≡ n - 1)
    (Unless Vetted (vet_refusal 32 0 0) (length list % 16 ≡ 0)
    (GivesVerdict (Considered (λ l. l ≤ bound_of s) s marks n floor) list (length list / 16)))

abbrev pub VetOf : List ℕ → List ℕ → ℤ → List ℕ → Vetted → Type 0
VetOf s marks floor list = Begins Vetted vet_refusal s (VetsOn s (nodes_of s) marks floor list)
