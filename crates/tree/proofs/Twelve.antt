-- Number 12, which said that there is no ring and yet a node isn't joined to node 0: good rows without a ring join all
-- nodes, by the number of groups that they leave. So a test of it refuses nothing; and no refusal of 1 to 11 has that
-- number.
use Prim.Native.Nat.{ℕ, ◌-◌, ◌≤◌, ◌<◌}
use mathlib.Core.Path.{◌≡◌, refl, ap}
use mathlib.Core.Logic.{inl, ◌≢◌, ◌↔◌}
use mathlib.Core.List.{List}
use native.Mathlib.Omega.{arith}
use Rattle.table.specs.Refuse.{Unless, passed}
use Rattle.table.specs.Header.{nodes_of, bound_of}
use Rattle.table.proofs.Accepted.{GoodTable}
use Rattle.table.proofs.Refusals.{settled}
use Rattle.net.specs.Graph.{Ring}
use Rattle.net.specs.Net.{first_end, second_end, Whole}
use Rattle.net.specs.work.Forest.{Forest}
use Rattle.net.proofs.Rows.{fit_less}
use Rattle.net.proofs.RingExactly.{forest_iff}
use Rattle.tree.specs.Accept.{Begins, acceptance_refusal, Accepts, Acceptance}
use Rattle.tree.specs.Groups.{Groups}
use Rattle.tree.specs.work.Why.{why_of}
use Rattle.tree.proofs.Begins.{fitting, sound_joined, begins_other, begins_map}
use Rattle.tree.proofs.Eleven.{ends_differ}
use Rattle.tree.proofs.Groups as groups

module _ (s : List ℕ) (t : GoodTable s) where
  forest : (k : ℕ) → k ≤ nodes_of s - 1 → ¬ Ring (first_end s) (second_end s) k → Forest (first_end s) (second_end s) k
  forest k l = (forest_iff (first_end s) (second_end s) differ).1
    where
      differ : (r : ℕ) → r < k → first_end s r ≢ second_end s r
      differ r h = ends_differ s t r (omega arith)

  pub groups_left : (k : ℕ) → k ≤ nodes_of s - 1 → ¬ Ring (first_end s) (second_end s) k
      → Groups (first_end s) (second_end s) k (nodes_of s) (nodes_of s - k)
  groups_left k l n =
      groups.groups_left (first_end s) (second_end s) k (nodes_of s) (forest k l n)
      (fit_less l (fitting s (nodes_of s) (bound_of s) t).fit)

  pub all_joined : ¬ Ring (first_end s) (second_end s) (nodes_of s - 1) → Whole s (nodes_of s)
  all_joined n = sound_joined (record { good = t; forest = forest _ (omega arith) n })

module _ {A : Type 0} (refuse : ℕ → ℕ → ℕ → A) (s : List ℕ) {rest : A → Type 0} {x : A} where
  pub as_with_twelve : Begins A refuse s rest x
      ↔ Begins A refuse s (Unless A (refuse 12 0 0) (Whole s (nodes_of s)) rest) x
  as_with_twelve = (
    begins_map (λ o. o) refuse s (λ n r. passed n.joined r),
    begins_map (λ o. o) refuse s (λ n r. settled n.joined r),
  )

pub unused : {A : Type 0} (number : A → ℕ) (refuse : ℕ → ℕ → ℕ → A) → ((k r g : ℕ) → number (refuse k r g) ≡ k)
    → (s : List ℕ) {rest : A → Type 0} → ((x : A) → rest x → number x ≢ 12) → (x : A) → Begins A refuse s rest x
    → number x ≢ 12
unused number refuse is s f x p e =
    f x (begins_other refuse s number is (omega (arith, e)) (inl (omega (arith, e))) p) e

pub never_twelve : (s : List ℕ) (r g : ℕ) → Accepts s (acceptance_refusal 12 r g) → ⊥
never_twelve s r g p =
    unused (λ o. (why_of o).number) acceptance_refusal (λ k r g. refl) s
    (λ o e. omega (arith, ap (λ (x : Acceptance). (why_of x).number) e)) (acceptance_refusal 12 r g) p refl
