-- The operation pair: refusals 1 to 11, then 13 and 15; then length, weight and hops of the path from one node to the
-- other, in either order. A path longer than B is shown.
use Rattle.std.specs.Prelude.{ℕ, ◌-◌, ◌≡◌, List, ℤ, length, Result, Ok, Err}
use Rattle.table.specs.Refuse.{Unless}
use Rattle.table.specs.Header.{nodes_of}
use Rattle.net.specs.Net.{first_end, second_end, TwoNodes}
use Rattle.tree.specs.Accept.{Begins}
use Rattle.spines.specs.Hops.{Hops}
use Rattle.ground.specs.PathOf.{PathOf}
use Rattle.tree.specs.declared.Refusal.{Refusal}
use Rattle.pair.specs.declared.Found.{Found}

-- length, weight and hops, or why not
abbrev pub PairAnswer : Type 0
PairAnswer = Result Found Refusal

abbrev pub found : ℕ → ℤ → ℕ → PairAnswer
found l w h = Ok (record { length = l; weight = w; hops = h })

abbrev pub pair_refusal : ℕ → ℕ → ℕ → PairAnswer
pair_refusal k r g = Err (record { number = k; row = r; ring = g })

-- the path from a to b: its length, its weight under the marks, and how many different spines it touches
abbrev pub ShowsPath : List ℕ → List ℕ → ℕ → ℕ → ℕ → PairAnswer → Type 0
ShowsPath s marks n a b (Ok o) =
    PathOf s marks n a b o.length o.weight × Hops (first_end s) (second_end s) (n - 1) n a b o.hops
ShowsPath s marks n a b (Err why) = ⊥

-- 13 and 15, and then the path
abbrev pub Measures : List ℕ → List ℕ → ℕ → ℕ → ℕ → PairAnswer → Type 0
Measures s marks n a b =
    Unless PairAnswer (pair_refusal 13 0 0) (length marks ≡ n - 1)
    (Unless PairAnswer (pair_refusal 15 0 0) (TwoNodes n a b)
    (ShowsPath s marks n a b))

abbrev pub PairOf : List ℕ → List ℕ → ℕ → ℕ → PairAnswer → Type 0
PairOf s marks a b = Begins PairAnswer pair_refusal s (Measures s marks (nodes_of s) a b)
