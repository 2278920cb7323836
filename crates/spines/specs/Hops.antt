-- Hops: the number of different spines that a path touches.
use Rattle.std.specs.Prelude.{ℕ, List, ◌∷◌}
use Rattle.arrays.specs.Members.{In}
use Rattle.net.specs.Path.{Path}
use Rattle.net.specs.Count.{Count}
use Rattle.spines.specs.Spine.{ChildOf, Head}

-- a spine is known by its head: h heads one that touches a node of ns
pub record Touched (C : ℕ → ℕ → Type 0) (n : ℕ) (ns : List ℕ) (h : ℕ) : Type 0 where
  pub node : ℕ
  pub on : In node ns
  pub head : Head C n h node

-- the path from x to y in a net of k rows and n nodes touches h different spines
pub record Hops (u v : ℕ → ℕ) (k n x y h : ℕ) : Type 0 where
  pub rows : List ℕ
  pub path : Path u v k x rows y
  pub touches : Count (Touched (ChildOf u v k n) n (x ∷ path.0)) h
