-- Children by an array of parents, as the walk from node 0 leaves it: with them the meanings of Spine say what the
-- functions between our crates promise.
use Rattle.std.specs.Prelude.{ℕ, ◌<◌, ◌≡◌, ◌≢◌, List, length}
use Rattle.arrays.specs.At.{at}
use Rattle.net.specs.Count.{Count}
use Rattle.net.specs.work.Rooted.{Above, Rooted}
use Rattle.reach.specs.work.Grown.{Grown}
use Rattle.spines.specs.Spine.{Head}
use Rattle.spines.specs.Hops.{Hops}

-- each node below n but node 0 is a child of its parent
pub record Child (n : ℕ) (par : ℕ → ℕ) (p c : ℕ) : Type 0 where
  pub fits : c < n
  pub low : c ≢ 0
  pub of : par c ≡ p

-- each node's head
pub record HeadsAll (n : ℕ) (parent head : List ℕ) : Type 0 where
  pub long : length head ≡ 4096
  pub each : (x : ℕ) → x < n → Head (Child n (at parent)) n (at head x) x

-- how many nodes are below each node, itself among them
pub record SizesAll (n : ℕ) (parent size : List ℕ) : Type 0 where
  pub long : length size ≡ 4096
  pub each : (t : ℕ) → t < n → Count (λ x. (x < n) × Above (at parent) t x) (at size t)

-- a walk's parents and places, and each node's head
pub record Spined (n : ℕ) (parent place head : List ℕ) : Type 0 where
  pub order : List ℕ
  pub grown : Grown n parent order place
  pub heads : HeadsAll n parent head

-- the hops from x to y, in any net of which these are the parents
pub record HopsBy (n : ℕ) (parent place : List ℕ) (x y h : ℕ) : Type 0 where
  pub hops : (u v : ℕ → ℕ) (k : ℕ) (row : ℕ → ℕ) → Rooted u v k n (at parent) row (at place) → Hops u v k n x y h
  pub few : h < 8192
