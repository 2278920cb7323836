-- Ways: `way a b` is said to be the rows of the path from a to b. It is walked again, node by node, and no node is met
-- twice: so it is the path, and the only one.
use Prim.Native.Nat.{ℕ, ◌-◌}
use mathlib.Core.Path.{◌≡◌, refl}
use mathlib.Core.Logic.{inl, inr}
use mathlib.Core.Bool.{Bool, true, false, ◌&&◌, ◌||◌, cond}
use mathlib.Core.List.{List, [], ◌∷◌}
use lib.Dec.{T, eqb, ltb, eqb→eq, ltb→lt}
use Rattle.table.specs.Header.{nodes_of}
use Rattle.arrays.specs.Members.{Distinct}
use Rattle.net.specs.Graph.{First, Ends, Walk, stop, go}
use Rattle.net.specs.Path.{Path}
use Rattle.net.specs.Net.{first_end, second_end}
use Rattle.net.proofs.OnePath.{unique}
use Rattle.net.proofs.Labels.{both}
use Rattle.worked.proofs.Tests.{no_repeat, no_repeat_distinct}
use Rattle.worked.proofs.Accepted.{accepted?, forest}

module _ (s : List ℕ) where
  unfoldable pub other : ℕ → ℕ → ℕ
  other r a = cond (eqb (first_end s r) a) (second_end s r) (first_end s r)

  -- the nodes met along rows, and whether the rows lead on from each to the next and end at b
  unfoldable pub met : ℕ → List ℕ → List ℕ
  met a [] = []
  met a (r ∷ rs) = other r a ∷ met (other r a) rs

  unfoldable pub leads : ℕ → List ℕ → ℕ → Bool
  leads a [] b = eqb a b
  leads a (r ∷ rs) b =
      ltb r (nodes_of s - 1) && (eqb (first_end s r) a || eqb (second_end s r) a) && leads (other r a) rs b

  other_ends : (r a : ℕ) → T (eqb (first_end s r) a || eqb (second_end s r) a)
      → Ends (first_end s) (second_end s) r a (other r a)
  unfolding other
  other_ends r a t = pick (eqb (first_end s r) a) (λ e. e) t
    where
      pick : (b : Bool) → (T b → T (eqb (first_end s r) a)) → T (b || eqb (second_end s r) a)
          → Ends (first_end s) (second_end s) r a (cond b (second_end s r) (first_end s r))
      pick true f t = inl (eqb→eq _ _ (f tt), refl)
      pick false f t = inr (refl, eqb→eq _ _ t)

  leads_walk : (a : ℕ) (rs : List ℕ) (b : ℕ) → T (leads a rs b)
      → Walk (first_end s) (second_end s) (First (nodes_of s - 1)) a rs (met a rs) b
  unfolding leads met
  leads_walk a [] b t = rw (eqb→eq a b t) stop
  leads_walk a (r ∷ rs) b t =
      let x = both (ltb r (nodes_of s - 1) && (eqb (first_end s r) a || eqb (second_end s r) a))
      (leads (other r a) rs b)
      t in
      let y = both (ltb r (nodes_of s - 1)) (eqb (first_end s r) a || eqb (second_end s r) a) x.0 in
      go (ltb→lt r (nodes_of s - 1) y.0) (other_ends r a y.1) (leads_walk (other r a) rs b x.1)

  -- rs is the path from a to b
  unfoldable pub path? : ℕ → List ℕ → ℕ → Bool
  path? a rs b = leads a rs b && no_repeat (a ∷ met a rs)

  pub is_walk : (a : ℕ) (rs : List ℕ) (b : ℕ) → T (path? a rs b)
      → Walk (first_end s) (second_end s) (First (nodes_of s - 1)) a rs (met a rs) b × Distinct (a ∷ met a rs)
  unfolding path?
  is_walk a rs b t =
      let x = both (leads a rs b) (no_repeat (a ∷ met a rs)) t in
      (leads_walk a rs b x.0, no_repeat_distinct _ x.1)

  pub is_path : (a : ℕ) (rs : List ℕ) (b : ℕ) → T (path? a rs b)
      → Path (first_end s) (second_end s) (nodes_of s - 1) a rs b
  is_path a rs b t = let x = is_walk a rs b t in (met a rs, x.0, x.1)

  pub path_only : {a b : ℕ} {rs ts : List ℕ} → T (accepted? s) → Path (first_end s) (second_end s) (nodes_of s - 1) a
      rs b
      → Path (first_end s) (second_end s) (nodes_of s - 1) a ts b → rs ≡ ts
  path_only t p q = (unique (first_end s) (second_end s) (forest s t) p.1 q.1 p.2 q.2).0
