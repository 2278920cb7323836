-- Acceptance that refuses by 11: an outcome that passes the test is the one promised. The rows before the row named
-- make no ring, and the way between its ends goes along them alone; so its ring has that row and those of the way.
use Prim.Native.Nat.{ℕ, ◌+◌, ◌-◌}
use mathlib.Core.Path.{◌≡◌}
use mathlib.Core.Bool.{Bool}
use mathlib.Core.List.{List, [], ◌∷◌}
use native.Mathlib.Omega.{arith}
use lib.Dec.{T, eqb, ltb, eqb→eq, ltb→lt}
use lib.ListN.{length}
use Rattle.std.specs.Prelude.{Err}
use Rattle.table.specs.Header.{nodes_of}
use Rattle.net.specs.Graph.{First, Walk, stop, go}
use Rattle.net.specs.Net.{first_end, second_end}
use Rattle.net.specs.Ring.{closed}
use Rattle.tree.specs.declared.Refusal.{Refusal}
use Rattle.tree.proofs.Eleven.{first_refused}
use Rattle.accept.specs.Accept.{accept_refusal, AcceptOf}
use Rattle.accept.proofs.Theorems.{refused_as_acceptance}
use Rattle.net.proofs.Labels.{both, grows, grows_forest}
use Rattle.worked.proofs.Tests.{every, every_passed, throughout}
use Rattle.worked.proofs.Accepted.{good?, good}
use Rattle.worked.proofs.Ways.{met, path?, is_walk}

-- a walk whose rows all stand before row r
earlier : {u v : ℕ → ℕ} {k a b : ℕ} {rs ns : List ℕ} (r : ℕ) → T (throughout (λ q. ltb q r) rs)
    → Walk u v (First k) a rs ns b → Walk u v (First r) a rs ns b
unfolding throughout
earlier r t stop = stop
earlier r t (go {r = q} {rs = rs} h e w) =
    let x = both (ltb q r) (throughout (λ q. ltb q r) rs) t in
    go (ltb→lt q r x.0) e (earlier r x.1 w)

module _ (way : ℕ → ℕ → List ℕ) (s : List ℕ) (why : Refusal) where
  abbrev r : ℕ
  r = why.row

  abbrev rs : List ℕ
  rs = way (first_end s r) (second_end s r)

  abbrev tests : List Bool
  tests =
      good? s ∷ ltb r (nodes_of s - 1) ∷ grows (first_end s) (second_end s) r
      ∷ path? s (first_end s r) rs (second_end s r) ∷ throughout (λ q. ltb q r) rs
      ∷ eqb why.number 11 ∷ eqb why.ring (1 + length rs) ∷ []

  unfoldable pub ringed? : Bool
  ringed? = every tests

  pub is_ringed : T ringed? → AcceptOf s (Err why)
  unfolding ringed?
  is_ringed t =
      let p = every_passed tests t in
      let q = p.1.1.1.1 in
      let k : why.number ≡ 11 = eqb→eq _ _ q.1.0 in
      let g : why.ring ≡ 1 + length rs = eqb→eq _ _ q.1.1.0 in
      let w = is_walk s (first_end s r) rs (second_end s r) p.1.1.1.0 in
      turn (λ i. accept_refusal (k i) r why.ring)
      (refused_as_acceptance s 11 r why.ring (first_refused s (good s p.0) r why.ring (ltb→lt _ _ p.1.0)
      (grows_forest (first_end s) (second_end s) r p.1.1.0)
      (closed rs (met s (first_end s r) rs, earlier r q.0 w.0, w.1) g) (λ e. omega (arith, e, g))))
    where
      turn : Err why ≡ accept_refusal 11 r why.ring → AcceptOf s (accept_refusal 11 r why.ring)
          → AcceptOf s (Err why)
      turn e h = rw e h
