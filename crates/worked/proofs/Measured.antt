-- Pair: an outcome that passes the test is the one promised. The heads of the path's nodes, each once, are the spines
-- that it touches.
use Prim.Native.Nat.{ℕ, ◌-◌, ◌<◌}
use mathlib.Core.Path.{◌≡◌, refl, sym}
use mathlib.Core.Bool.{Bool, not, cond}
use mathlib.Core.List.{List, [], ◌∷◌}
use lib.Dec.{T, eqb, ltb, eqb_refl, eqb→eq, ltb→lt, T_not}
use lib.IntN.{ℤ}
use lib.ListN.{length}
use Rattle.table.specs.Refuse.{passed}
use Rattle.table.specs.Header.{nodes_of}
use Rattle.arrays.specs.Members.{In, at, past}
use Rattle.net.specs.Net.{first_end, second_end, length_of}
use Rattle.net.specs.Path.{Sum}
use Rattle.net.specs.Value.{Total}
use Rattle.net.specs.Count.{Count}
use Rattle.arrays.proofs.Members.{not_nil}
use Rattle.marks.specs.Weighs.{weight_under}
use Rattle.spines.specs.Spine.{ChildOf}
use Rattle.spines.specs.Heads.{HeadOf}
use Rattle.spines.specs.Hops.{Touched}
use Rattle.spines.proofs.Net.{net_head_only}
use Rattle.pair.specs.Pair.{pair_refusal, PairOf, found}
use Rattle.worked.proofs.Tests.{
  every,
  every_passed,
  throughout,
  throughout_in,
  has,
  has_in,
  no_repeat,
  no_repeat_distinct,
  eq_z,
  eq_z_is,
}
use Rattle.worked.proofs.Accepted.{accepted?, forest, begins}
use Rattle.worked.proofs.Ways.{met, path?, is_walk, is_path}
use Rattle.worked.proofs.Hung.{hangs?, head_at, head_is}

-- each member once
unfoldable pub once : List ℕ → List ℕ
once [] = []
once (x ∷ l) = cond (has x (once l)) (once l) (x ∷ once l)

module _ (up by : ℕ → ℕ) (s : List ℕ) where
  unfoldable pub heads_of : List ℕ → List ℕ
  heads_of [] = []
  heads_of (x ∷ l) = head_at up by s x ∷ heads_of l

  abbrev HeadIn : ℕ → List ℕ → Type 0
  HeadIn h ns = (x : ℕ) × In x ns × (head_at up by s x ≡ h)

  head_in : (h : ℕ) (ns : List ℕ) → In h (heads_of ns) → HeadIn h ns
  unfolding heads_of
  head_in h [] i = absurd (not_nil i)
  head_in h (x ∷ l) (at e) = (x, at refl, sym e)
  head_in h (x ∷ l) (past i) = let t = head_in h l i in (t.0, past t.1, t.2)

  abbrev touch_tests : List ℕ → List Bool
  touch_tests ns =
      throughout (λ x. ltb x (nodes_of s)) ns ∷ no_repeat (once (heads_of ns))
      ∷ throughout (λ h. has h (heads_of ns)) (once (heads_of ns))
      ∷ throughout (λ x. has (head_at up by s x) (once (heads_of ns))) ns ∷ []

  touched : T (accepted? s) → T (hangs? up by s) → (ns : List ℕ) → T (every (touch_tests ns))
      → Count (Touched (ChildOf (first_end s) (second_end s) (nodes_of s - 1) (nodes_of s)) (nodes_of s) ns)
      (length (once (heads_of ns)))
  touched ok g ns t =
      let p = every_passed (touch_tests ns) t in
      record {
        list = once (heads_of ns);
        once = no_repeat_distinct (once (heads_of ns)) p.1.0;
        only = λ h i. by_head h p.0
            (head_in h ns
            (has_in h (heads_of ns) (throughout_in (λ h. has h (heads_of ns)) (once (heads_of ns)) p.1.1.0 h i)));
        all = λ h k. has_in h (once (heads_of ns))
            (turn h (head_at up by s k.node)
            (net_head_only (forest s ok) k.head (head_is up by s ok g k.node (fits p.0 k.node k.on)))
            (throughout_in (λ x. has (head_at up by s x) (once (heads_of ns))) ns p.1.1.1.0 k.node k.on));
        long = refl;
      }
    where
      fits : T (throughout (λ x. ltb x (nodes_of s)) ns) → (x : ℕ) → In x ns → x < nodes_of s
      fits t x i = ltb→lt _ _ (throughout_in (λ x. ltb x (nodes_of s)) ns t x i)

      turn : (h g : ℕ) → h ≡ g → T (has g (once (heads_of ns))) → T (has h (once (heads_of ns)))
      turn h g e t = rw e t

      by_head : (h : ℕ) → T (throughout (λ x. ltb x (nodes_of s)) ns) → HeadIn h ns
          → Touched (ChildOf (first_end s) (second_end s) (nodes_of s - 1) (nodes_of s)) (nodes_of s) ns h
      by_head h b i =
          record { node = i.0; on = i.1; head = rename i.2 (head_is up by s ok g i.0 (fits b i.0 i.1)) }
        where
          rename : head_at up by s i.0 ≡ h → HeadOf s (nodes_of s) (head_at up by s i.0) i.0
              → HeadOf s (nodes_of s) h i.0
          rename e k = rw (← e) k

module _ (way : ℕ → ℕ → List ℕ) (up by : ℕ → ℕ) (s marks : List ℕ) (a b l h : ℕ) (w : ℤ) where
  abbrev rs : List ℕ
  rs = way a b

  abbrev on : List ℕ
  on = a ∷ met s a rs

  abbrev tests : List Bool
  tests =
      accepted? s ∷ hangs? up by s ∷ eqb (length marks) (nodes_of s - 1) ∷ ltb a (nodes_of s) ∷ ltb b (nodes_of s)
      ∷ not (eqb a b) ∷ path? s a rs b ∷ eqb (Sum (length_of s) rs) l
      ∷ eq_z (Total (weight_under s marks) rs) w ∷ every (touch_tests up by s on)
      ∷ eqb (length (once (heads_of up by s on))) h ∷ []

  unfoldable pub pair? : Bool
  pair? = every tests

  pub is_pair : T pair? → PairOf s marks a b (found l w h)
  unfolding pair?
  is_pair t =
      let p = every_passed tests t in
      let q = p.1.1 in
      let way = q.1.1.1.1.0 in
      let r = q.1.1.1.1.1 in
      let k = is_walk s a rs b way in
      begins s p.0 pair_refusal
      (passed (eqb→eq _ _ q.0)
      (passed
      (record {
        first = ltb→lt _ _ q.1.0;
        second = ltb→lt _ _ q.1.1.0;
        apart = λ e. T_not (eqb a b) q.1.1.1.0 (rw e (eqb_refl b));
      }) (
        record {
          rows = rs;
          path = is_path s a rs b way;
          length = eqb→eq _ _ r.0;
          weight = eq_z_is _ _ r.1.0;
        },
        record {
          rows = rs;
          path = (met s a rs, k.0, k.1);
          touches = counted (eqb→eq _ _ r.1.1.1.0) (touched up by s p.0 p.1.0 on r.1.1.0);
        },
      )))
    where
      counted : {h g : ℕ} → h ≡ g
          → Count (Touched (ChildOf (first_end s) (second_end s) (nodes_of s - 1) (nodes_of s)) (nodes_of s) on) h
          → Count (Touched (ChildOf (first_end s) (second_end s) (nodes_of s - 1) (nodes_of s)) (nodes_of s) on) g
      counted e c = rw (← e) c
