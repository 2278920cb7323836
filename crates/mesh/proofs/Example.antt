-- Two examples, told of the definitions. One node and no row: no branch, from node 0 to node 0. And the request's own:
-- of the rows 0-1, 1-2, 0-2, 2-3 the answer is 3 branches, from node 0 to node 3. Row 3 alone leads to node 3, so that
-- a walk without it stays among the other three nodes, and one that has it once has node 3 at one end: it lies on no
-- ring, and a path of three branches from node 0 ends there. The ring that is left is the one that row 2 closes, of
-- three rows, which are all.
use Prim.Native.Nat.{ℕ, ◌+◌, ◌≤◌, ◌<◌}
use mathlib.Core.Path.{◌≡◌, refl, sym, ap, ◌∙◌}
use mathlib.Core.Logic.{◌⊎◌, inl, inr, ◌≢◌}
use mathlib.Core.List.{List, [], ◌∷◌}
use native.Mathlib.Omega.{arith}
use native.Mathlib.Decide.{ℕ_discrete, dec_lt}
use lib.ListN.{length}
use Rattle.arrays.specs.Members.{In, at, past, Distinct}
use Rattle.arrays.proofs.Members.{in?, not_nil, in_one}
use Rattle.table.specs.Refuse.{passed, fine}
use Rattle.net.specs.Graph.{First, Ends, Walk, stop, go, Joined, Ring}
use Rattle.net.specs.Ring.{RingRows, closed}
use Rattle.net.specs.work.Forest.{Forest}
use Rattle.net.proofs.Counts.{count_full}
use Rattle.net.proofs.Joined.{walk_mono, joined_refl, joined_step, alone}
use Rattle.net.proofs.RingExactly.{fresh, once}
use Rattle.net.proofs.OneRing.{one_ring}
use Rattle.net.proofs.Short.{path_rows}
use Rattle.mesh.specs.Mesh.{RepeatsPair, Connected, OneRing, PathWith, Longest}
use Rattle.mesh.specs.Answer.{Answered, most}
use Rattle.mesh.specs.work.Rows.{EndsApart}
use Rattle.mesh.proofs.Rings.{walk_each}
use Rattle.mesh.proofs.Theorems.{few_branches}

-- ONE NODE
pub one_node : (u v : ℕ → ℕ) → Answered u v 0 1 (most 0 0 0)
one_node u v = fine (λ r h. absurd (omega arith)) (passed joined (passed one longest))
  where
    joined : Connected u v 0 1
    joined x h = let e : x ≡ 0 = omega arith in rw e (joined_refl u v 0)

    one : OneRing u v 0
    one r p q i j = absurd (omega (arith, walk_each u v p.closed r i))

    none : EndsApart u v 0 1
    none =
        record {
          first = λ r h. absurd (omega arith);
          second = λ r h. absurd (omega arith);
          apart = λ r h. absurd (omega arith);
        }

    longest : Longest u v 0 1 0 0 0
    longest = record {
      within = omega arith;
      some = ([], ([], stop, (not_nil, tt)), refl);
      most = λ x y m l p. omega (arith, few_branches none l p);
      first = λ x y l p. inr (omega arith, omega arith);
    }

-- THE REQUEST'S
pub record Drawn (u v : ℕ → ℕ) : Type 0 where
  pub u0 : u 0 ≡ 0
  pub v0 : v 0 ≡ 1
  pub u1 : u 1 ≡ 1
  pub v1 : v 1 ≡ 2
  pub u2 : u 2 ≡ 0
  pub v2 : v 2 ≡ 2
  pub u3 : u 3 ≡ 2
  pub v3 : v 3 ≡ 3

-- row r, which is one of the four, joins p and q
data Row (r p q : ℕ) : Type 0 where
  r0 : r ≡ 0 → p ≡ 0 → q ≡ 1 → Row r p q
  r1 : r ≡ 1 → p ≡ 1 → q ≡ 2 → Row r p q
  r2 : r ≡ 2 → p ≡ 0 → q ≡ 2 → Row r p q
  r3 : r ≡ 3 → p ≡ 2 → q ≡ 3 → Row r p q

-- a list of different rows of the first n, n of them: all
all_rows : {n : ℕ} (rs : List ℕ) → Distinct rs → ((r : ℕ) → In r rs → r < n) → n ≤ length rs → (r : ℕ) → r < n → In r rs
all_rows {n} rs d f l =
    count_full n f (record { list = rs; once = d; only = λ x i. i; all = λ x i. i; long = refl }) l

module _ {u v : ℕ → ℕ} (D : Drawn u v) where
  row : (r : ℕ) → r < 4 → Row r (u r) (v r)
  row r h = pick (ℕ_discrete r 0) (ℕ_discrete r 1) (ℕ_discrete r 2)
    where
      pick : Dec (r ≡ 0) → Dec (r ≡ 1) → Dec (r ≡ 2) → Row r (u r) (v r)
      pick (yes e) b c = r0 e (ap u e ∙ D.u0) (ap v e ∙ D.v0)
      pick (no a) (yes e) c = r1 e (ap u e ∙ D.u1) (ap v e ∙ D.v1)
      pick (no a) (no b) (yes e) = r2 e (ap u e ∙ D.u2) (ap v e ∙ D.v2)
      pick (no a) (no b) (no c) =
          let e : r ≡ 3 = omega arith in r3 e (ap u e ∙ D.u3) (ap v e ∙ D.v3)

  rows : EndsApart u v 4 4
  rows = record { first = λ r h. first (row r h); second = λ r h. second (row r h); apart = λ r h. apart (row r h) }
    where
      first : {r p q : ℕ} → Row r p q → p < 4
      first (r0 e f g) = omega arith
      first (r1 e f g) = omega arith
      first (r2 e f g) = omega arith
      first (r3 e f g) = omega arith

      second : {r p q : ℕ} → Row r p q → q < 4
      second (r0 e f g) = omega arith
      second (r1 e f g) = omega arith
      second (r2 e f g) = omega arith
      second (r3 e f g) = omega arith

      apart : {r p q : ℕ} → Row r p q → p ≢ q
      apart (r0 e f g) i = omega arith
      apart (r1 e f g) i = omega arith
      apart (r2 e f g) i = omega arith
      apart (r3 e f g) i = omega arith

  -- NO PAIR COMES AGAIN: the two ends of each row have another sum
  no_pair : (r : ℕ) → r < 4 → ¬ RepeatsPair u v r
  no_pair r h t = apart h (row t.0 (omega (arith, t.1))) (row r h) t.1 (same t.2)
    where
      same : {i : ℕ} → Ends u v i (u r) (v r) → u i + v i ≡ u r + v r
      same (inl e) = omega (arith, e.0, e.1)
      same (inr e) = omega (arith, e.0, e.1)

      apart : {i j a b c d : ℕ} → j < 4 → Row i a b → Row j c d → i < j → a + b ≡ c + d → ⊥
      apart k (r0 e f g) (r0 e' f' g') l s = omega arith
      apart k (r0 e f g) (r1 e' f' g') l s = omega arith
      apart k (r0 e f g) (r2 e' f' g') l s = omega arith
      apart k (r0 e f g) (r3 e' f' g') l s = omega arith
      apart k (r1 e f g) (r0 e' f' g') l s = omega arith
      apart k (r1 e f g) (r1 e' f' g') l s = omega arith
      apart k (r1 e f g) (r2 e' f' g') l s = omega arith
      apart k (r1 e f g) (r3 e' f' g') l s = omega arith
      apart k (r2 e f g) (r0 e' f' g') l s = omega arith
      apart k (r2 e f g) (r1 e' f' g') l s = omega arith
      apart k (r2 e f g) (r2 e' f' g') l s = omega arith
      apart k (r2 e f g) (r3 e' f' g') l s = omega arith
      apart k (r3 e f g) t l s = omega arith

  -- ALL JOINED
  joined : Connected u v 4 4
  joined x h = pick (ℕ_discrete x 0) (ℕ_discrete x 1) (ℕ_discrete x 2)
    where
      two : Joined u v (First 4) 0 2
      two = joined_step u v {r = 2} (omega arith) (inl (D.u2, D.v2)) (joined_refl u v 2)

      pick : Dec (x ≡ 0) → Dec (x ≡ 1) → Dec (x ≡ 2) → Joined u v (First 4) 0 x
      pick (yes e) b c = rw e (joined_refl u v 0)
      pick (no a) (yes e) c = rw e (joined_step u v {r = 0} (omega arith) (inl (D.u0, D.v0)) (joined_refl u v 1))
      pick (no a) (no b) (yes e) = rw e two
      pick (no a) (no b) (no c) =
          let e : x ≡ 3 = omega arith in
          rw e
          (joined_step u v {r = 2} (omega arith) (inl (D.u2, D.v2))
          (joined_step u v {r = 3} (omega arith) (inl (D.u3, D.v3)) (joined_refl u v 3)))

  -- the rows but row 3 join nodes below 3, and row 3 leads to node 3
  below : {r a c : ℕ} → r < 3 → Ends u v r a c → (a < 3) × (c < 3)
  below {r = r} {a} {c} h e = side e (low (row r (omega arith)))
    where
      low : {p q : ℕ} → Row r p q → (p < 3) × (q < 3)
      low (r0 e f g) = (omega arith, omega arith)
      low (r1 e f g) = (omega arith, omega arith)
      low (r2 e f g) = (omega arith, omega arith)
      low (r3 e f g) = absurd (omega arith)

      side : Ends u v r a c → (u r < 3) × (v r < 3) → (a < 3) × (c < 3)
      side (inl q) l = (omega (arith, q.0, l.0), omega (arith, q.1, l.1))
      side (inr q) l = (omega (arith, q.1, l.1), omega (arith, q.0, l.0))

  -- a walk without row 3
  stays : {a b : ℕ} {rs ns : List ℕ} → Walk u v (First 4) a rs ns b → ¬ In 3 rs → (a < 3 → b < 3) × (b < 3 → a < 3)
  stays stop n = (λ h. h, λ h. h)
  stays (go {r} h e w) n =
      let l = below {r = r} (omega (arith, h, apart)) e in
      let t = stays w (λ i. n (past i)) in
      (λ _. t.0 l.1, λ _. l.0)
    where
      apart : 3 ≢ r
      apart q = n (at q)

  -- a walk with it, once, has node 3 at one end
  ends_there : {a b : ℕ} {rs ns : List ℕ} → Walk u v (First 4) a rs ns b → Distinct rs → In 3 rs
      → (a < 3 → b < 3 → ⊥) × (3 ≤ a → 3 ≤ b → ⊥)
  ends_there stop d i = absurd (not_nil i)
  ends_there {a} {b} (go {r} {c = c} {rs = rs} h e w) d (at q) =
      side e (stays w (λ i. d.0 (rw q at i)))
    where
      first : u r ≡ 2
      first = ap u (sym q) ∙ D.u3

      second : v r ≡ 3
      second = ap v (sym q) ∙ D.v3

      side : Ends u v r a c → (c < 3 → b < 3) × (b < 3 → c < 3) → (a < 3 → b < 3 → ⊥) × (3 ≤ a → 3 ≤ b → ⊥)
      side (inl f) t = (λ x y. omega (arith, f.1, second, t.1 y), λ x y. omega (arith, f.0, first, x))
      side (inr f) t = (
        λ x y. omega (arith, f.1, second, x),
        λ x y. omega (arith, y, t.0 (omega (arith, f.0, first))),
      )
  ends_there {a} {b} (go {r} h e w) d (past i) =
      let l = below {r = r} (omega (arith, h, apart)) e in
      let t = ends_there w d.1 i in
      (λ x y. t.0 l.1 y, λ x y. omega (arith, l.0, x))
    where
      apart : r ≢ 3
      apart q = d.0 (rw q i)

  -- the walk without it is one of the first three rows
  three : {a b : ℕ} {rs ns : List ℕ} → Walk u v (First 4) a rs ns b → ¬ In 3 rs → Walk u v (First 3) a rs ns b
  three w n = walk_mono u v (λ s h. omega (arith, h.0, h.1)) (fresh u v w n)

  -- ONE RING: the rows before row 2 make none
  forest : Forest u v 2
  forest r h w = pick (ℕ_discrete r 0) (ℕ_discrete r 1)
    where
      short : {a b : ℕ} {rs ns : List ℕ} → Walk u v (First 1) a rs ns b → a ≤ 1 → b ≤ 1
      short stop l = l
      short (go {r} {a} {c} h e w) l = short w (side e)
        where
          zero : r ≡ 0
          zero = omega arith

          side : Ends u v r a c → c ≤ 1
          side (inl q) = omega (arith, q.1, ap v zero, D.v0)
          side (inr q) = omega (arith, q.0, ap u zero, D.u0)

      pick : Dec (r ≡ 0) → Dec (r ≡ 1) → ⊥
      pick (yes e) b =
          let t : Joined u v (First 0) (u 0) (v 0) = rw e at w in
          omega (arith, alone u v (λ r h. omega arith) t, D.u0, D.v0)
      pick (no a) (yes e) =
          let t : Joined u v (First 1) (u 1) (v 1) = rw e at w in
          omega (arith, short t.2 (omega (arith, D.u1)), D.v1)
      pick (no a) (no b) = omega arith

  around : RingRows u v 2 3
  around = closed (0 ∷ 1 ∷ []) (1 ∷ 2 ∷ [], rw (D.u2, D.v2) walk, rw D.u2 apart) refl
    where
      walk : Walk u v (First 2) 0 (0 ∷ 1 ∷ []) (1 ∷ 2 ∷ []) 2
      walk = go {r = 0} (omega arith) (inl (D.u0, D.v0)) (go {r = 1} (omega arith) (inl (D.u1, D.v1)) stop)

      apart : Distinct {A = ℕ} (0 ∷ 1 ∷ 2 ∷ [])
      apart = (none, (λ i. omega (arith, in_one i), (not_nil, tt)))
        where
          none : In {A = ℕ} 0 (1 ∷ 2 ∷ []) → ⊥
          none (at e) = omega (arith, e)
          none (past i) = omega (arith, in_one i)

  off_ring : (p : Ring u v 4) → ¬ In 3 p.rs
  off_ring p i = pick (dec_lt p.start 3)
    where
      pick : Dec (p.start < 3) → ⊥
      pick (yes l) = (ends_there p.closed p.rows_once i).0 l l
      pick (no l) = (ends_there p.closed p.rows_once i).1 (omega arith) (omega arith)

  ring_rows : (p : Ring u v 4) (r : ℕ) → r < 3 → In r p.rs
  ring_rows p =
      let w = three p.closed (off_ring p) in
      let o : Ring u v 3 = record {
        start = p.start;
        rs = p.rs;
        ns = p.ns;
        closed = w;
        rows_once = p.rows_once;
        nodes_once = p.nodes_once;
        two = p.two;
      } in
      all_rows p.rs p.rows_once (walk_each u v w) (omega (arith, one_ring u v forest around o))

  one : OneRing u v 4
  one r p q i j s k = ring_rows q s (walk_each u v (three p.closed (off_ring p)) s k)

  -- THE LONGEST PATH
  way : PathWith u v 4 0 3 3
  way = (0 ∷ 1 ∷ 3 ∷ [], (1 ∷ 2 ∷ 3 ∷ [], walk, apart), refl)
    where
      walk : Walk u v (First 4) 0 (0 ∷ 1 ∷ 3 ∷ []) (1 ∷ 2 ∷ 3 ∷ []) 3
      walk =
          go {r = 0} (omega arith) (inl (D.u0, D.v0))
          (go {r = 1} (omega arith) (inl (D.u1, D.v1)) (go {r = 3} (omega arith) (inl (D.u3, D.v3)) stop))

      apart : Distinct {A = ℕ} (0 ∷ 1 ∷ 2 ∷ 3 ∷ [])
      apart = (none, (one, (λ i. omega (arith, in_one i), (not_nil, tt))))
        where
          none : In {A = ℕ} 0 (1 ∷ 2 ∷ 3 ∷ []) → ⊥
          none (at e) = omega (arith, e)
          none (past (at e)) = omega (arith, e)
          none (past (past i)) = omega (arith, in_one i)

          one : In {A = ℕ} 1 (2 ∷ 3 ∷ []) → ⊥
          one (at e) = omega (arith, e)
          one (past i) = omega (arith, in_one i)

  -- of three rows from below node 3, it ends at node 3
  there : {x y : ℕ} → x < 3 → PathWith u v 4 x y 3 → 3 ≤ y
  there {x} {y} l p = pick (in? 3 p.0)
    where
      pick : Dec (In 3 p.0) → 3 ≤ y
      pick (yes i) =
          let f = (ends_there p.1.1 (once u v p.1.1 p.1.2) i).0 l in far (dec_lt y 3) f
        where
          far : Dec (y < 3) → (y < 3 → ⊥) → 3 ≤ y
          far (yes h) f = absurd (f h)
          far (no h) f = omega arith
      pick (no n) =
          let w = three p.1.1 n in
          absurd (omega (arith, p.2, path_rows (λ r h. below {r = r} h (inl (refl, refl))) l w p.1.2))

  longest : Longest u v 4 4 3 0 3
  longest = record {
    within = omega arith;
    some = way;
    most = λ x y m l p. omega (arith, few_branches rows l p);
    first = λ x y l p. first x y p (ℕ_discrete x 0);
  }
    where
      first : (x y : ℕ) → PathWith u v 4 x y 3 → Dec (x ≡ 0) → (0 < x) ⊎ ((0 ≡ x) × (3 ≤ y))
      first x y p (yes e) = inr (sym e, there (omega arith) p)
      first x y p (no n) = inl (omega arith)

  pub answer : Answered u v 4 4 (most 3 0 3)
  answer = fine (λ r h. passed (no_pair r h) refl) (passed joined (passed one longest))
