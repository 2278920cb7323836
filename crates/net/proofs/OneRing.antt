-- The ring that a row closes is one: where the rows before row r are a forest, every ring among the rows up to r has as
-- many rows as row r's number says. The ring uses row r; without it, what is left is the path between its ends, begun
-- at another place.
use Prim.Native.Nat.{ℕ, ◌+◌}
use mathlib.Core.Path.{◌≡◌, refl, sym, ap}
use mathlib.Core.Logic.{inl, inr}
use mathlib.Core.List.{List, [], ◌∷◌, ◌++◌}
use native.Mathlib.Omega.{arith}
use lib.ListN.{length, length-append}
use Rattle.arrays.specs.Members.{In, at, past, Distinct}
use Rattle.net.specs.Graph.{First, Ends, Walk, stop, go, Ring}
use Rattle.net.specs.work.Forest.{Forest}
use Rattle.net.specs.Path.{Sum}
use Rattle.net.specs.Ring.{RingRows, closed}
use Rattle.arrays.proofs.Members.{not_nil, in?, distinct_parts, distinct_turn}
use Rattle.net.proofs.Joined.{walk_on, walk_mono}
use Rattle.net.proofs.Flip.{flip}
use Rattle.net.proofs.RingExactly.{fresh, ring_closes}
use Rattle.net.proofs.RingRows.{ring_rows_only}

pub sum_one : (l : List ℕ) → Sum (λ _. 1) l ≡ length l
sum_one [] = refl
sum_one (x ∷ l) = omega (arith, sum_one l)

module _ (u v : ℕ → ℕ) where
  -- a walk at its row r
  record At (P : ℕ → Type 0) (r a b : ℕ) (rs ns : List ℕ) : Type 0 where
    x : ℕ
    y : ℕ
    ends : Ends u v r x y
    rs₁ : List ℕ
    ns₁ : List ℕ
    rs₂ : List ℕ
    ns₂ : List ℕ
    to : Walk u v P a rs₁ ns₁ x
    on : Walk u v P y rs₂ ns₂ b
    rows : rs ≡ rs₁ ++ (r ∷ rs₂)
    nodes : ns ≡ ns₁ ++ (y ∷ ns₂)

  find : {P : ℕ → Type 0} {r a b : ℕ} {rs ns : List ℕ} → Walk u v P a rs ns b → In r rs → At P r a b rs ns
  find stop i = absurd (not_nil i)
  find {r = r} (go {r = s} {a = a} {c = c} {rs = rs} {ns = ns} h e w) (at q) =
      record {
        x = a;
        y = c;
        ends = rw q e;
        rs₁ = [];
        ns₁ = [];
        rs₂ = rs;
        ns₂ = ns;
        to = stop;
        on = w;
        rows = ap (λ (z : ℕ). z ∷ rs) (sym q);
        nodes = refl;
      }
  find {P} {r} {b = b} (go {r = s} {a = a} {c = c} {rs = rs} {ns = ns} h e w) (past i) = more (find w i)
    where
      more : At P r c b rs ns → At P r a b (s ∷ rs) (c ∷ ns)
      more t =
          record {
            x = t.x;
            y = t.y;
            ends = t.ends;
            rs₁ = s ∷ t.rs₁;
            ns₁ = c ∷ t.ns₁;
            rs₂ = t.rs₂;
            ns₂ = t.ns₂;
            to = go h e t.to;
            on = t.on;
            rows = ap (λ (l : List ℕ). s ∷ l) t.rows;
            nodes = ap (λ (l : List ℕ). c ∷ l) t.nodes;
          }

  -- a path between the ends of row r has as many rows as the number says, less one, whichever end it begins at
  as_many : {r g x y : ℕ} {rs ns : List ℕ} → Forest u v r → RingRows u v r g → Ends u v r x y
      → Walk u v (First r) y rs ns x → Distinct (y ∷ ns) → g ≡ 1 + length rs
  as_many {r} {g} {rs = rs} {ns = ns} f p (inr e) w d =
      ring_rows_only u v f g _ p (closed rs (ns, rw (e.0, e.1) w, rw e.0 d) refl)
  as_many {r} {g} {rs = rs} {ns = ns} f p (inl e) w d =
      let t = flip u v w in
      omega (
        arith,
        ring_rows_only u v f g _ p (closed t.rows (t.nodes, rw (e.0, e.1) t.walk, rw e.0 (t.once d)) refl),
        t.sum (λ _. 1),
        sum_one t.rows,
        sum_one rs,
      )

  pub one_ring : {r g : ℕ} → Forest u v r → RingRows u v r g → (o : Ring u v (r + 1)) → length o.rs ≡ g
  one_ring {r} {g} f p o = pick (in? r o.rs)
    where
      low : {a b : ℕ} {rs ns : List ℕ} → Walk u v (First (r + 1)) a rs ns b → ¬ In r rs → Walk u v (First r) a rs ns b
      low w n = walk_mono u v (λ s h. omega (arith, h.0, h.1)) (fresh u v w n)

      round : At (First (r + 1)) r o.start o.start o.rs o.ns → length o.rs ≡ g
      round t =
          let d : Distinct (t.rs₁ ++ (r ∷ t.rs₂)) = rw t.rows at o.rows_once in
          let q = distinct_parts t.rs₁ (r ∷ t.rs₂) d in
          let w = walk_on u v (low t.on q.right.0) (low t.to (λ i. q.none r i (at refl))) in
          let n : Distinct ((t.y ∷ t.ns₂) ++ t.ns₁) = distinct_turn t.ns₁ (t.y ∷ t.ns₂)
          (rw t.nodes at o.nodes_once) in
          omega (
            arith,
            as_many f p t.ends w n,
            ap length t.rows,
            length-append t.rs₁ (r ∷ t.rs₂),
            length-append t.rs₂ t.rs₁,
          )

      pick : Dec (In r o.rs) → length o.rs ≡ g
      pick (yes i) = round (find o.closed i)
      pick (no n) =
          let c = ring_closes u v {k = r}
          (record {
            start = o.start;
            rs = o.rs;
            ns = o.ns;
            closed = low o.closed n;
            rows_once = o.rows_once;
            nodes_once = o.nodes_once;
            two = o.two;
          }) in
          absurd (f c.0 c.1 c.2)
