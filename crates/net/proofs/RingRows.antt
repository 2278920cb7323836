-- Laws of the number that a row has by the ring that it closes. It is one where the rows before it are a forest, since
-- these have one path between its ends; so two promises that name the first such row give related outcomes where what
-- follows does. Where the row's ends differ, the number is that of the rows of a ring.
use Prim.Native.Nat.{ℕ, ◌+◌, ◌≤◌, ◌<◌}
use mathlib.Core.Path.{◌≡◌, refl, sym, ap, ◌∙◌}
use mathlib.Core.Logic.{◌≢◌, ◌↔◌}
use mathlib.Core.List.{List, [], ◌∷◌}
use native.Mathlib.Omega.{arith}
use lib.ListN.{length}
use Rattle.table.specs.Refuse.{FirstBad, Only}
use Rattle.arrays.specs.Members.{In, at, past}
use Rattle.net.specs.Graph.{First, Ends, Walk, stop, go, RingAt, Ring}
use Rattle.net.specs.work.Forest.{Forest}
use Rattle.net.specs.Path.{Path}
use Rattle.net.specs.Ring.{RingRows, apart, closed}
use Rattle.arrays.proofs.Members.{not_nil}
use Rattle.net.proofs.After.{both_after, settled_after}
use Rattle.net.proofs.OnePath.{unique}
use Rattle.net.proofs.Counts.{count_below}
use Rattle.net.proofs.RingExactly.{once, path_ring}
use Rattle.net.proofs.Erase.{simple}

module _ (u v : ℕ → ℕ) where
  -- a row numbered 0 closes no ring
  pub row_open : {r : ℕ} → RingRows u v r 0 → ¬ RingAt u v r
  row_open (apart n e) = n
  row_open (closed rs p e) = absurd (omega arith)

  pub rows_open : {k : ℕ} → ((r : ℕ) → r < k → RingRows u v r 0) → Forest u v k
  rows_open f r h = row_open (f r h)

  pub open_rows : {k : ℕ} → Forest u v k → (r : ℕ) → r < k → RingRows u v r 0
  open_rows f r h = apart (f r h) refl

  -- any other row closes one, with the path between its ends
  pub row_closed : {r g : ℕ} → RingRows u v r g → (g ≡ 0 → ⊥)
      → (rs : List ℕ) × Path u v r (u r) rs (v r) × (g ≡ 1 + length rs)
  row_closed (apart n e) z = absurd (z e)
  row_closed (closed rs p e) z = (rs, p, e)

  -- each row that closes one has a number
  pub row_number : {r : ℕ} → RingAt u v r → (g : ℕ) × RingRows u v r g × (g ≡ 0 → ⊥)
  row_number {r} j =
      let t = simple u v j in
      (1 + length t.0, closed t.0 (t.1, t.2, t.3) refl, λ e. omega (arith, e))

  pub ring_rows_only : {r : ℕ} → Forest u v r → Only (RingRows u v r)
  ring_rows_only f x y (apart n e) (apart m d) = e ∙ sym d
  ring_rows_only f x y (apart n e) (closed rs p d) = absurd (n (rs, p.0, p.1))
  ring_rows_only f x y (closed rs p e) (apart m d) = absurd (m (rs, p.0, p.1))
  ring_rows_only f x y (closed rs p e) (closed qs q d) =
      e ∙ ap (λ (l : List ℕ). 1 + length l) (unique u v f p.1 q.1 p.2 q.2).0 ∙ sym d

  pub rings_both : {A : Type 0} (R : A → A → Type 0) {refuse : ℕ → ℕ → A} → ((k r : ℕ) → R (refuse k r) (refuse k r))
      → {m : ℕ} {rest rest' : A → Type 0} → ((x y : A) → rest x → rest' y → R x y) → (x y : A)
      → FirstBad A refuse m (RingRows u v) rest x → FirstBad A refuse m (RingRows u v) rest' y → R x y
  rings_both R self o = both_after (λ i before. ring_rows_only (rows_open before)) R self o

  pub rings_settled : {A : Type 0} {refuse : ℕ → ℕ → A} {m : ℕ} {rest : A → Type 0} {x : A}
      → Forest u v m → FirstBad A refuse m (RingRows u v) rest x → rest x
  rings_settled f = settled_after (λ i before. ring_rows_only (rows_open before)) (open_rows f)

  -- it is at most one more than r: the rows on the path differ and stand before r
  pub most_rows : {r g : ℕ} → RingRows u v r g → g ≤ r + 1
  most_rows (apart n e) = omega arith
  most_rows {r} (closed rs p e) =
      omega (
        arith,
        count_below {P = λ z. In z rs} r (before p.1)
            (record { list = rs; once = once u v p.1 p.2; only = λ z i. i; all = λ z i. i; long = refl }),
      )
    where
      before : {a b : ℕ} {rs ns : List ℕ} → Walk u v (First r) a rs ns b → (z : ℕ) → In z rs → z < r
      before stop z i = absurd (not_nil i)
      before (go h e w) z (at q) = rw q h
      before (go h e w) z (past i) = before w z i

  -- The ring, where the row's ends differ: closed by row r, the others before it
  module _ {r g : ℕ} (d : u r ≢ v r) (p : RingRows u v r g) (z : g ≡ 0 → ⊥) where
    pub ring_of : (o : Ring u v (r + 1)) × In r o.rs × (length o.rs ≡ g)
    ring_of =
        let t = row_closed p z in
        let o = path_ring u v d t.1.1 t.1.2 in
        (o.0, rw o.1 (at refl), rw o.1 (omega (arith, t.2)))

    pub two_rows : 2 ≤ g
    two_rows = let t = ring_of in omega (arith, t.0.two, t.2)

    -- 2 exactly if an earlier row has the same ends
    pub repeated : Forest u v r → (g ≡ 2) ↔ ((q : ℕ) × (q < r) × Ends u v q (u r) (v r))
    repeated f = (λ e. one (row_closed p z) e, λ q. back q)
      where
        single : {a b : ℕ} {rs ns : List ℕ} → Walk u v (First r) a rs ns b → length rs ≡ 1
            → (q : ℕ) × (q < r) × Ends u v q a b
        single stop e = absurd (omega arith)
        single (go {r = q} h e stop) l = (q, h, e)
        single (go h e (go k f w)) l = absurd (omega arith)

        one : (rs : List ℕ) × Path u v r (u r) rs (v r) × (g ≡ 1 + length rs) → g ≡ 2
            → (q : ℕ) × (q < r) × Ends u v q (u r) (v r)
        one t e = single t.1.1 (omega (arith, t.2))

        back : (q : ℕ) × (q < r) × Ends u v q (u r) (v r) → g ≡ 2
        back q =
            ring_rows_only f g 2 p (closed (q.0 ∷ []) (v r ∷ [], go q.1 q.2 stop, (lone, (not_nil, tt))) refl)
          where
            lone : ¬ In (u r) (v r ∷ [])
            lone (at e) = d e
            lone (past i) = not_nil i
