-- A ring is in the first k rows exactly if one of them has ends that earlier rows join. From a ring: drop its first
-- row, and the bridge. To a ring: a simple path between the ends, and the row.
use Prim.Native.Nat.{ℕ, ◌+◌, ◌≤◌, ◌<◌}
use mathlib.Core.Path.{◌≡◌, refl, sym}
use mathlib.Core.Logic.{inr, ◌≢◌}
use mathlib.Core.List.{List, ◌∷◌}
use native.Mathlib.Omega.{arith}
use native.Mathlib.Nat.{not-suc-le-zero}
use lib.ListN.{length}
use Rattle.arrays.specs.Members.{In, at, past, Distinct}
use Rattle.net.specs.Graph.{First, Walk, stop, go, Ring}
use Rattle.net.specs.work.Forest.{Forest}
use Rattle.arrays.proofs.Members.{not_nil}
use Rattle.net.proofs.Rows.{But, Closes, ends_left}
use Rattle.net.proofs.Joined.{walk_mono}
use Rattle.net.proofs.Bridge.{detour}
use Rattle.net.proofs.OnePath.{avoid}
use Rattle.net.proofs.Erase.{simple}

module _ (u v : ℕ → ℕ) where
  pub fresh : {P : ℕ → Type 0} {r a b : ℕ} {rs ns : List ℕ} → Walk u v P a rs ns b → ¬ In r rs
      → Walk u v (But P r) a rs ns b
  fresh stop n = stop
  fresh (go h e w) n = go (h, λ q. n (at (sym q))) e (fresh w (λ m. n (past m)))

  unused : {P : ℕ → Type 0} {r a b : ℕ} {rs ns : List ℕ} → ((s : ℕ) → P s → s ≢ r) → Walk u v P a rs ns b → ¬ In r rs
  unused n stop m = not_nil m
  unused n (go h e w) (at q) = n _ h (sym q)
  unused n (go h e w) (past m) = unused n w m

  -- a simple path uses no row twice
  pub once : {P : ℕ → Type 0} {a b : ℕ} {rs ns : List ℕ} → Walk u v P a rs ns b → Distinct (a ∷ ns) → Distinct rs
  once stop d = tt
  once (go h e w) d = (unused (λ s h'. h'.1) (avoid u v (ends_left u v e) d.0 w), once w d.1)

  long : {P : ℕ → Type 0} {a b : ℕ} {rs ns : List ℕ} → Walk u v P a rs ns b → a ≢ b → 1 ≤ length rs
  long stop n = absurd (n refl)
  long (go h e w) n = omega arith

  -- the ends are named apart, and equal
  around : {k a b : ℕ} {rs ns : List ℕ} → Walk u v (First k) a rs ns b → a ≡ b → Distinct rs → 2 ≤ length rs
      → Closes u v k
  around stop q d t = absurd (not-suc-le-zero t)
  around (go h e w) q d t = detour u v h e (_, _, rw (sym q) at (fresh w d.0))

  pub ring_closes : {k : ℕ} → Ring u v k → Closes u v k
  ring_closes o = around o.closed refl o.rows_once o.two

  -- a simple path between the ends of row r along the rows before it, and the row
  pub path_ring : {r : ℕ} {rs ns : List ℕ} → u r ≢ v r → Walk u v (First r) (u r) rs ns (v r) → Distinct (u r ∷ ns)
      → (o : Ring u v (r + 1)) × (o.rs ≡ r ∷ rs)
  path_ring {r} {rs} {ns} n w d = (around_row, refl)
    where
      around_row : Ring u v (r + 1)
      around_row = record {
        start = v r;
        rs = r ∷ rs;
        ns = u r ∷ ns;
        closed = go {r = r} (omega arith) (inr (refl, refl)) (walk_mono u v (λ s h. omega arith) w);
        rows_once = (unused (λ s h. omega arith) w, once w d);
        nodes_once = d;
        two = omega (arith, long w n);
      }

  pub ring_more : {k m : ℕ} → k ≤ m → Ring u v k → Ring u v m
  ring_more l o =
      record {
        start = o.start;
        rs = o.rs;
        ns = o.ns;
        closed = walk_mono u v (λ s h. omega arith) o.closed;
        rows_once = o.rows_once;
        nodes_once = o.nodes_once;
        two = o.two;
      }

  pub closes_ring : {k : ℕ} → ((r : ℕ) → r < k → u r ≢ v r) → Closes u v k → Ring u v k
  closes_ring n c =
      let t = simple u v c.2 in
      ring_more (omega (arith, c.1)) (path_ring (n c.0 c.1) t.2 t.3).0

  pub forest_iff : {k : ℕ} → ((r : ℕ) → r < k → u r ≢ v r)
      → (Forest u v k → ¬ Ring u v k) × (¬ Ring u v k → Forest u v k)
  forest_iff {k} n = (
    λ f o. let c : Closes u v k = ring_closes o in f c.0 c.1 c.2,
    λ o r h w. o (closes_ring n (r, h, w)),
  )
