-- The search for a pair that comes again. Two rows join the same nodes exactly if they have the same cell. In each pass
-- the cells from one place on are noted as seen, and a row with another cell goes by a place that never is: a row whose
-- place was seen already is the first there that repeats a pair. The next pass ends where the last one did, so the row
-- that is left repeats a pair and no row before it does.
use Prim.Native.Nat.{ℕ, ◌+◌, ◌*◌, ◌≤◌, ◌<◌}
use mathlib.Core.Path.{◌≡◌, refl, sym, ◌∙◌}
use mathlib.Core.Logic.{inl, inr, ◌≢◌}
use mathlib.Core.List.{List}
use native.Mathlib.Omega.{arith}
use native.Mathlib.Decide.{ℕ_discrete, dec_le}
use lib.ListN.{length, set, length-set}
use lib.Seq.{get_or-set_same, get_or-set_other}
use Rattle.arrays.specs.At.{at}
use Rattle.arrays.specs.work.Filled.{Filled}
use Rattle.net.specs.Graph.{Ends}
use Rattle.mesh.specs.Mesh.{RepeatsPair}
use Rattle.mesh.specs.work.Rows.{EndsApart}
use Rattle.mesh.specs.work.Bands.{NoRepeat}
use Rattle.mesh.specs.work.Repeat.{Top, Cell, SlotOf, SeenAs, RepeatIn, FirstRepeat}
use Rattle.mesh.proofs.Pigeon.{crowded}
use Rattle.mesh.proofs.Reading.{rows_wide}

-- Cells

pub cell_one : {p q c d : ℕ} → Cell p q c → Cell p q d → c ≡ d
cell_one (inl e) (inl f) = omega (arith, e.1, f.1)
cell_one (inl e) (inr f) = absurd (omega (arith, e.0, f.0))
cell_one (inr e) (inl f) = absurd (omega (arith, e.0, f.0))
cell_one (inr e) (inr f) = omega (arith, e.1, f.1)

cell_of : (p q : ℕ) → (c : ℕ) × Cell p q c
cell_of p q = pick (dec_le (p + 1) q)
  where
    pick : Dec (p + 1 ≤ q) → (c : ℕ) × Cell p q c
    pick (yes l) = (256 * p + q, inl (omega arith, refl))
    pick (no l) = (256 * q + p, inr (omega arith, refl))

cell_low : {p q c n : ℕ} → p < n → q < n → n ≤ 256 → Cell p q c → c < 256 * n
cell_low a b l (inl e) = omega (arith, e.0, e.1)
cell_low a b l (inr e) = omega (arith, e.0, e.1)

module _ {u v : ℕ → ℕ} {k : ℕ} (R : EndsApart u v k 256) where
  -- rows with the same cell join the same nodes
  cell_ends : {i j c : ℕ} → i < k → j < k → Cell (u i) (v i) c → Cell (u j) (v j) c → Ends u v i (u j) (v j)
  cell_ends {i} {j} a b (inl e) (inl f) =
      let q = R.second i a in
      let w = R.second j b in
      let z : u i ≡ u j = omega (arith, e.1, f.1) in
      inl (z, omega (arith, e.1, f.1))
  cell_ends {i} {j} a b (inl e) (inr f) =
      let q = R.second i a in
      let w = R.first j b in
      let z : u i ≡ v j = omega (arith, e.1, f.1) in
      inr (z, omega (arith, e.1, f.1))
  cell_ends {i} {j} a b (inr e) (inl f) =
      let q = R.first i a in
      let w = R.second j b in
      let z : v i ≡ u j = omega (arith, e.1, f.1) in
      inr (omega (arith, e.1, f.1), z)
  cell_ends {i} {j} a b (inr e) (inr f) =
      let q = R.first i a in
      let w = R.first j b in
      let z : v i ≡ v j = omega (arith, e.1, f.1) in
      inl (omega (arith, e.1, f.1), z)

  -- rows that join the same nodes have the same cell
  ends_cell : {i j c : ℕ} → j < k → Ends u v i (u j) (v j) → Cell (u j) (v j) c → Cell (u i) (v i) c
  ends_cell b (inl e) d = rw (e.0, e.1) d
  ends_cell b (inr e) (inl d) = rw (e.0, e.1) (inr (omega (arith, d.0), d.1))
  ends_cell {i} {j} b (inr e) (inr d) = rw (e.0, e.1) (inl (less (ℕ_discrete (u j) (v j)), d.1))
    where
      less : Dec (u j ≡ v j) → v j < u j
      less (yes z) = absurd (R.apart j b z)
      less (no z) = omega (arith, d.0)

-- of the rows below r with cells from `from` on none repeats a pair, and their cells are seen
pub record Passing (u v : ℕ → ℕ) (from limit r : ℕ) (seen : List ℕ) : Type 0 where
  pub rows : EndsApart u v limit 256
  pub within : r ≤ limit
  pub long : length seen ≡ 16385
  pub free : at seen 16384 ≡ 0
  pub none : (i c : ℕ) → i < r → Cell (u i) (v i) c → from ≤ c → c < from + 16384 → ¬ RepeatsPair u v i
  pub came : (j : ℕ) → j < 16384 → at seen j ≢ 0 → (i : ℕ) × (i < r) × Cell (u i) (v i) (from + j)
  pub kept : (i j : ℕ) → i < r → j < 16384 → Cell (u i) (v i) (from + j) → at seen j ≢ 0

module _ {u v : ℕ → ℕ} {from limit : ℕ} where
  pub passing_start : {seen : List ℕ} → EndsApart u v limit 256 → Filled 16385 0 seen
      → Passing u v from limit 0 seen
  passing_start R f =
      record {
        rows = R;
        within = omega arith;
        long = f.long;
        free = f.each 16384 (omega arith);
        none = λ i c h. absurd (omega arith);
        came = λ j b m. absurd (m (f.each j (omega arith)));
        kept = λ i j h. absurd (omega arith);
      }

  module _ {r : ℕ} {seen : List ℕ} (p : Passing u v from limit r seen) (l : r < limit) (c j : ℕ)
      (e : Cell (u r) (v r) c) (o : SlotOf from c j) where
    -- a cell that has its place here is c
    is_c : j < 16384 → from + j ≡ c
    is_c b = pick (dec_le from c) (dec_le (from + 16384) c)
      where
        pick : Dec (from ≤ c) → Dec (from + 16384 ≤ c) → from + j ≡ c
        pick (no a) d = absurd (omega (arith, o.below (omega arith)))
        pick (yes a) (yes d) = absurd (omega (arith, o.past d))
        pick (yes a) (no d) = o.among a (omega arith)

    cell_j : j < 16384 → Cell (u r) (v r) (from + j)
    cell_j b = rw (is_c b) e

    -- and what has its cell here is c
    c_in : {d : ℕ} → Cell (u r) (v r) d → from ≤ d → d < from + 16384 → j < 16384
    c_in {d} f a b = let z : c ≡ d = cell_one e f in omega (arith, o.among (omega arith) (omega arith))

    pub slot_low : j ≤ 16384
    slot_low = pick (dec_le from c) (dec_le (from + 16384) c)
      where
        pick : Dec (from ≤ c) → Dec (from + 16384 ≤ c) → j ≤ 16384
        pick (no a) d = omega (arith, o.below (omega arith))
        pick (yes a) (yes d) = omega (arith, o.past d)
        pick (yes a) (no d) = omega (arith, o.among a (omega arith))

    -- a place that was seen is one of these cells'
    seen_in : at seen j ≢ 0 → j < 16384
    seen_in m = pick (dec_le 16384 j)
      where
        pick : Dec (16384 ≤ j) → j < 16384
        pick (yes q) = let e : j ≡ 16384 = omega (arith, slot_low) in absurd (m (rw e p.free))
        pick (no q) = omega arith

    pub passing_found : at seen j ≢ 0 → RepeatIn u v from limit r
    passing_found m =
        let b = seen_in m in
        let t = p.came j b m in
        record {
          within = p.within;
          before = p.none;
          here = λ h. (t.0, t.1, cell_ends p.rows (omega (arith, t.1)) l t.2 (cell_j b));
        }

    pub passing_next : {w : ℕ} → at seen j ≡ 0 → SeenAs j w → Passing u v from limit (r + 1) (set seen j w)
    passing_next {w} s k =
        record {
          rows = p.rows;
          within = omega arith;
          long = length-set seen j w ∙ p.long;
          free = free (ℕ_discrete j 16384);
          none = λ i d h f a b. none i d h f a b (ℕ_discrete i r);
          came = λ z b q. came z b q (ℕ_discrete z j);
          kept = λ i z h b f. kept i z h b f (ℕ_discrete z j) (ℕ_discrete i r);
        }
      where
        same : at (set seen j w) j ≡ w
        same = get_or-set_same seen j w 0 (omega (arith, slot_low, p.long))

        free : Dec (j ≡ 16384) → at (set seen j w) 16384 ≡ 0
        free (yes e) = rw (← e) (same ∙ k.past (omega arith))
        free (no e) = get_or-set_other seen j 16384 w 0 (λ z. e (sym z)) ∙ p.free

        none : (i d : ℕ) → i < r + 1 → Cell (u i) (v i) d → from ≤ d → d < from + 16384 → Dec (i ≡ r)
            → ¬ RepeatsPair u v i
        none i d h f a b (yes q) t =
            let g : Ends u v t.0 (u r) (v r) = rw q at t.2 in
            let x : j < 16384 = c_in (rw q at f) a b in
            p.kept t.0 j (omega (arith, t.1)) x (ends_cell p.rows l g (cell_j x)) s
        none i d h f a b (no q) t = p.none i d (omega arith) f a b t

        came : (z : ℕ) → z < 16384 → at (set seen j w) z ≢ 0 → Dec (z ≡ j)
            → (i : ℕ) × (i < r + 1) × Cell (u i) (v i) (from + z)
        came z b q (yes f) = (r, omega arith, rw f (cell_j (rw f at b)))
        came z b q (no f) =
            let t = p.came z b (rw (get_or-set_other seen j z w 0 f) at q) in (t.0, omega (arith, t.1), t.2)

        kept : (i z : ℕ) → i < r + 1 → z < 16384 → Cell (u i) (v i) (from + z) → Dec (z ≡ j) → Dec (i ≡ r)
            → at (set seen j w) z ≢ 0
        kept i z h b f (yes q) d t = omega (arith, rw q at t, same, k.among (rw q at b))
        kept i z h b f (no q) (yes d) t =
            let x : j < 16384 = c_in (rw d at f) (omega arith) (omega arith) in
            q (omega (arith, is_c x, cell_one e (rw d at f)))
        kept i z h b f (no q) (no d) t = p.kept i z (omega arith) b f (rw (get_or-set_other seen j z w 0 q) at t)

  pub passing_end : {r : ℕ} {seen : List ℕ} → Passing u v from limit r seen → ¬ (r < limit)
      → RepeatIn u v from limit r
  passing_end p m = record { within = p.within; before = p.none; here = λ h. absurd (m h) }

-- of the rows below top, those below r with cells before `from` repeat no pair
pub record Repeating (u v : ℕ → ℕ) (k : ℕ) (n top from r : ℕ) : Type 0 where
  pub rows : EndsApart u v k n
  pub few : n ≤ 256
  pub size : Top k top
  pub within : r ≤ top
  pub before : (i c : ℕ) → i < r → Cell (u i) (v i) c → c < from → ¬ RepeatsPair u v i
  pub here : r < top → RepeatsPair u v r

pub top_low : {k t : ℕ} → Top k t → t ≤ k
top_low {k} {t} h = pick (dec_le k 65537)
  where
    pick : Dec (k ≤ 65537) → t ≤ k
    pick (yes l) = omega (arith, h.short l)
    pick (no l) = omega (arith, h.long (omega arith))

pub repeating_next : {u v : ℕ → ℕ} {k n t from r s : ℕ} → Repeating u v k n t from r → RepeatIn u v from r s
    → Repeating u v k n t (from + 16384) s
repeating_next {u} {v} {t = t} {from} {r} {s} p q =
    record {
      rows = p.rows;
      few = p.few;
      size = p.size;
      within = omega (arith, p.within, q.within);
      before = λ i c h e b. pick i c h e b (dec_le from c);
      here = λ h. here h (ℕ_discrete s r);
    }
  where
    pick : (i c : ℕ) → i < s → Cell (u i) (v i) c → c < from + 16384 → Dec (from ≤ c) → ¬ RepeatsPair u v i
    pick i c h e b (yes l) = q.before i c h e l b
    pick i c h e b (no l) = p.before i c (omega (arith, q.within)) e (omega arith)

    here : s < t → Dec (s ≡ r) → RepeatsPair u v s
    here h (yes e) = rw e (p.here (rw e at h))
    here h (no m) = q.here (omega (arith, q.within))

pub repeating_end : {u v : ℕ → ℕ} {k n t from r : ℕ} → Repeating u v k n t from r → ¬ (from < 256 * n)
    → (r < k → FirstRepeat u v k r) × (k ≤ r → NoRepeat u v k)
repeating_end {u} {v} {k} {n} {t} {from} {r} p m =
    (λ h. record { within = h; before = before; here = here h (dec_le (r + 1) t) }, λ h i l. before i (omega arith))
  where
    low : t ≤ k
    low = top_low p.size

    before : (i : ℕ) → i < r → ¬ RepeatsPair u v i
    before i h =
        let l : i < k = omega (arith, p.within, low) in
        let c = cell_of (u i) (v i) in
        p.before i c.0 h c.1
        (omega (arith, cell_low (p.rows.first i l) (p.rows.second i l) p.few c.1))

    here : r < k → Dec (r + 1 ≤ t) → RepeatsPair u v r
    here h (yes l) = p.here (omega arith)
    here h (no l) = absurd (pick (dec_le k 65537))
      where
        e : r ≡ t
        e = omega (arith, p.within)

        pick : Dec (k ≤ 65537) → ⊥
        pick (yes q) = omega (arith, e, p.size.short q)
        pick (no q) =
            let w : t ≡ 65537 = p.size.long (omega arith) in
            crowded (rows_wide p.rows p.few) (λ i b. before i (omega (arith, e, w))) (omega arith)
