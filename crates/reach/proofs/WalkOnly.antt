-- The walk's promise allows one outcome, where the rows are a forest: parents and half-branches are the tree's own, and
-- the order is fixed since parents' places never fall along it and under one parent the half-branches fall.
use Prim.Native.Nat.{ℕ, zero, suc, ◌/◌, ◌≤◌, ◌<◌}
use mathlib.Core.Path.{◌≡◌, refl, sym, ap, ◌∙◌}
use mathlib.Core.Logic.{◌⊎◌, inl, inr, ◌≢◌}
use mathlib.Core.List.{List}
use native.Mathlib.Omega.{arith}
use native.Mathlib.Decide.{ℕ_discrete, dec_lt}
use lib.Seq.{ext_get_or}
use Rattle.arrays.specs.At.{at}
use Rattle.net.specs.Graph.{First, Ends, Joined}
use Rattle.net.specs.work.Forest.{Forest}
use Rattle.reach.specs.work.Walked.{Reached, High, Walked}
use Rattle.net.proofs.Rows.{But, End, Closes, ends_flip, ends_one, other}
use Rattle.net.proofs.Joined.{joined_refl, joined_step, joined_trans, joined_sym}
use Rattle.net.proofs.Bridge.{detour}
use Rattle.net.proofs.Labels.{joined?}
use Rattle.reach.proofs.Chained.{half_ends, swap_half}
use Rattle.reach.proofs.Placing.{walked_once}

module _ (us vs : ℕ → ℕ) (rows : ℕ) where
  module _ {m : ℕ} {parent half order place : List ℕ} (w : Walked us vs rows m parent half order place) where
    -- the row by which the node at place i was reached joins it and its parent
    pub row_ends : (i : ℕ) → 0 < i → i < m → Ends us vs (at half (at order i) / 2) (at parent (at order i)) (at order i)
    row_ends i z b = let c = w.child i z b in rw (c.leaves, c.leads) at (half_ends us vs (at half (at order i)))

    row_fits : (i : ℕ) → 0 < i → i < m → at half (at order i) / 2 < rows
    row_fits i z b = omega (arith, (w.child i z b).fits)

    -- the way from 0 to place i uses no row of a node that is not at a place up to i
    climb_avoid : (r v : ℕ) → End us vs r v → (k i : ℕ) → i < k → i < m → ((j : ℕ) → j ≤ i → at order j ≢ v)
        → Joined us vs (But (First rows) r) 0 (at order i)
    climb_avoid r v x zero i l b n = absurd (omega arith)
    climb_avoid r v x (suc k) i l b n = pick (ℕ_discrete i 0) (climb_avoid r v x k)
      where
        pick : Dec (i ≡ 0)
            → ((i : ℕ) → i < k → i < m → ((j : ℕ) → j ≤ i → at order j ≢ v)
            → Joined us vs (But (First rows) r) 0 (at order i))
            → Joined us vs (But (First rows) r) 0 (at order i)
        pick (yes e) ih = rw (e, w.root) (joined_refl _ _ 0)
        pick (no d) ih =
            let z : 0 < i = omega arith in
            let t = w.above i z b in
            let other_row : at half (at order i) / 2 ≢ r = λ q. miss (High parent order place i) t.0 t.1
            (ends_one us vs (row_ends i z b) (rw q x)) in
            joined_trans _ _
            (rw t.1
            at (ih (High parent order place i) (omega (arith, t.0)) (omega (arith, t.0))
            (λ j h. n j (omega (arith, t.0)))))
            (joined_step _ _ (row_fits i z b, other_row) (row_ends i z b) (joined_refl _ _ _))
          where
            miss : (j : ℕ) → j < i → at order j ≡ at parent (at order i)
                → (at parent (at order i) ≡ v) ⊎ (at order i ≡ v) → ⊥
            miss j h q (inl f) = n j (omega arith) (q ∙ f)
            miss j h q (inr f) = n i (omega arith) f

    -- no earlier place holds what place i holds
    earlier : (i j : ℕ) → i < m → j < i → at order j ≢ at order i
    earlier i j b h = (walked_once w).apart j i h b

  module _ (F : Forest us vs rows) {m m' : ℕ} {parent half order place parent' half' order' place' : List ℕ}
      (w : Walked us vs rows m parent half order place) (w' : Walked us vs rows m' parent' half' order' place') where
    module _ (v i i' : ℕ) (z : 0 < i) (b : i < m) (e : at order i ≡ v) (z' : 0 < i') (b' : i' < m')
        (e' : at order' i' ≡ v) where
      same_row : at half v / 2 ≡ at half' v / 2
      same_row = pick (ℕ_discrete (at half v / 2) (at half' v / 2))
        where
          r : Ends us vs (at half v / 2) (at parent v) v
          r = rw e at (row_ends w i z b)

          r' : Ends us vs (at half' v / 2) (at parent' v) v
          r' = rw e' at (row_ends w' i' z' b')

          end : End us vs (at half v / 2) v
          end = one r
            where
              one : Ends us vs (at half v / 2) (at parent v) v → End us vs (at half v / 2) v
              one (inl q) = inr q.1
              one (inr q) = inl q.0

          B : ℕ → ℕ → Type 0
          B = Joined us vs (But (First rows) (at half v / 2))

          up : B 0 (at parent v)
          up =
              let t = w.above i z b in
              rw (t.1 ∙ ap (at parent) e)
              at (climb_avoid w (at half v / 2) v end (suc (High parent order place i)) (High parent order place i)
              (omega arith) (omega (arith, t.0)) (λ j h q. earlier w i j b (omega (arith, t.0)) (q ∙ sym e)))

          up' : B 0 (at parent' v)
          up' =
              let t = w'.above i' z' b' in
              rw (t.1 ∙ ap (at parent') e')
              at (climb_avoid w' (at half v / 2) v end (suc (High parent' order' place' i'))
              (High parent' order' place' i') (omega arith) (omega (arith, t.0))
              (λ j h q. earlier w' i' j b' (omega (arith, t.0)) (q ∙ sym e')))

          fits : at half v / 2 < rows
          fits = rw e at (row_fits w i z b)

          fits' : at half' v / 2 < rows
          fits' = rw e' at (row_fits w' i' z' b')

          pick : Dec (at half v / 2 ≡ at half' v / 2) → at half v / 2 ≡ at half' v / 2
          pick (yes q) = q
          pick (no n) =
              let o : Closes us vs rows = detour us vs fits r
              (joined_step us vs (fits', λ q. n (sym q)) (ends_flip us vs r')
              (joined_trans us vs (joined_sym us vs up') up)) in
              absurd (F o.0 o.1 o.2)

      pub same_parent : at parent v ≡ at parent' v
      same_parent =
          let r : Ends us vs (at half v / 2) (at parent v) v = rw e at (row_ends w i z b) in
          let r' : Ends us vs (at half' v / 2) (at parent' v) v = rw e' at (row_ends w' i' z' b') in
          other us vs (ends_flip us vs r) (ends_flip us vs (rw (sym same_row) at r'))

      pub same_half : at half v ≡ at half' v
      same_half = pick (ℕ_discrete (at half v) (at half' v))
        where
          c : Reached us vs rows parent half v
          c = rw e at (w.child i z b)

          c' : Reached us vs rows parent' half' v
          c' = rw e' at (w'.child i' z' b')

          pick : Dec (at half v ≡ at half' v) → at half v ≡ at half' v
          pick (yes q) = q
          pick (no n) =
              let t = w'.above i' z' b' in
              absurd
              (earlier w' i' (High parent' order' place' i') b' t.0
              (t.1 ∙ ap (at parent') e' ∙ sym c'.leaves ∙ swap_half us vs (at half v) (at half' v) same_row n
              ∙ c.leads ∙ sym e'))

    -- the orders agree at i if they agree below it
    same_at : (i : ℕ) → i < m → i < m' → ((j : ℕ) → j < i → at order j ≡ at order' j) → at order i ≡ at order' i
    same_at i b b' ih = pick (ℕ_discrete i 0) (ℕ_discrete (at order i) (at order' i))
      where
        clash : 0 < i → at order i ≢ at order' i → ⊥
        clash z n =
            let s = w'.listed (at order i) (w.within i b) (w.joined i b) in
            let t = w.listed (at order' i) (w'.within i b') (w'.joined i b') in
            let ls : i < at place' (at order i) = later' (at place' (at order i)) s.0 s.1 in
            let lt : i < at place (at order' i) = later (at place (at order' i)) t.0 t.1 in
            let x = w.above i z b in
            let y = w'.above i z b' in
            let pa = same_parent (at order i) i (at place' (at order i)) z b refl (omega arith) s.0 s.1 in
            let pb = same_parent (at order' i) (at place (at order' i)) i (omega arith) t.0 t.1 z b' refl in
            let ha = same_half (at order i) i (at place' (at order i)) z b refl (omega arith) s.0 s.1 in
            let hb = same_half (at order' i) (at place (at order' i)) i (omega arith) t.0 t.1 z b' refl in
            let f = w.falls i (at place (at order' i)) z lt t.0 in
            let g = w'.falls i (at place' (at order i)) z ls s.0 in
            -- the two parents are at the same places in both orders
            let ja : High parent' order' place' (at place' (at order i)) ≡ High parent order place i = ap
            (λ v. at place' (at parent' v)) s.1 ∙ ap (at place') (sym pa ∙ sym x.1 ∙ ih _ x.0) ∙ w'.back _
            (omega (arith, x.0)) in
            let jb : High parent order place (at place (at order' i)) ≡ High parent' order' place' i = ap
            (λ v. at place (at parent v)) t.1 ∙ ap (at place) (pb ∙ sym y.1 ∙ sym (ih _ y.0)) ∙ w.back _
            (omega (arith, y.0)) in
            let q : High parent order place i ≡ High parent' order' place' i = omega (arith, f.0, g.0, ja, jb) in
            omega (arith, f.1 (q ∙ sym jb), g.1 (sym q ∙ sym ja), ha, hb, ap (at half) t.1, ap (at half') s.1)
          where
            later : (t : ℕ) → t < m → at order t ≡ at order' i → i < t
            later t l q = order_of (ℕ_discrete t i) (dec_lt t i)
              where
                order_of : Dec (t ≡ i) → Dec (t < i) → i < t
                order_of (yes f) d = absurd (n (rw f at q))
                order_of (no f) (yes d) = absurd (earlier w' i t b' d (sym (ih t d) ∙ q))
                order_of (no f) (no d) = omega arith

            later' : (t : ℕ) → t < m' → at order' t ≡ at order i → i < t
            later' t l q = order_of (ℕ_discrete t i) (dec_lt t i)
              where
                order_of : Dec (t ≡ i) → Dec (t < i) → i < t
                order_of (yes f) d = absurd (n (sym (rw f at q)))
                order_of (no f) (yes d) = absurd (earlier w i t b d (ih t d ∙ q))
                order_of (no f) (no d) = omega arith

        pick : Dec (i ≡ 0) → Dec (at order i ≡ at order' i) → at order i ≡ at order' i
        pick (yes e) d = rw e (w.root ∙ sym w'.root)
        pick (no e) (yes d) = d
        pick (no e) (no d) = absurd (clash (omega arith) d)

    same_below : (k i : ℕ) → i < k → i < m → i < m' → at order i ≡ at order' i
    same_below zero i l b b' = absurd (omega arith)
    same_below (suc k) i l b b' = go_on (same_below k)
      where
        go_on : ((j : ℕ) → j < k → j < m → j < m' → at order j ≡ at order' j) → at order i ≡ at order' i
        go_on ih = same_at i b b' (λ j h. ih j (omega arith) (omega arith) (omega arith))

    no_less : m ≤ m' → m' ≤ m
    no_less h = pick (dec_lt m m')
      where
        pick : Dec (m < m') → m' ≤ m
        pick (no n) = omega arith
        pick (yes l) =
            let t = w.listed (at order' m) (w'.within m l) (w'.joined m l) in
            absurd
            (earlier w' m (at place (at order' m)) l t.0
            (sym
            (same_below (suc (at place (at order' m))) (at place (at order' m)) (omega arith) t.0
            (omega (arith, t.0)))
            ∙ t.1))

-- The theorem
module _ (us vs : ℕ → ℕ) (rows : ℕ) (F : Forest us vs rows) {m m' : ℕ}
    {parent half order place parent' half' order' place' : List ℕ} (w : Walked us vs rows m parent half order place)
    (w' : Walked us vs rows m' parent' half' order' place') where
  count_only : m ≡ m'
  count_only = pick (dec_lt m m')
    where
      pick : Dec (m < m') → m ≡ m'
      pick (yes l) = omega (arith, no_less us vs rows F w w' (omega arith))
      pick (no n) = omega (arith, no_less us vs rows F w' w (omega arith))

  at_only : (i : ℕ) → i < m → at order i ≡ at order' i
  at_only i b = same_below us vs rows F w w' (suc i) i (omega arith) b (omega (arith, count_only))

  node_only : (v : ℕ) → v < 4096 → (at parent v ≡ at parent' v) × (at half v ≡ at half' v) × (at place v ≡ at place' v)
  node_only v l = pick (joined? us vs rows 0 v)
    where
      pick : Dec (Joined us vs (First rows) 0 v)
          → (at parent v ≡ at parent' v) × (at half v ≡ at half' v) × (at place v ≡ at place' v)
      pick (no n) =
          let s = w.others v l n in
          let t = w'.others v l n in
          (s.0 ∙ sym t.0, s.1 ∙ sym t.1, s.2 ∙ sym t.2)
      pick (yes j) = root (ℕ_discrete v 0) (ℕ_discrete (at place v) 0)
        where
          s : (at place v < m) × (at order (at place v) ≡ v)
          s = w.listed v l j

          t : (at place' v < m') × (at order' (at place' v) ≡ v)
          t = w'.listed v l j

          here : at place v ≡ at place' v
          here =
              sym
              (ap (at place') (sym s.1 ∙ at_only (at place v) s.0)
              ∙ w'.back (at place v) (omega (arith, s.0, count_only)))

          root : Dec (v ≡ 0) → Dec (at place v ≡ 0)
              → (at parent v ≡ at parent' v) × (at half v ≡ at half' v) × (at place v ≡ at place' v)
          root (yes e) d = (rw e (w.top.0 ∙ sym w'.top.0), rw e (w.top.1 ∙ sym w'.top.1), here)
          root (no n) (yes d) = absurd (n (sym s.1 ∙ rw d w.root))
          root (no n) (no d) =
              let z : 0 < at place v = omega arith in
              let z' : 0 < at place' v = omega (arith, here) in (
                same_parent us vs rows F w w' v (at place v) (at place' v) z s.0 s.1 z' t.0 t.1,
                same_half us vs rows F w w' v (at place v) (at place' v) z s.0 s.1 z' t.0 t.1,
                here,
              )

  place_only : (i : ℕ) → i < 4096 → at order i ≡ at order' i
  place_only i b = pick (dec_lt i m)
    where
      pick : Dec (i < m) → at order i ≡ at order' i
      pick (yes l) = at_only i l
      pick (no n) = w.rest i (omega arith) b ∙ sym (w'.rest i (omega (arith, count_only)) b)

  pub walked_only : (m ≡ m') × (parent ≡ parent') × (half ≡ half') × (order ≡ order') × (place ≡ place')
  walked_only = (
    count_only,
    ext_get_or 0 parent parent' (w.long.0 ∙ sym w'.long.0) (λ i b. (node_only i (omega (arith, w.long.0))).0),
    ext_get_or 0 half half' (w.long.1 ∙ sym w'.long.1) (λ i b. (node_only i (omega (arith, w.long.1))).1),
    ext_get_or 0 order order' (w.long.2 ∙ sym w'.long.2) (λ i b. place_only i (omega (arith, w.long.2))),
    ext_get_or 0 place place' (w.long.3 ∙ sym w'.long.3) (λ i b. (node_only i (omega (arith, w.long.3))).2),
  )
