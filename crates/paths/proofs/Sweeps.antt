-- The sweep over the order: each node's value from its parent's, a branch nearer where the node is marked, a branch
-- further otherwise.
use Prim.Native.Nat.{ℕ, ◌+◌, ◌≤◌, ◌<◌}
use mathlib.Core.Path.{◌≡◌, sym, ap, ◌∙◌}
use mathlib.Core.Logic.{◌≢◌}
use mathlib.Core.List.{List}
use native.Mathlib.Omega.{arith}
use native.Mathlib.Decide.{ℕ_discrete}
use lib.ListN.{length, set, length-set}
use lib.Seq.{get_or-set_same, get_or-set_other}
use Rattle.arrays.specs.At.{at}
use Rattle.table.proofs.Lift.{diff_only}
use Rattle.reach.proofs.Grown.{not_root, par_fits, par_earlier, read_node, read_parent}
use Rattle.paths.specs.work.Ground.{Ground}
use Rattle.paths.specs.work.Paths.{Paths}
use Rattle.paths.specs.work.Sweeps.{Far, Swept, Sweepable, Sweeping, Steps, StepMade}
use Rattle.paths.proofs.Branch.{far_weaken, far_down, far_nearer, nearer_fits}

module _ {n : ℕ} {parent order place bl bw : List ℕ} (g : Ground n parent order place bl bw) {a : ℕ} where
  swept_one : (len wt : List ℕ) (l w : ℕ) → length len ≡ 4096 → length wt ≡ 4096 → Far g a 0 l w 4096
      → Swept g a 1 (set len 0 l) (set wt 0 w)
  swept_one len wt l w p q h = record { done = λ j b. first j b }
    where
      first : (j : ℕ) → j < 1
          → Far g a (at order j) (at (set len 0 l) (at order j)) (at (set wt 0 w) (at order j)) (4096 + j)
      first j b =
          let z : j ≡ 0 = omega arith in
          rw (z, g.grown.root, get_or-set_same len 0 l 0 (omega arith), get_or-set_same wt 0 w 0 (omega arith)) h

  module _ {i : ℕ} {len wt : List ℕ} (b : i < n) (s : Swept g a i len wt) where
    -- a node's value is stored, and no earlier one changes
    swept_more : (l w : ℕ) → length len ≡ 4096 → length wt ≡ 4096 → Far g a (at order i) l w (4096 + i)
        → Swept g a (i + 1) (set len (at order i) l) (set wt (at order i) w)
    swept_more l w p q h = record { done = λ j c. pick j c (ℕ_discrete j i) }
      where
        pick : (j : ℕ) → j < i + 1 → Dec (j ≡ i)
            → Far g a (at order j) (at (set len (at order i) l) (at order j)) (at (set wt (at order i) w) (at order j))
            (4096 + j)
        pick j c (yes e) =
            rw (
              e,
              get_or-set_same len (at order i) l 0 (omega (arith, g.grown.within i b, g.grown.some.1)),
              get_or-set_same wt (at order i) w 0 (omega (arith, g.grown.within i b, g.grown.some.1)),
            ) h
        pick j c (no m) =
            let d : at order j ≢ at order i = λ e. m
            (sym (g.grown.back j (omega arith)) ∙ ap (at place) e ∙ g.grown.back i b) in
            rw (
              get_or-set_other len (at order i) (at order j) l 0 d,
              get_or-set_other wt (at order i) (at order j) w 0
                  d,
            )
            (s.done j (omega arith))

    -- the parent of the node at place i is done
    parent_far : 0 < i
        → Far g a (at parent (at order i)) (at len (at parent (at order i))) (at wt (at parent (at order i))) (4095 + i)
    parent_far z =
        let p = at parent (at order i) in
        let j : at place p < i = par_earlier g.grown i z b in
        far_weaken g a (4095 + i) (omega arith)
        (rw (g.grown.here p (par_fits g.grown i z b)).1 at (s.done (at place p) j))

  swept_paths : {len wt : List ℕ} → Swept g a n len wt → Paths g a len wt
  swept_paths {len} {wt} s = record {
    value = λ x b w d. rw (diff_only d (at_node x b).lift) (at_node x b).value;
    small = λ x b. omega (arith, (at_node x b).high, (g.grown.here x b).0, g.grown.some.1);
  }
    where
      at_node : (x : ℕ) → x < n → Far g a x (at len x) (at wt x) (4096 + at place x)
      at_node x b = rw (g.grown.here x b).1 at (s.done (at place x) (g.grown.here x b).0)

module _ {n a l w : ℕ} {parent order bl bw above : List ℕ} where
  pub sweeping_one : (len wt : List ℕ) → length len ≡ 4096 → length wt ≡ 4096
      → Sweeping n a l w parent order bl bw above 1 (set len 0 l) (set wt 0 w)
  sweeping_one len wt p q =
      record {
        swept = λ k. swept_one k.ground len wt l w p q k.marked.far;
        len_long = length-set len 0 l ∙ p;
        wt_long = length-set wt 0 w ∙ q;
      }

  -- what the code reads at place i
  module _ {i : ℕ} (k : Sweepable n a l w parent order bl bw above) (z : 0 < i) (b : i < n) (x p : ℕ)
      (ex : x ≡ at order i) (ep : p ≡ at parent x) where
    pub sweep_node : x < 4096
    sweep_node = read_node k.ground.grown i x b ex

    pub sweep_parent : p < 4096
    sweep_parent = read_parent k.ground.grown i x p z b ex ep

  module _ {i : ℕ} {len wt : List ℕ} (s : Sweeping n a l w parent order bl bw above i len wt) (z : 0 < i) (b : i < n)
      (x p f y : ℕ) (ex : x ≡ at order i) (ep : p ≡ at parent x) (ef : f ≡ at bl x) (ey : y ≡ at bw x) where
    module _ (k : Sweepable n a l w parent order bl bw above) where
      node_in : x < n
      node_in = rw ex (k.ground.grown.within i b)

      not_top : x ≢ 0
      not_top = rw ex (not_root k.ground.grown i z b)

      above_far : Far k.ground a (at parent x) (at len p) (at wt p) (4095 + i)
      above_far = rw (ep, ex) (parent_far k.ground b (s.swept k) z)

      pub steps : Steps (at above x) (at len p) (at wt p) f y
      steps =
          let h = above_far in
          let q = k.ground.grown.some.1 in
          record {
            nearer = λ e. rw ef
                (nearer_fits k.ground a x node_in not_top k.node (k.marked.is x node_in not_top e) h);
            l_small = omega (arith, h.short);
            w_small = omega (arith, h.high);
            w_big = omega (arith, h.low);
            f_small = rw ef (k.ground.short x node_in not_top);
            y_small = rw ey (k.ground.light x node_in not_top);
          }

      step_far : (l₁ w₁ : ℕ) → StepMade (at above x) (at len p) (at wt p) f y l₁ w₁
          → Far k.ground a x l₁ w₁ (4095 + i + 1)
      step_far l₁ w₁ t = pick (ℕ_discrete (at above x) 1)
        where
          pick : Dec (at above x ≡ 1) → Far k.ground a x l₁ w₁ (4095 + i + 1)
          pick (yes h) =
              far_nearer k.ground a x node_in not_top f y ef ey l₁ w₁ k.node (k.marked.is x node_in not_top h)
              above_far (t.near_l h) (t.near_w h)
          pick (no h) =
              far_down k.ground a x node_in not_top f y ef ey l₁ w₁ (k.marked.not x node_in not_top h) above_far
              (t.far_l h) (t.far_w h)

    pub sweeping_step : (l₁ w₁ : ℕ) → StepMade (at above x) (at len p) (at wt p) f y l₁ w₁
        → Sweeping n a l w parent order bl bw above (i + 1) (set len x l₁) (set wt x w₁)
    sweeping_step l₁ w₁ t =
        record {
          swept = λ k. rw ex
              (swept_more k.ground b (s.swept k) l₁ w₁ s.len_long s.wt_long
              (rw (← ex) (far_weaken k.ground a (4096 + i) (omega arith) (step_far k l₁ w₁ t))));
          len_long = length-set len x l₁ ∙ s.len_long;
          wt_long = length-set wt x w₁ ∙ s.wt_long;
        }

  pub sweeping_end : {i : ℕ} {len wt : List ℕ} → n ≤ i → Sweeping n a l w parent order bl bw above i len wt
      → Sweeping n a l w parent order bl bw above n len wt
  sweeping_end b s =
      record {
        swept = λ k. record { done = λ j h. (s.swept k).done j (omega arith) };
        len_long = s.len_long;
        wt_long = s.wt_long;
      }

  pub sweeping_paths : {len wt : List ℕ} → Sweeping n a l w parent order bl bw above n len wt
      → (k : Sweepable n a l w parent order bl bw above) → Paths k.ground a len wt
  sweeping_paths s k = swept_paths k.ground (s.swept k)
