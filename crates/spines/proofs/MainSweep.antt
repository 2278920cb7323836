-- The child with most leaves of each node, by one sweep over the node numbers: a strict test keeps the lowest among
-- equals.
use Prim.Native.Nat.{ℕ, ◌+◌, ◌≤◌, ◌<◌}
use mathlib.Core.Path.{◌≡◌, sym, ap, ◌∙◌}
use mathlib.Core.Logic.{◌≢◌}
use mathlib.Core.List.{List}
use native.Mathlib.Omega.{arith}
use native.Mathlib.Decide.{ℕ_discrete, dec_le}
use lib.ListN.{length, set, length-set}
use lib.Seq.{get_or-set_same, get_or-set_other}
use Rattle.arrays.specs.At.{at}
use Rattle.arrays.specs.work.Filled.{Filled}
use Rattle.reach.specs.work.Grown.{Ordered}
use Rattle.net.proofs.Counts.{count_unique}
use Rattle.spines.specs.Spine.{Main}
use Rattle.spines.specs.work.Parents.{Child}
use Rattle.spines.specs.work.Sweeps.{LeavesAll, Parented, MainsAll, MainTaken}

-- q is the best of p's children below c, or 4096 where there is none
pub record BestChild (n : ℕ) (par leaves : ℕ → ℕ) (c p q : ℕ) : Type 0 where
  pub none : q ≡ 4096 → (d : ℕ) → d < c → ¬ Child n par p d
  pub below : q ≢ 4096 → q < c
  pub child : q ≢ 4096 → Child n par p q
  pub most : q ≢ 4096 → (d : ℕ) → d < c → Child n par p d → (leaves d ≤ leaves q) × (leaves d ≡ leaves q → q ≤ d)

pub record BestChildren (n : ℕ) (parent leaves : List ℕ) (c : ℕ) (main : List ℕ) : Type 0 where
  pub long : length main ≡ 4096
  pub each : (p : ℕ) → p < n → BestChild n (at parent) (at leaves) c p (at main p)

pub bests_none : (n : ℕ) (parent lv main : List ℕ) → n ≤ 4096 → Filled 4096 4096 main → BestChildren n parent lv 1 main
bests_none n parent lv main b f = record {
  long = f.long;
  each = λ p l. let e = f.each p (omega arith) in record {
    none = λ q d h k. k.low (omega arith);
    below = λ m. absurd (m e);
    child = λ m. absurd (m e);
    most = λ m. absurd (m e);
  };
}

pub bests_more : (n : ℕ) (parent lv main : List ℕ) (c p r : ℕ) → n ≤ 4096 → c < n → c ≢ 0 → at parent c < n
    → p ≡ at parent c → BestChildren n parent lv c main → MainTaken lv (at main p) c r
    → BestChildren n parent lv (c + 1) (set main p r)
bests_more n parent lv main c p r small bc z fits ep s t =
    record { long = simp length-set s.long; each = λ q l. pick q l (ℕ_discrete q p) }
  where
    bp : p < n
    bp = rw ep fits

    kid : Child n (at parent) p c
    kid = record { fits = bc; low = z; of = sym ep }

    old : BestChild n (at parent) (at lv) c p (at main p)
    old = s.each p bp

    -- another node has no child more
    other : (q : ℕ) → q ≢ p → (d : ℕ) → d < c + 1 → Child n (at parent) q d → d < c
    other q m d h k = which (ℕ_discrete d c)
      where
        which : Dec (d ≡ c) → d < c
        which (yes e) = absurd (m (sym k.of ∙ ap (at parent) e ∙ sym ep))
        which (no e) = omega arith

    here : Dec (at main p ≡ 4096) → Dec (at lv c ≤ at lv (at main p)) → BestChild n (at parent) (at lv) (c + 1) p r
    here (yes e) d = rw (t.first e) (record {
      none = λ q. absurd (omega arith);
      below = λ m. omega arith;
      child = λ m. kid;
      most = λ m d h k. only d h k (ℕ_discrete d c);
    })
      where
        only : (d : ℕ) → d < c + 1 → Child n (at parent) p d → Dec (d ≡ c)
            → (at lv d ≤ at lv c) × (at lv d ≡ at lv c → c ≤ d)
        only d h k (yes f) = (omega (arith, ap (at lv) f), λ q. omega arith)
        only d h k (no f) = absurd (old.none e d (omega arith) k)
    here (no e) (no worse) = rw (t.more e (omega arith)) (record {
      none = λ q. absurd (omega arith);
      below = λ m. omega arith;
      child = λ m. kid;
      most = λ m f h k. beat f h k (ℕ_discrete f c);
    })
      where
        beat : (d : ℕ) → d < c + 1 → Child n (at parent) p d → Dec (d ≡ c)
            → (at lv d ≤ at lv c) × (at lv d ≡ at lv c → c ≤ d)
        beat d h k (yes f) = (omega (arith, ap (at lv) f), λ q. omega arith)
        beat d h k (no f) =
            let o = old.most e d (omega arith) k in
            (omega (arith, o.0), λ q. absurd (omega (arith, o.0)))
    here (no e) (yes d) = rw (t.less e d) (record {
      none = λ q. absurd (e q);
      below = λ m. omega (arith, old.below e);
      child = old.child;
      most = λ m f h k. stay f h k (ℕ_discrete f c);
    })
      where
        stay : (f : ℕ) → f < c + 1 → Child n (at parent) p f → Dec (f ≡ c)
            → (at lv f ≤ at lv (at main p)) × (at lv f ≡ at lv (at main p) → at main p ≤ f)
        stay f h k (yes q) = (omega (arith, ap (at lv) q), λ w. omega (arith, old.below e))
        stay f h k (no q) = old.most e f (omega arith) k

    pick : (q : ℕ) → q < n → Dec (q ≡ p) → BestChild n (at parent) (at lv) (c + 1) q (at (set main p r) q)
    pick q l (yes e) =
        rw (e, get_or-set_same main p r 0 (omega (arith, s.long)))
        (here (ℕ_discrete (at main p) 4096) (dec_le (at lv c) (at lv (at main p))))
    pick q l (no m) = rw (get_or-set_other main p q r 0 m) (let b = s.each q l in record {
      none = λ e d h k. b.none e d (other q m d h k) k;
      below = λ e. omega (arith, b.below e);
      child = b.child;
      most = λ e d h k. b.most e d (other q m d h k) k;
    })

-- when all children were met, the array's child is the main child exactly
module _ {n : ℕ} {parent lv main : List ℕ} {c : ℕ} (L : LeavesAll n parent lv) (B : BestChildren n parent lv c main)
    (all : n ≤ c) where
  best_main : (p : ℕ) → p < n → at main p ≢ 4096 → Main (Child n (at parent)) n p (at main p)
  best_main p b m = record {
    child = (B.each p b).child m;
    most = λ d x y k lx ly.
        let q = at main p in
        let e : x ≡ at lv (at main p) = count_unique lx (L.each (at main p) ((B.each p b).child m).fits) in
        let f : y ≡ at lv d = count_unique ly (L.each d k.fits) in
        let o = (B.each p b).most m d (omega (arith, k.fits)) k in
        (omega (arith, o.0), λ w. o.1 (omega arith));
  }

  main_best : (p q : ℕ) → p < n → Main (Child n (at parent)) n p q → at main p ≡ q
  main_best p q b k = pick (ℕ_discrete (at main p) 4096)
    where
      near : q < c
      near = omega (arith, k.child.fits)

      pick : Dec (at main p ≡ 4096) → at main p ≡ q
      pick (yes e) = absurd ((B.each p b).none e q near k.child)
      pick (no m) =
          let o = (B.each p b).most m q near k.child in
          let i = (B.each p b).child m in
          let r = k.most (at main p) (at lv q) (at lv (at main p)) i (L.each q k.child.fits)
          (L.each (at main p) i.fits) in
          let e : at lv q ≡ at lv (at main p) = omega (arith, o.0, r.0) in
          omega (arith, o.1 e, r.1 (sym e))

  pub mains_all : MainsAll n parent main
  mains_all =
      record { long = B.long; each = λ p b. record { is = best_main p b; only = λ q k. main_best p q b k } }

pub best_small : {n : ℕ} {parent lv main : List ℕ} {c : ℕ} (p : ℕ) → n ≤ 4096 → c ≤ n → p < n
    → BestChildren n parent lv c main → at main p ≤ 4096
best_small {main} p b k l s = pick (ℕ_discrete (at main p) 4096)
  where
    pick : Dec (at main p ≡ 4096) → at main p ≤ 4096
    pick (yes e) = omega arith
    pick (no m) = omega (arith, (s.each p l).below m)

pub ordered_parented : {n : ℕ} {parent order : List ℕ} → Ordered n parent order → Parented n parent
ordered_parented k = record { some = k.holds.some; fits = k.holds.fits }

pub read_child : {n : ℕ} {parent : List ℕ} → Parented n parent → (c p : ℕ) → 0 < c → c < n → p ≡ at parent c → p < n
read_child k c p z b e = rw e (k.fits c b (omega arith))
