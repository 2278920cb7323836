-- The places of an order, found after the walk. Filled in one after the other, they are the places that the proof of
-- the walk counted: in both a node in the order has where it stands there, and every other node 0.
use Prim.Native.Nat.{ℕ, ◌+◌, ◌<◌}
use mathlib.Core.Path.{◌≡◌, sym, ap, ◌∙◌}
use mathlib.Core.List.{List}
use native.Mathlib.Omega.{arith}
use native.Mathlib.Decide.{ℕ_discrete}
use lib.ListN.{set, length-set}
use lib.Seq.{get_or-set_same, get_or-set_other, ext_get_or}
use Rattle.arrays.specs.At.{at}
use Rattle.arrays.specs.work.Filled.{Filled}
use Rattle.net.specs.Graph.{First, Joined}
use Rattle.reach.specs.work.Walked.{WalkedFrom}
use Rattle.reach.specs.work.Placing.{Once, Places}
use Rattle.net.proofs.Labels.{joined?}

pub places_none : {order place : List ℕ} → Filled 4096 0 place → Places 0 order place
places_none f = record { long = f.long; back = λ i b. absurd (omega arith); others = λ v l n. f.each v l }

pub places_next : {n i : ℕ} {order place : List ℕ} (x : ℕ) → Once n order → i < n → x ≡ at order i
    → Places i order place → Places (i + 1) order (set place x i)
places_next {n} {i} {order} {place} x o b e p =
    record {
      long = length-set place x i ∙ p.long;
      back = λ j l. pick j l (ℕ_discrete j i);
      others = λ v l m. get_or-set_other place x v i 0 (λ q. m i (omega arith) (sym (q ∙ e)))
          ∙ p.others v l (λ j k. m j (omega arith));
    }
  where
    pick : (j : ℕ) → j < i + 1 → Dec (j ≡ i) → at (set place x i) (at order j) ≡ j
    pick j l (yes f) = rw (f, ← e) (get_or-set_same place x i 0 (omega (arith, e, o.within i b, p.long)))
    pick j l (no m) =
        get_or-set_other place x (at order j) i 0 (λ q. o.apart j i (omega arith) b (q ∙ e)) ∙ p.back j (omega arith)

module _ {start : ℕ} {us vs : ℕ → ℕ} {rows m : ℕ} {parent half order counted : List ℕ}
    (w : WalkedFrom start us vs rows m parent half order counted) where
  pub walked_once : Once m order
  walked_once = record {
    few = w.some.1;
    within = w.within;
    apart = λ i j l b q. omega (arith, w.back i (omega arith), w.back j b, ap (at counted) q);
  }

  pub walked_placed : {place : List ℕ} → Places m order place → WalkedFrom start us vs rows m parent half order place
  walked_placed {place} p =
      rw (ext_get_or 0 place counted (p.long ∙ sym w.long.3) (λ v b. same v (omega (arith, p.long)))) w
    where
      same : (v : ℕ) → v < 4096 → at place v ≡ at counted v
      same v l = pick (joined? us vs rows start v)
        where
          pick : Dec (Joined us vs (First rows) start v) → at place v ≡ at counted v
          pick (yes j) = let t = w.listed v l j in rw t.1 at (p.back (at counted v) t.0)
          pick (no n) = p.others v l (λ i b q. n (rw q at (w.joined i b))) ∙ sym (w.others v l n).2
