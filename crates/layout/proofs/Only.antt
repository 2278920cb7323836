-- What `heaviest_pair` promises allows one outcome: a pair of nodes has one length and one weight, so it is carried in
-- one way.
use Prim.Native.Nat.{ℕ}
use mathlib.Core.Path.{◌≡◌, sym, ap, ◌∙◌}
use mathlib.Core.Logic.{◌⊎◌, inl, inr}
use mathlib.Core.List.{List}
use native.Mathlib.Omega.{arith}
use lib.IntN.{ℤ}
use Rattle.table.proofs.Lift.{lift_only, equally}
use Rattle.net.specs.Value.{Value}
use Rattle.paths.specs.work.Ground.{Ground}
use Rattle.paths.proofs.Single.{one_value}
use Rattle.spans.specs.work.Pairs.{best4, Le}
use Rattle.spans.specs.declared.across.Best.{Best}
use Rattle.spans.proofs.Order.{le_antisym}
use Rattle.layout.specs.work.BestPair.{Carried, BestPair}

-- wherever a pair has one length and one weight
module _ (Value : ℕ → ℕ → ℕ → ℤ → Type 0) (n : ℕ)
    (single : (x y l l' : ℕ) (w w' : ℤ) → Value x y l w → Value x y l' w' → (l ≡ l') × (w ≡ w')) where
  carried_one : {x y : ℕ} {a b : Best} → Carried Value n x y a → Carried Value n x y b → a ≡ b
  carried_one {x} {y} {a} {b} p q =
      let e = single x y p.l q.l p.w q.w p.value q.value in
      let l : a.length ≡ b.length = omega (arith, p.length, q.length, e.0) in
      let w : a.weight ≡ b.weight = lift_only (equally (sym e.1) p.weight) q.weight in
      let c : a.low ≡ b.low = p.low ∙ sym q.low in
      let d : a.high ≡ b.high = p.high ∙ sym q.high in
      λ i. record { weight = w i; length = l i; low = c i; high = d i }

  module _ (Within : ℕ → Type 0) where
    -- a pair that is found is beaten by any other outcome
    below : {r x : Best} → BestPair Value n Within r → (p : Carried Value n x.low x.high x) → Within p.l
        → Le x r
    below {r} {x} h p o =
        let t = h.beats x.low x.high p.lower p.fits in
        let e : t.0 ≡ x = carried_one t.1 p in
        let l : t.1.l ≡ p.l = (single x.low x.high t.1.l p.l t.1.w p.w t.1.value
        p.value).0 in
        moved e (t.2 (rw l o))
      where
        moved : {a b : Best} → a ≡ b → Le a r → Le b r
        moved e f = rw e at f

    not_none : {r x : Best} → BestPair Value n Within r → r ≡ best4 0 0 0 0 → (p : Carried Value n x.low x.high x)
        → Within p.l → ⊥
    not_none h e p o = omega (arith, (below h p o).weight, p.near_low, ap (λ b. b.weight) e)

    best_only : (x y : Best) → BestPair Value n Within x → BestPair Value n Within y → x ≡ y
    best_only x y p q = pick p.comes q.comes
      where
        pick : (x ≡ best4 0 0 0 0) ⊎ ((c : Carried Value n x.low x.high x) × Within c.l)
            → (y ≡ best4 0 0 0 0) ⊎ ((c : Carried Value n y.low y.high y) × Within c.l) → x ≡ y
        pick (inl e) (inl f) = e ∙ sym f
        pick (inl e) (inr k) = absurd (not_none p e k.0 k.1)
        pick (inr k) (inl f) = absurd (not_none q f k.0 k.1)
        pick (inr k) (inr j) = le_antisym x y (below q k.0 k.1) (below p j.0 j.1)

-- and so it is in every net that fits the arrays, under any length test
pub heaviest_pair_only : {n : ℕ} {parent order place bl bw : List ℕ} (g : Ground n parent order place bl bw)
    (Within : ℕ → Type 0) (x y : Best) → BestPair (Value g.u g.v g.k g.long g.heavy) n Within x
    → BestPair (Value g.u g.v g.k g.long g.heavy) n Within y → x ≡ y
heaviest_pair_only {n} g Within =
    best_only (Value g.u g.v g.k g.long g.heavy) n (λ a b l m w z. one_value g) Within
