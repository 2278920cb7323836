-- A walk the other way round: the same rows and the same nodes. So a path has the same length and weight either way.
-- And two nodes that an operation takes, in the other order.
use Prim.Native.Nat.{ℕ}
use mathlib.Core.Path.{◌≡◌, refl, ap, ◌∙◌}
use mathlib.Core.Logic.{⊎_elim}
use mathlib.Core.List.{List, [], ◌∷◌, ◌++◌}
use native.Mathlib.Omega.{arith}
use lib.IntN.{ℤ, ◌+ℤ◌, +ℤ_comm}
use Rattle.arrays.specs.Members.{In, at, past, Distinct}
use Rattle.net.specs.Graph.{Walk, stop, go}
use Rattle.net.specs.Path.{Sum}
use Rattle.net.specs.Value.{Total, Value}
use Rattle.net.specs.Net.{TwoNodes}
use Rattle.arrays.proofs.Members.{in_one, in_left, in_right, in_either, distinct_snoc}
use Rattle.net.proofs.Rows.{ends_flip}
use Rattle.net.proofs.Joined.{walk_snoc}
use Rattle.net.proofs.Rooted.{sum_snoc}
use Rattle.net.proofs.Values.{total_snoc}

module _ (u v : ℕ → ℕ) where
  pub record Flipped (P : ℕ → Type 0) (a b : ℕ) (rs ns : List ℕ) : Type 0 where
    pub rows : List ℕ
    pub nodes : List ℕ
    pub walk : Walk u v P b rows nodes a
    pub sum : (f : ℕ → ℕ) → Sum f rows ≡ Sum f rs
    pub total : (g : ℕ → ℤ) → Total g rows ≡ Total g rs
    pub to : (z : ℕ) → In z (b ∷ nodes) → In z (a ∷ ns)
    pub fro : (z : ℕ) → In z (a ∷ ns) → In z (b ∷ nodes)
    pub once : Distinct (a ∷ ns) → Distinct (b ∷ nodes)

  pub flip : {P : ℕ → Type 0} {a b : ℕ} {rs ns : List ℕ} → Walk u v P a rs ns b → Flipped P a b rs ns
  unfolding Total
  flip stop =
      record {
        rows = [];
        nodes = [];
        walk = stop;
        sum = λ f. refl;
        total = λ g. refl;
        to = λ z i. i;
        fro = λ z i. i;
        once = λ d. d;
      }
  flip {P} {a} {b} (go {r} {c = c} {rs = rs} {ns = ns} h e w) =
      let p = flip w in
      record {
        rows = p.rows ++ (r ∷ []);
        nodes = p.nodes ++ (a ∷ []);
        walk = walk_snoc u v p.walk h (ends_flip u v e);
        sum = λ f. omega (arith, sum_snoc f p.rows r, p.sum f);
        total = λ g. total_snoc g p.rows r ∙ ap (λ z. z +ℤ g r) (p.total g) ∙ +ℤ_comm (Total g rs) (g r);
        to = λ z i. ⊎_elim (λ j. past (p.to z j)) (λ j. at (in_one j)) (in_either (b ∷ p.nodes) i);
        fro = λ z i. back z p i;
        once = λ d. distinct_snoc (b ∷ p.nodes) a (p.once d.1) (λ i. d.0 (p.to a i));
      }
    where
      back : (z : ℕ) (p : Flipped P c b rs ns) → In z (a ∷ (c ∷ ns)) → In z (b ∷ (p.nodes ++ (a ∷ [])))
      back z p (at q) = in_right (b ∷ p.nodes) (at q)
      back z p (past i) = in_left (a ∷ []) (p.fro z i)

  pub value_flip : {k a b l : ℕ} {long : ℕ → ℕ} {heavy : ℕ → ℤ} {w : ℤ} → Value u v k long heavy a b l w
      → Value u v k long heavy b a l w
  value_flip {long = long} {heavy = heavy} p =
      let f = flip p.path.1 in
      record {
        rows = f.rows;
        path = (f.nodes, f.walk, f.once p.path.2);
        length = f.sum long ∙ p.length;
        weight = f.total heavy ∙ p.weight;
      }

pub two_flip : {n a b : ℕ} → TwoNodes n a b → TwoNodes n b a
two_flip t = record { first = t.second; second = t.first; apart = λ e. t.apart (omega (arith, e)) }
