-- The length and the weight of a path: one of each; a step further from the start adds the branch to both, a step
-- nearer takes it off both; they depend on nothing but what the rows have, and no row weighing less, no path does.
use Prim.Native.Nat.{ℕ, ◌+◌, ◌<◌}
use mathlib.Core.Path.{◌≡◌, refl, sym, ap, ◌∙◌}
use mathlib.Core.Logic.{◌≢◌}
use mathlib.Core.List.{List, [], ◌∷◌, ◌++◌}
use lib.IntN.{ℤ, pos, ◌+ℤ◌, +ℤ_assoc, +ℤ_idl, +ℤ_idr}
use lib.Signed.{◌≤ℤ◌, ≤ℤ_refl}
use Rattle.table.proofs.Order.{sums_keep}
use Rattle.net.specs.Graph.{stop}
use Rattle.net.specs.work.Forest.{Forest}
use Rattle.net.specs.Path.{Sum}
use Rattle.net.specs.work.Rooted.{Above, Rooted}
use Rattle.net.specs.Value.{Total, Value}
use Rattle.arrays.proofs.Members.{not_nil}
use Rattle.net.proofs.OnePath.{unique}
use Rattle.net.proofs.Erase.{simple}
use Rattle.net.proofs.Rooted.{sum_snoc, path_down, path_up}

pub total_snoc : (f : ℕ → ℤ) (rs : List ℕ) (r : ℕ) → Total f (rs ++ (r ∷ [])) ≡ Total f rs +ℤ f r
unfolding Total
total_snoc f [] r = +ℤ_idr (f r) ∙ sym (+ℤ_idl (f r))
total_snoc f (s ∷ rs) r = ap (λ z. f s +ℤ z) (total_snoc f rs r) ∙ sym (+ℤ_assoc (f s) (Total f rs) (f r))

-- the same weights, the same sum
pub total_same : (f g : ℕ → ℤ) (rs : List ℕ) → ((r : ℕ) → f r ≡ g r) → Total f rs ≡ Total g rs
unfolding Total
total_same f g [] h = refl
total_same f g (r ∷ rs) h = cc (h r, total_same f g rs h)

-- no weight less, no sum less
pub total_keeps : (f g : ℕ → ℤ) (rs : List ℕ) → ((r : ℕ) → f r ≤ℤ g r) → Total f rs ≤ℤ Total g rs
unfolding Total
total_keeps f g [] h = ≤ℤ_refl (pos 0)
total_keeps f g (r ∷ rs) h = sums_keep (h r) (total_keeps f g rs h)

module _ (u v : ℕ → ℕ) {k : ℕ} {long : ℕ → ℕ} {heavy : ℕ → ℤ} where
  pub value_none : (a : ℕ) → Value u v k long heavy a a 0 (pos 0)
  unfolding Total
  value_none a = record { rows = []; path = ([], stop, (not_nil, tt)); length = refl; weight = refl }

  -- one path, one length and one weight
  module _ (F : Forest u v k) {a b l l₁ : ℕ} {w w₁ : ℤ} (p : Value u v k long heavy a b l w)
      (q : Value u v k long heavy a b l₁ w₁) where
    rows_only : p.rows ≡ q.rows
    rows_only = (unique u v F p.path.1 q.path.1 p.path.2 q.path.2).0

    pub length_only : l ≡ l₁
    length_only = sym p.length ∙ ap (Sum long) rows_only ∙ q.length

    pub weight_only : w ≡ w₁
    weight_only = sym p.weight ∙ ap (Total heavy) rows_only ∙ q.weight

  module _ {n : ℕ} {par row place : ℕ → ℕ} (T : Rooted u v k n par row place) (t : ℕ) (bt : t < n) (zt : t ≢ 0)
      {x : ℕ} where
    -- away from x: from the parent down to t where t is not above x, from t up to the parent where it is
    pub value_down : {l : ℕ} {w : ℤ} → ¬ Above par t x → Value u v k long heavy x (par t) l w
        → Value u v k long heavy x t (l + long (row t)) (w +ℤ heavy (row t))
    value_down m p = record {
      rows = p.rows ++ (row t ∷ []);
      path = path_down u v T t bt zt m p.path;
      length = rw (← p.length) (sum_snoc long p.rows (row t));
      weight = rw (← p.weight) (total_snoc heavy p.rows (row t));
    }

    pub value_up : {l : ℕ} {w : ℤ} → Above par t x → Value u v k long heavy x t l w
        → Value u v k long heavy x (par t) (l + long (row t)) (w +ℤ heavy (row t))
    value_up h p = record {
      rows = p.rows ++ (row t ∷ []);
      path = path_up u v T t bt zt h p.path;
      length = rw (← p.length) (sum_snoc long p.rows (row t));
      weight = rw (← p.weight) (total_snoc heavy p.rows (row t));
    }

    -- nearer to x, from the parent down to t where t is above x: a value to which the branch adds up
    pub value_nearer : {l : ℕ} {w : ℤ} → x < n → Above par t x → Value u v k long heavy x (par t) l w
        → (m : ℕ) × (z : ℤ) × Value u v k long heavy x t m z × (m + long (row t) ≡ l) × (z +ℤ heavy (row t) ≡ w)
    value_nearer b h p =
        let s = simple u v (T.all x t b bt) in
        let near : Value u v k long heavy x t (Sum long s.0) (Total heavy s.0) =
        record { rows = s.0; path = (s.1, s.2, s.3); length = refl; weight = refl } in
        let far = value_up h near in
        (Sum long s.0, Total heavy s.0, near, length_only T.forest far p, weight_only T.forest far p)
