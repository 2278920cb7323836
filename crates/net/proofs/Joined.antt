-- Walks one after the other; joined is an equivalence, more rows join no less, and no rows join nothing.
use Prim.Native.Nat.{ℕ, suc}
use mathlib.Core.Path.{◌≡◌, refl}
use mathlib.Core.List.{List, [], ◌∷◌, ◌++◌}
use native.Mathlib.Omega.{arith}
use Rattle.net.specs.Graph.{First, Ends, Walk, stop, go, Joined}
use Rattle.net.proofs.Rows.{ends_flip}

module _ (u v : ℕ → ℕ) where
  module _ {P : ℕ → Type 0} where
    pub joined_refl : (a : ℕ) → Joined u v P a a
    joined_refl a = ([], [], stop)

    pub joined_step : {r a c b : ℕ} → P r → Ends u v r a c → Joined u v P c b → Joined u v P a b
    joined_step h e w = (_, _, go h e w.2)

    -- one walk, and then another
    pub walk_on : {a b c : ℕ} {rs ns qs ms : List ℕ} → Walk u v P a rs ns b → Walk u v P b qs ms c
        → Walk u v P a (rs ++ qs) (ns ++ ms) c
    walk_on stop t = t
    walk_on (go h e w) t = go h e (walk_on w t)

    pub walk_snoc : {a b c r : ℕ} {rs ns : List ℕ} → Walk u v P a rs ns b → P r → Ends u v r b c
        → Walk u v P a (rs ++ (r ∷ [])) (ns ++ (c ∷ [])) c
    walk_snoc w h e = walk_on w (go h e stop)

    pub joined_trans : {a b c : ℕ} → Joined u v P a c → Joined u v P c b → Joined u v P a b
    joined_trans w t = (_, _, walk_on w.2 t.2)

    walk_back : {a b : ℕ} {rs ns : List ℕ} → Walk u v P a rs ns b → Joined u v P b a
    walk_back stop = joined_refl _
    walk_back (go h e w) = joined_trans (walk_back w) (joined_step h (ends_flip u v e) (joined_refl _))

    pub joined_sym : {a b : ℕ} → Joined u v P a b → Joined u v P b a
    joined_sym w = walk_back w.2

  module _ {P Q : ℕ → Type 0} (f : (r : ℕ) → P r → Q r) where
    pub walk_mono : {a b : ℕ} {rs ns : List ℕ} → Walk u v P a rs ns b → Walk u v Q a rs ns b
    walk_mono stop = stop
    walk_mono (go h e w) = go (f _ h) e (walk_mono w)

    pub joined_mono : {a b : ℕ} → Joined u v P a b → Joined u v Q a b
    joined_mono w = (_, _, walk_mono w.2)

  pub joined_up : {k a b : ℕ} → Joined u v (First k) a b → Joined u v (First (suc k)) a b
  joined_up = joined_mono (λ r h. omega arith)

  -- joined by no rows is equal
  pub alone : {a b : ℕ} {P : ℕ → Type 0} → ((r : ℕ) → ¬ P r) → Joined u v P a b → a ≡ b
  alone n w = go_on w.2 n
    where
      go_on : {a b : ℕ} {P : ℕ → Type 0} {rs ns : List ℕ} → Walk u v P a rs ns b → ((r : ℕ) → ¬ P r) → a ≡ b
      go_on stop n = refl
      go_on (go h e w) n = absurd (n _ h)
