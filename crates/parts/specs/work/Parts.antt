-- Spines over spots. stop: where the subtree of a spot ends; head: the head of its spine; parent: its parent, all as
-- spots.
use Rattle.std.specs.Prelude.{ℕ, ◌+◌, ◌<◌, ◌≡◌, List}
use Rattle.arrays.specs.At.{at}

module _ (stop head parent : List ℕ) where
  -- the spots from s to e are a span of items of the spine of h: nodes of that spine, and trees that hang from one of
  -- its nodes, each a spine of its own
  pub data Part : ℕ → ℕ → ℕ → Type 0 where
    none : {h s : ℕ} → Part h s s
    node : {h s e : ℕ} → at head s ≡ h → Part h (s + 1) e → Part h s e
    hung : {h s e t : ℕ} → (at head s ≡ h → ⊥) → at stop s ≡ t → at head s ≡ s → at parent s < s
        → at head (at parent s) ≡ h → s < t → Part s s t → Part h t e → Part h s e

  -- one item of the spine of h, from s to r, that hangs at t: a node of the spine at itself, a tree at its parent
  pub data Item : ℕ → ℕ → ℕ → ℕ → Type 0 where
    own : {h s : ℕ} → at head s ≡ h → Item h s (s + 1) s
    tree : {h s r : ℕ} → (at head s ≡ h → ⊥) → at stop s ≡ r → at parent s < s → at head (at parent s) ≡ h → s < r
        → Part s s r → Item h s r (at parent s)
