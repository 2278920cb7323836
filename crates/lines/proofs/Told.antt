-- A refusal's line tells of a ring for 11, and for no other number.
use Prim.Native.Nat.{ℕ}
use mathlib.Core.Path.{◌≡◌, refl}
use mathlib.Core.Logic.{◌≢◌}
use mathlib.Core.List.{List, []}
use native.Mathlib.Decide.{ℕ_discrete}
use Rattle.lines.specs.Lines.{field, ring_text}

module _ {k : ℕ} (g : ℕ) where
  abbrev tell : Dec (k ≡ 11) → List ℕ
  tell d = elim d [ yes e ↦ field " ring " g | no n ↦ [] ]

  pub ring_told : k ≡ 11 → ring_text k g ≡ field " ring " g
  unfolding ring_text
  ring_told e = pick (ℕ_discrete k 11)
    where
      pick : (d : Dec (k ≡ 11)) → tell d ≡ field " ring " g
      pick (yes e) = refl
      pick (no n) = absurd (n e)

  pub none_told : k ≢ 11 → ring_text k g ≡ []
  unfolding ring_text
  none_told n = pick (ℕ_discrete k 11)
    where
      pick : (d : Dec (k ≡ 11)) → tell d ≡ []
      pick (yes e) = absurd (n e)
      pick (no m) = refl
