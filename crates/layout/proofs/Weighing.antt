-- From climbs to paths: the best pair over climbs is the best over the net's own paths.
use Prim.Native.Nat.{ℕ, ◌+◌, ◌<◌}
use mathlib.Core.Path.{◌≡◌}
use mathlib.Core.Logic.{◌⊎◌, inl, inr}
use mathlib.Core.List.{List}
use native.Mathlib.Omega.{arith}
use Rattle.table.proofs.Lift.{same}
use Rattle.paths.specs.work.Ground.{Ground}
use Rattle.paths.specs.work.Paths.{Paths}
use Rattle.spans.specs.work.Pairs.{best4, Le}
use Rattle.spans.specs.declared.across.Best.{Best}
use Rattle.parts.specs.work.Lift.{key_lift}
use Rattle.layout.specs.work.BestPair.{Carried, BestPair}
use Rattle.layout.proofs.Chosen.{Lifted, Found, Chosen, Value}
use Rattle.layout.proofs.Meeting as meeting
use Rattle.layout.proofs.Meeting.{From}

module _ {n : ℕ} {parent order place bl bw : List ℕ} (g : Ground n parent order place bl bw) (d w : List ℕ)
    (P : Paths g 0 d w) where
  pub d_low : Lifted n d
  d_low = record { low = λ x b. omega (arith, meeting.d_small g d w P x b) }

  pub w_low : Lifted n w
  w_low = record { low = λ x b. omega (arith, P.small x b) }

  -- what the lists weigh is the path's length and weight
  carried : (x y : ℕ) (b : Best) → x < y → y < n → Value n parent d w x y b → Carried (From g) n x y b
  carried x y b o by v =
      let c = meeting.met g d w P (omega arith) by v.meet in
      record {
        lower = o;
        fits = by;
        l = c.l;
        w = c.w;
        value = c.value;
        length = omega (arith, v.length, c.length);
        weight = same (omega (arith, v.weight)) c.weight;
        near_low = omega (arith, v.weight, c.low);
        near_high = omega (arith, v.weight, c.high);
        low = v.low;
        high = v.high;
      }

  -- the lists test lifted lengths: Raised is Within of a length lifted
  module _ (Within Raised : ℕ → Type 0) (to : (l : ℕ) → Within l → Raised (key_lift + l))
      (back : (l : ℕ) → Raised (key_lift + l) → Within l) (r : Best) (c : Chosen n parent d w Raised r) where
    raised : {x y : ℕ} {b : Best} (a : Carried (From g) n x y b) → Within a.l → Raised b.length
    raised a h = rw a.length (to a.l h)

    lowered : {x y : ℕ} {b : Best} (a : Carried (From g) n x y b) → Raised b.length → Within a.l
    lowered a h = back a.l (rw a.length at h)

    pub heaviest : BestPair (From g) n Within r
    heaviest = record { beats = beats; comes = comes c.comes }
      where
        beats : (x y : ℕ) → x < y → y < n → (b : Best) × (a : Carried (From g) n x y b) × (Within a.l → Le b r)
        beats x y o by =
            let k = c.beats x y o by in
            let a = carried x y k.best o by k.value in
            (k.best, a, λ h. k.beaten (raised a h))

        named : {x y : ℕ} → r.low ≡ x → r.high ≡ y → Carried (From g) n x y r → (a b : ℕ) → a ≡ x → b ≡ y
            → Carried (From g) n a b r
        named e f h a b i j = rw (i, j) h

        comes : (r ≡ best4 0 0 0 0) ⊎ Found n parent d w Raised r
            → (r ≡ best4 0 0 0 0) ⊎ ((a : Carried (From g) n r.low r.high r) × Within a.l)
        comes (inl e) = inl e
        comes (inr f) =
            let v = f.value in
            let a = named v.low v.high (carried f.x f.y r f.order f.fits v) r.low r.high
            v.low v.high in
            inr (a, lowered a f.short)
