-- The sweep over all marks: those that the run held, unspent, have become `to`, place after place, and how many they
-- were. A mark past the last would be free, so that no run holds it.
use mathlib.Core.Path.{◌≡◌, refl, ◌∙◌}
use mathlib.Core.Logic.{◌⊎◌, inl, inr, ⊎_elim}
use mathlib.Core.List.{List}
use Prim.Native.Nat.{ℕ, ◌+◌, ◌≤◌, ◌<◌}
use native.Mathlib.Decide.{ℕ_discrete, dec_lt}
use native.Mathlib.Omega.{arith}
use lib.ListN.{length, set, length-set, get_or-eq_default}
use lib.Seq.{get_or-set_same, get_or-set_other}
use Rattle.arrays.specs.At.{at}
use Rattle.net.specs.Count.{Count}
use Rattle.net.proofs.Counts.{count_same, count_none, count_one, count_add}
use Rattle.marks.specs.Mark.{HeldBy}
use Rattle.changes.specs.Change.{Changes}

-- a place below i whose mark the run held
pub record Seen (before : List ℕ) (run i r : ℕ) : Type 0 where
  pub fits : r < i
  pub held : HeldBy run (at before r)

pub record Replacing (run to : ℕ) (before : List ℕ) (i k : ℕ) (now : List ℕ) : Type 0 where
  pub within : i ≤ length before
  pub same_many : length now ≡ length before
  pub becomes : (r : ℕ) → Seen before run i r → at now r ≡ to
  pub stays : (r : ℕ) → (Seen before run i r → ⊥) → at now r ≡ at before r
  pub count : Count (Seen before run i) k
  pub few : k ≤ i

pub replacing_start : (run to : ℕ) (before : List ℕ) → Replacing run to before 0 0 before
replacing_start run to before = record {
  within = omega arith;
  same_many = refl;
  becomes = λ r h. absurd (omega (arith, h.fits));
  stays = λ r n. refl;
  count = count_none (λ r h. omega (arith, h.fits));
  few = omega arith;
}

module _ {run to : ℕ} {before : List ℕ} {i k : ℕ} {now : List ℕ} (h : Replacing run to before i k now)
    (l : i < length before) where
  -- the place itself has not been touched yet
  pub replacing_own : at now i ≡ at before i
  replacing_own = h.stays i (λ s. omega (arith, s.fits))

  split : (r : ℕ) → Seen before run (i + 1) r → Seen before run i r ⊎ (r ≡ i)
  split r s = pick (dec_lt r i)
    where
      pick : Dec (r < i) → Seen before run i r ⊎ (r ≡ i)
      pick (yes b) = inl (record { fits = b; held = s.held })
      pick (no b) = inr (omega (arith, s.fits))

  wider : (r : ℕ) → Seen before run i r → Seen before run (i + 1) r
  wider r s = record { fits = omega (arith, s.fits); held = s.held }

  pub replacing_hit : HeldBy run (at now i) → Replacing run to before (i + 1) (k + 1) (set now i to)
  replacing_hit e =
      record {
        within = omega arith;
        same_many = length-set now i to ∙ h.same_many;
        becomes = λ r s. put r (ℕ_discrete r i) (split r s);
        stays = λ r n. kept r n (ℕ_discrete r i);
        count = count_add {Q = λ r. r ≡ i} h.count (count_one i refl (λ y q. q)) (λ r s q. omega (arith, s.fits, q))
            split wider (λ r q. rw q own);
        few = omega (arith, h.few);
      }
    where
      own : Seen before run (i + 1) i
      own = record { fits = omega arith; held = rw replacing_own at e }

      put : (r : ℕ) → Dec (r ≡ i) → Seen before run i r ⊎ (r ≡ i) → at (set now i to) r ≡ to
      put r (yes q) s = rw q (get_or-set_same now i to 0 (omega (arith, h.same_many)))
      put r (no d) (inl s) = get_or-set_other now i r to 0 d ∙ h.becomes r s
      put r (no d) (inr q) = absurd (d q)

      kept : (r : ℕ) → (Seen before run (i + 1) r → ⊥) → Dec (r ≡ i) → at (set now i to) r ≡ at before r
      kept r n (yes q) = absurd (n (rw q own))
      kept r n (no d) = get_or-set_other now i r to 0 d ∙ h.stays r (λ s. n (wider r s))

  pub replacing_miss : (HeldBy run (at now i) → ⊥) → Replacing run to before (i + 1) k now
  replacing_miss d = record {
    within = omega arith;
    same_many = h.same_many;
    becomes = λ r s. h.becomes r (back r s);
    stays = λ r n. h.stays r (λ s. n (wider r s));
    count = count_same wider back h.count;
    few = omega (arith, h.few);
  }
    where
      back : (r : ℕ) → Seen before run (i + 1) r → Seen before run i r
      back r s = ⊎_elim (λ y. y) (λ q. absurd (d (rw (replacing_own, ← q) s.held))) (split r s)

pub replacing_end : {run to : ℕ} {before : List ℕ} {i k : ℕ} {now : List ℕ} → length before ≤ i
    → Replacing run to before i k now → Changes (λ r. HeldBy run (at before r)) to before now k
replacing_end {run} {to} {before} {i} {k} {now} l h = record {
  same_many = h.same_many;
  becomes = λ r s. h.becomes r (seen r s);
  stays = λ r n. h.stays r (λ s. n s.held);
  count = count_same (λ r s. s.held) seen h.count;
}
  where
    seen : (r : ℕ) → HeldBy run (at before r) → Seen before run i r
    seen r s = pick (dec_lt r i)
      where
        pick : Dec (r < i) → Seen before run i r
        pick (yes b) = record { fits = b; held = s }
        pick (no b) = absurd (omega (arith, s.marked, b, get_or-eq_default before 0 {n = r} (omega (arith, b))))
