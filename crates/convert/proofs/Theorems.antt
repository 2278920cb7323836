-- AN OLD SET OF MARKS, CONVERTED, READS AS IT DID: at each row what was free is free, what was held is held by the same
-- run, which is a run's number still, and what was spent is spent by "unknown"; and nothing else reads so. Each is read
-- off the promise, of an answer `Ok`: nothing was refused.
use mathlib.Core.Path.{◌≡◌, sym, ap, ◌∙◌}
use mathlib.Core.List.{List}
use Prim.Native.Nat.{ℕ, ◌-◌, ◌<◌}
use native.Mathlib.Omega.{arith}
use lib.ListN.{length}
use Rattle.arrays.specs.At.{at}
use Rattle.table.specs.Header.{nodes_of}
use Rattle.table.proofs.Refusals.{past, past_rows}
use Rattle.tree.proofs.Begins.{begins_past}
use Rattle.marks.specs.Mark.{unknown, Free, HeldBy, SpentBy, RunNumber}
use Rattle.marks.proofs.Readings.{held_not_free, spent_not_free, held_not_spent, held_one, spent_one}
use Rattle.convert.specs.Old.{WasFree, WasHeldBy, WasSpent, ReadsOn, still_free, still_held, still_spent}
use Rattle.convert.specs.Convert.{Conversion, conversion_refusal, Converts}
use Rattle.std.specs.Prelude.{Ok, Err}

abbrev done : Conversion → ℕ
done (Ok given) = 1
done (Err why) = 0

plain : (k r g : ℕ) → conversion_refusal k r g ≡ Ok tt → ⊥
plain k r g e = omega (arith, ap done e)

-- one mark: whatever its number it is free exactly if it was, since no number changes
pub free_stays : (m : ℕ) → (WasFree m → Free m) × (Free m → WasFree m)
free_stays m = (λ e. e, λ e. e)

pub held_stays : {m run : ℕ} → ReadsOn m → WasHeldBy run m → HeldBy run m × RunNumber run
held_stays (still_free e f) w = absurd (omega (arith, w.is, w.above, e))
held_stays {run = run} (still_held own v h N) w =
    let e : own ≡ run = sym v.is ∙ w.is in (rw (← e) h, rw (← e) N)
held_stays (still_spent e t) w = absurd (omega (arith, w.is, w.below, e))

pub held_was : {m run : ℕ} → ReadsOn m → HeldBy run m → WasHeldBy run m
held_was (still_free e f) h = absurd (held_not_free h f)
held_was (still_held own v k N) h = rw (held_one h k) v
held_was (still_spent e t) h = absurd (held_not_spent h t)

pub spent_stays : {m : ℕ} → ReadsOn m → WasSpent m → SpentBy unknown m
spent_stays (still_free f g) e = absurd (omega (arith, e, f))
spent_stays (still_held own v h N) e = absurd (omega (arith, v.is, v.below, e))
spent_stays (still_spent f t) e = t

pub spent_was : {m run : ℕ} → ReadsOn m → SpentBy run m → WasSpent m × (run ≡ unknown)
spent_was (still_free e f) t = absurd (spent_not_free t f)
spent_was (still_held own v h N) t = absurd (held_not_spent h t)
spent_was (still_spent e u) t = (e, spent_one t u)

-- the whole set: a mark for each branch, and each reads as it did
pub converted : (s marks : List ℕ) → Converts s marks (Ok tt)
    → (length marks ≡ nodes_of s - 1) × ((r : ℕ) → r < length marks → ReadsOn (at marks r))
converted s marks p =
    let a = past (plain 13 0 0) (begins_past conversion_refusal s plain p).1 in
    (a.0, (past_rows (λ k r _ _. plain k r 0) a.1).1)
