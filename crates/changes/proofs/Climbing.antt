-- The loop along a climb that takes its free rows: those behind it are taken.
use mathlib.Core.Path.{◌≡◌}
use mathlib.Core.Logic.{◌≢◌}
use mathlib.Core.List.{List, [], ◌∷◌, ◌++◌}
use Prim.Native.Nat.{ℕ, ◌<◌}
use native.Mathlib.Omega.{arith}
use lib.ListN.{length}
use Rattle.arrays.specs.At.{at}
use Rattle.net.specs.work.Rise.{row_of, WalkClimb}
use Rattle.net.proofs.Along.{Along, along_start, along_step, along_end, along_row}
use Rattle.changes.specs.work.Climbs.{Held, Takes, ClimbHeld}
use Rattle.changes.proofs.Held.{held_none, held_step}

pub record Taking (before parent half place : List ℕ) (x t m v : ℕ) (now : List ℕ) : Type 0 where
  pub done : List ℕ
  pub along : Along (length before) parent half place x t v done
  pub held : Held done m before now

module _ {before parent half place : List ℕ} {x t m : ℕ} where
  pub taking_start : WalkClimb (length before) parent half place x t → Taking before parent half place x t m x before
  taking_start c = record { done = []; along = along_start c; held = held_none m before }

  pub taking_row : {v : ℕ} {now : List ℕ} → v ≢ t → (k : Taking before parent half place x t m v now)
      → row_of half v < length now
  taking_row on k = omega (arith, along_row k.along on, k.held.same_many)

  pub taking_step : {v r p : ℕ} {now next : List ℕ} → m ≢ 0 → (k : Taking before parent half place x t m v now) → v ≢ t
      → r ≡ row_of half v → p ≡ at parent v → Takes r m now next → Taking before parent half place x t m p next
  taking_step {v} {r} {p} {now} {next} some k on q e y = record {
    done = k.done ++ (r ∷ []);
    along = along_step k.along on q e;
    held = held_step k.held some (omega (arith, taking_row on k)) y;
  }

  pub taking_end : {v : ℕ} {now : List ℕ} → v ≡ t → Taking before parent half place x t m v now
      → ClimbHeld parent half x t m before now
  taking_end e k = record { rows = k.done; rise = along_end e k.along; held = k.held }
