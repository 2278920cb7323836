-- From what the loops along the climbs did to what claim's promise says: the free branches of the path. And that a
-- change leaves one list of marks.
use mathlib.Core.Path.{◌≡◌, refl, sym, ◌∙◌}
use mathlib.Core.Logic.{◌⊎◌, inl, inr, ◌≢◌}
use mathlib.Core.List.{List, [], ◌∷◌, ◌++◌}
use Prim.Native.Nat.{ℕ, ◌+◌, ◌-◌, ◌≤◌}
use native.Mathlib.Decide.{ℕ_discrete}
use native.Mathlib.Omega.{arith}
use lib.ListN.{length}
use lib.Seq.{ext_get_or}
use Rattle.arrays.specs.At as filled
use Rattle.table.specs.Refuse.{Only}
use Rattle.arrays.specs.Members.{In, at}
use Rattle.net.specs.Count.{Count}
use Rattle.net.specs.Path.{Sum}
use Rattle.net.specs.work.Net.{Net}
use Rattle.net.specs.Net.{first_end, second_end, length_of}
use Rattle.net.specs.work.Rooted.{Rooted}
use Rattle.arrays.proofs.Members.{in_left, in_right, in_either}
use Rattle.net.proofs.OnePath.{unique}
use Rattle.net.proofs.RingExactly.{once}
use Rattle.net.proofs.Counts.{count_same, count_unique, count_some}
use Rattle.net.proofs.Rises.{TwoRises}
use Rattle.marks.specs.work.Measured.{one_free, Frees}
use Rattle.changes.specs.Change.{Changes, Done}
use Rattle.std.specs.Prelude.{Ok, Err}
use Rattle.changes.specs.Claim.{PathBetween, InReach, Taken}
use Rattle.changes.specs.work.Climbs.{Held}
use Rattle.changes.proofs.Held.{FreeIn, frees_count}

-- One outcome
changes_marks : {P : ℕ → Type 0} {m : ℕ} {before x y : List ℕ} {j k : ℕ} → Changes P m before x j
    → Changes P m before y k → x ≡ y
changes_marks {P} {m} {before} {x} {y} p q =
    ext_get_or 0 x y (p.same_many ∙ sym q.same_many) (λ r l. each r (ℕ_discrete (filled.at x r) (filled.at y r)))
  where
    each : (r : ℕ) → Dec (filled.at x r ≡ filled.at y r) → filled.at x r ≡ filled.at y r
    each r (yes e) = e
    each r (no n) =
        let out : P r → ⊥ = λ h. n (p.becomes r h ∙ sym (q.becomes r h)) in
        absurd (n (p.stays r out ∙ sym (q.stays r out)))

pub done_only : (P : ℕ → Type 0) (m : ℕ) (before : List ℕ) → Only (Done P m before)
done_only P m before (Ok j, x) (Ok k, y) p q =
    let g : j ≡ k = count_unique p.count q.count in
    let h : x ≡ y = changes_marks p q in
    λ i. (Ok (g i), h i)
done_only P m before (Ok j, x) (Err v, y) p q = absurd q
done_only P m before (Err w, x) y p q = absurd p

count_has : {P : ℕ → Type 0} {k : ℕ} → Count P k → k ≢ 0 → (x : ℕ) × P x
count_has {P} {k} c m = pick c.list c.long c.only
  where
    pick : (l : List ℕ) → length l ≡ k → ((x : ℕ) → In x l → P x) → (x : ℕ) × P x
    pick [] e f = absurd (m (sym e))
    pick (x ∷ l) e f = (x, f x (at refl))

-- The path between two nodes of an accepted net
module _ {s : List ℕ} {n a b : ℕ} (N : Net s n) where
  same_rows : {rs qs : List ℕ} → PathBetween s n a rs b → PathBetween s n a qs b → rs ≡ qs
  same_rows p q = (unique (first_end s) (second_end s) N.forest p.1 q.1 p.2 q.2).0

  pub in_reach : {bound : ℕ} {rs : List ℕ} → PathBetween s n a rs b → InReach s n bound a b
      → Sum (length_of s) rs ≤ bound
  in_reach p i = rw (same_rows p i.path) i.short

  module _ {par row place : ℕ → ℕ} {R : Rooted (first_end s) (second_end s) (n - 1) n par row place} (before : List ℕ)
      {ups downs : List ℕ} (w : TwoRises R a b ups downs) where
    on_path : (r : ℕ) → Taken s before n a b r → FreeIn before w.rows r
    on_path r t = record { on = rw (same_rows t.path w.path) at t.on; free = t.free }

    of_path : (r : ℕ) → FreeIn before w.rows r → Taken s before n a b r
    of_path r f = record { rows = w.rows; path = w.path; on = f.on; free = f.free }

    frees : Frees before w.rows ≡ Frees before ups + Frees before downs
    frees = w.sum (λ r. one_free (filled.at before r))

    frees_many : Count (Taken s before n a b) (Frees before ups + Frees before downs)
    frees_many =
        rw (← frees)
        (count_same of_path on_path
        (frees_count before w.rows (once (first_end s) (second_end s) w.path.1 w.path.2)))

    -- the free rows of the two climbs, taken, are the path's
    pub claimed : {run : ℕ} {after : List ℕ} → Held (ups ++ downs) run before after
        → Changes (Taken s before n a b) run before after (Frees before ups + Frees before downs)
    claimed h = record {
      same_many = h.same_many;
      becomes = λ r t. h.becomes r (both r (w.only r (on_path r t).on)) t.free;
      stays = λ r m. h.stays r (λ i f. m (of_path r (record { on = w.all r (in_either ups i); free = f })));
      count = frees_many;
    }
      where
        both : (r : ℕ) → In r ups ⊎ In r downs → In r (ups ++ downs)
        both r (inl i) = in_left downs i
        both r (inr i) = in_right ups i

    -- where none is counted none is free, and where one is there is one
    pub none_free : Frees before ups + Frees before downs ≡ 0 → (r : ℕ) × Taken s before n a b r → ⊥
    none_free z o = omega (arith, count_some o.0 o.1 frees_many)

    pub some_free : Frees before ups + Frees before downs ≢ 0 → (r : ℕ) × Taken s before n a b r
    some_free m = count_has frees_many m
