-- The loop that measures a climb: the length, the lifted weight and the number of free rows are those of the rows
-- behind it. No sum wraps or falls below 0, since a climb has no more than 4,095 rows and the weight is lifted by more
-- than they all weigh.
use mathlib.Core.Path.{◌≡◌, refl, sym, ap, ◌∙◌}
use mathlib.Core.Logic.{◌≢◌}
use mathlib.Core.List.{List, [], ◌∷◌, ◌++◌}
use Prim.Native.Nat.{ℕ, zero, suc, ◌+◌, ◌-◌, ◌*◌, ◌≤◌, ◌<◌}
use native.Mathlib.Omega.{arith}
use lib.ListN.{length, length-append}
use Rattle.arrays.specs.At.{at}
use Rattle.table.specs.Row.{RowOf}
use Rattle.table.specs.declared.Row.{Row}
use Rattle.table.specs.work.Diff.{Diff}
use Rattle.table.specs.work.Lift.{sum_lift}
use Rattle.table.proofs.Lift as lift
use Rattle.net.specs.Path.{Sum}
use Rattle.net.specs.Value.{Total}
use Rattle.net.specs.Net.{length_of}
use Rattle.net.specs.work.Net.{Net}
use Rattle.net.specs.work.Rise.{row_of, WalkClimb}
use Rattle.net.proofs.Net.{reads_length}
use Rattle.net.proofs.Rooted.{sum_snoc}
use Rattle.net.proofs.Values.{total_snoc}
use Rattle.net.proofs.Route.{nothing}
use Rattle.net.proofs.Rises.{rise_only}
use Rattle.net.proofs.Along.{Along, along_start, along_step, along_end, along_row}
use Rattle.marks.specs.Mark.{Free}
use Rattle.marks.specs.Weighs.{weight_under}
use Rattle.marks.specs.work.Lifted.{LiftedUnder}
use Rattle.marks.specs.work.Measured.{one_free, Frees, Measured}
use Rattle.marks.proofs.Weights.{under_lifts, under_small}

-- One mark
pub one_of : (m : ℕ) → Free m → one_free m ≡ 1
unfolding one_free
one_of zero e = refl
one_of (suc m) e = absurd (omega arith)

pub none_of : (m : ℕ) → (Free m → ⊥) → one_free m ≡ 0
unfolding one_free
none_of zero n = absurd (n refl)
none_of (suc m) n = refl

pub one_most : (m : ℕ) → one_free m ≤ 1
unfolding one_free
one_most zero = omega arith
one_most (suc m) = omega arith

-- the climb from x to t stands at v, and the rows behind it have length l, lifted weight q and k free ones
pub record Measuring (s marks parent half place : List ℕ) (x t v l q k : ℕ) : Type 0 where
  pub done : List ℕ
  pub along : Along (length marks) parent half place x t v done
  pub long : Sum (length_of s) done ≡ l
  pub heavy : Diff q sum_lift (Total (weight_under s marks) done)
  pub frees : Frees marks done ≡ k
  pub most : l ≤ 1000000 * length done
  pub low : sum_lift ≤ q + 1000000 * length done
  pub high : q ≤ sum_lift + 1000000 * length done
  pub least : k ≤ length done

module _ (s : List ℕ) {marks parent half place : List ℕ} {x t : ℕ} where
  pub measuring_start : WalkClimb (length marks) parent half place x t
      → Measuring s marks parent half place x t x 0 sum_lift 0
  measuring_start c = record {
    done = [];
    along = along_start c;
    long = refl;
    heavy = nothing (weight_under s marks) sum_lift;
    frees = refl;
    most = omega arith;
    low = omega arith;
    high = omega arith;
    least = omega arith;
  }

  -- what is read at the row of v, in a net that has a mark for each row
  module _ {n : ℕ} (N : Net s n) (each : length marks ≡ n - 1) {v l q k r : ℕ}
      (m : Measuring s marks parent half place x t v l q k) (on : v ≢ t) (er : r ≡ row_of half v) where
    row_in : r < n - 1
    row_in = omega (arith, along_row m.along on)

    pub measuring_length : {o : Row} → RowOf s r o → o.length ≤ 1000000
    measuring_length o = rw (reads_length (N.stands r row_in) o) (N.short r row_in)

    pub measuring_weight : {z : ℕ} → LiftedUnder s marks r z → z ≤ 2000000
    measuring_weight = under_small N row_in

    pub measuring_step : {p z y w f : ℕ} {o : Row} → RowOf s r o → y ≡ o.length → LiftedUnder s marks r z → w ≡ z
        → f ≡ one_free (at marks r) → p ≡ at parent v
        → Measuring s marks parent half place x t p (l + y) (q + w - 1000000) (k + f)
    measuring_step {p} {z} {y} {w} {f} row ey lifted ew ef ep = record {
      done = m.done ++ (r ∷ []);
      along = along_step m.along on er ep;
      long = sum_snoc (length_of s) m.done r
          ∙ omega (arith, m.long, reads_length (N.stands r row_in) row);
      heavy = rw (total_snoc (weight_under s marks) m.done r)
          (lift.same (omega (arith, more, m.low, m.along.short))
          (lift.sum m.heavy weighs));
      frees = sum_snoc (λ a. one_free (at marks a)) m.done r ∙ omega (arith, m.frees);
      most = omega (arith, m.most, more, measuring_length row);
      low = omega (arith, m.low, more, m.along.short);
      high = omega (arith, m.high, more, measuring_weight lifted);
      least = omega (arith, m.least, more, one_most (at marks r));
    }
      where
        weighs : Diff w 1000000 (weight_under s marks r)
        weighs = rw ew (under_lifts N row_in lifted)

        more : length (m.done ++ (r ∷ [])) ≡ length m.done + 1
        more = length-append m.done (r ∷ [])

  pub measuring_end : {v l q k : ℕ} → v ≡ t → Measuring s marks parent half place x t v l q k
      → Measured s marks parent half x t l q k
  measuring_end e m = record {
    rows = m.done;
    rise = along_end e m.along;
    long = m.long;
    heavy = m.heavy;
    frees = m.frees;
    most = omega (arith, m.most, m.along.short);
    low = omega (arith, m.low, m.along.short);
    high = omega (arith, m.high, m.along.short);
    least = omega (arith, m.least, m.along.short);
  }

-- a climb is measured in one way
pub measured_only : {s marks parent half place : List ℕ} {m x t l q k l' q' k' : ℕ}
    → WalkClimb m parent half place x t → Measured s marks parent half x t l q k
    → Measured s marks parent half x t l' q' k' → (l ≡ l') × (q ≡ q') × (k ≡ k')
measured_only {s} {marks} c p r =
    let e : p.rows ≡ r.rows = rise_only c.rooted c.fits p.rise r.rise in (
      sym p.long ∙ ap (Sum (length_of s)) e ∙ r.long,
      lift.lift_only (lift.equally (ap (Total (weight_under s marks)) (sym e)) p.heavy) r.heavy,
      sym p.frees ∙ ap (λ rs. Frees marks rs) e ∙ r.frees,
    )
