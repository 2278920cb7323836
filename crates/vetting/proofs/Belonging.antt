-- A row belongs exactly if it names two nodes, lower first, its length and its weight are the figures of the two, and
-- these pass. What a row that belongs says is its entry's, and a pair has one length and one weight; and a row whose
-- four numbers are an entry's is that entry's row, since a number has one row of bytes.
use Prim.Native.Nat.{ℕ, ◌+◌, ◌*◌, ◌≤◌, ◌<◌}
use mathlib.Core.Path.{◌≡◌, sym, ap, ◌∙◌}
use mathlib.Core.Logic.{◌≢◌}
use mathlib.Core.Bool.{Bool, false}
use mathlib.Core.List.{List}
use native.Mathlib.Omega.{arith}
use lib.IntN.{ℤ}
use lib.ListN.{length}
use mir.Syntax.{w64}
use mir.Val.{of_z, SFits}
use Rattle.table.specs.Bytes.{u32_at}
use Rattle.table.specs.work.Diff.{Diff, up, down}
use Rattle.table.specs.work.Lift.{sum_lift, sum_end}
use Rattle.table.proofs.Lift.{diff_only}
use Rattle.numbers.specs.Bytes.{u64_at, EachByte}
use Rattle.limits.specs.declared.Limit.{Limit}
use Rattle.limits.specs.work.Fits.{Fits, Decides}
use Rattle.limits.proofs.Tests.{decides_false, fits_most}
use Rattle.pages.specs.Listing.{Entry, entry}
use Rattle.pages.specs.declared.Sums.{Sums}
use Rattle.pages.specs.work.Lowered.{lower, InSums}
use Rattle.pages.specs.work.RowFits.{RowFits}
use Rattle.pages.proofs.Lift.{lower_is}
use Rattle.figures.specs.work.Figures.{Figures, Figurable, FigureAsked}
use Rattle.figures.proofs.Valuing.{figures_only, figures_light}
use Rattle.vetting.specs.work.Foreign.{Belongs}
use Rattle.vetting.specs.work.Meant.{Meant, Numbers}
use Rattle.vetting.specs.work.Repeats.{low_of, high_of}
use Rattle.vetting.proofs.RowLaws.{row_length_says, row_bits, row_made}
use Rattle.vetting.proofs.Screening.{Paired, names_low, names_high}

pub figures_named : {spot above far heavy : List ℕ} {a b c d l x : ℕ} → a ≡ c → b ≡ d
    → Figures spot above far heavy a b l x → Figures spot above far heavy c d l x
figures_named p q f = rw (← p, ← q) f

lift_fits : {x : ℕ} {w : ℤ} → Diff x sum_lift w → x < sum_end → SFits w64 w
lift_fits (up k e) h = record { sfits = omega arith }
lift_fits (down k e) h = record { sfits = omega arith }

module _ {n : ℕ} {spot above tail front gap far heavy : List ℕ} {limit : Limit} (sums : Sums)
    (N : Numbers n spot above tail front gap far heavy limit) where
  F : Figurable n spot above far heavy
  F = N.figurable

  meant_fits : (e : Entry) → Meant spot above far heavy n limit sums e → RowFits e
  meant_fits e m = record {
    low = omega (arith, m.pair, m.node, F.small);
    high = omega (arith, m.node, F.small);
    length = omega (arith, N.most, fits_most limit e.length m.short);
    weight = lift_fits m.load (figures_light F m.pair m.node m.figures);
  }

  -- the entry of a pair is known by its figures
  pub meant_is : (e : Entry) (m : Meant spot above far heavy n limit sums e) {l x : ℕ}
      → Figures spot above far heavy e.low e.high l x → (e.length ≡ l) × (m.lift ≡ x) × (e.weight ≡ lower x)
  meant_is e m {l} {x} f =
      let u = figures_only F m.pair m.node m.figures f in
      (u.0, u.1, diff_only (rw u.1 at m.load) (lower_is x))

  pub meant_paired : Paired (Meant spot above far heavy n limit sums) n
  meant_paired =
      record { fits = meant_fits; one = one; pair = λ e m. m.pair; node = λ e m. m.node }
    where
      one : (e f : Entry) → Meant spot above far heavy n limit sums e → Meant spot above far heavy n limit sums f
          → e.low ≡ f.low → e.high ≡ f.high → e ≡ f
      one e f p q a b =
          let g : Figures spot above far heavy e.low e.high f.length q.lift = rw (a, b) q.figures in
          let u = meant_is e p g in
          let w = u.2 ∙ sym (meant_is f q q.figures).2 in
          λ i. record { low = a i; high = b i; length = u.0 i; weight = w i }

  -- what is asked for the figures of a pair
  pub figures_asked : {a b : ℕ} → a < b → b < n → FigureAsked n spot above tail front gap far heavy a b
  figures_asked o c = record { figurable = F; tables = N.tables; order = o; node = c }

  module _ (s : List ℕ) (i : ℕ) where
    module _ (t : Belongs (Meant spot above far heavy n limit sums) s i) where
      fits : RowFits t.entry
      fits = meant_fits t.entry t.belongs

      says_low : low_of s i ≡ t.entry.low
      says_low = names_low meant_paired s t

      says_high : high_of s i ≡ t.entry.high
      says_high = names_high meant_paired s t

      -- the figures are the pair's own
      own : {l x : ℕ} → Figures spot above far heavy (low_of s i) (high_of s i) l x
          → (t.entry.length ≡ l) × (t.belongs.lift ≡ x) × (t.entry.weight ≡ lower x)
      own f = meant_is t.entry t.belongs (figures_named says_low says_high f)

    pub foreign_pair : (low_of s i < high_of s i → high_of s i < n → ⊥)
        → Decides (Belongs (Meant spot above far heavy n limit sums) s i) false
    foreign_pair h =
        decides_false (λ t. h (omega (arith, says_low t, says_high t, t.belongs.pair))
        (omega (arith, says_high t, t.belongs.node)))

    module _ {l x : ℕ} (f : Figures spot above far heavy (low_of s i) (high_of s i) l x) where
      pub foreign_length : u32_at s (16 * i + 4) ≢ l
          → Decides (Belongs (Meant spot above far heavy n limit sums) s i) false
      foreign_length h = decides_false (λ t. h (row_length_says s i t.entry t.shows (fits t) ∙ (own t f).0))

      pub foreign_weight : u64_at s (16 * i + 8) ≢ of_z w64 (lower x)
          → Decides (Belongs (Meant spot above far heavy n limit sums) s i) false
      foreign_weight h =
          decides_false (λ t. h (row_bits s i t.entry t.shows (fits t) ∙ ap (of_z w64) (own t f).2))

      -- the rest is whether the figures pass
      module _ (all : EachByte s) (stands : 16 * i + 16 ≤ length s) (o : low_of s i < high_of s i) (c : high_of s i < n)
          (el : u32_at s (16 * i + 4) ≡ l) (ew : u64_at s (16 * i + 8) ≡ of_z w64 (lower x)) where
        made : Fits limit l × InSums sums x → Belongs (Meant spot above far heavy n limit sums) s i
        made p = record {
          entry = entry (low_of s i) (high_of s i) (u32_at s (16 * i + 4)) (lower x);
          belongs = record {
            pair = o;
            node = c;
            lift = x;
            figures = rw el f;
            load = lower_is x;
            short = rw el p.0;
            heavy_enough = p.1;
          };
          shows = row_made s i (lower x) all stands ew;
        }

        passing : Belongs (Meant spot above far heavy n limit sums) s i → Fits limit l × InSums sums x
        passing t = let u = own t f in (rw u.0 at t.belongs.short, rw u.1 at t.belongs.heavy_enough)

        pub belongs_by : {r : Bool} → Decides (Fits limit l × InSums sums x) r
            → Decides (Belongs (Meant spot above far heavy n limit sums) s i) r
        belongs_by d = record { holds = λ e. made (d.holds e); fails = λ e t. d.fails e (passing t) }
