-- A table that passes these tests is accepted: good header, good rows, no ring. Then an operation's promise is what
-- follows refusals 1 to 11.
use Prim.Native.Nat.{ℕ, ◌-◌, ◌*◌, ◌≤◌, ◌<◌}
use mathlib.Core.Path.{◌≡◌}
use mathlib.Core.Bool.{Bool, not, ◌||◌}
use mathlib.Core.Logic.{◌⊎◌, inl, inr, ⊎_elim}
use mathlib.Core.List.{List, [], ◌∷◌}
use lib.Dec.{T, eqb, ltb, leb, eqb_refl, eqb→eq, ltb→lt, leb→le, T_not}
use lib.IntN.{pos, negsuc}
use lib.ListN.{length}
use lib.Signed.{le_z, le_z_yes}
use Rattle.table.specs.Bytes.{byte_at}
use Rattle.table.specs.Header.{version_of, nodes_of}
use Rattle.table.specs.Row.{row_at, kind_at, count_at}
use Rattle.table.specs.Examine.{RowNumber}
use Rattle.table.proofs.Accepted.{Headed, GoodTable, good_table, good_number}
use Rattle.net.specs.work.Forest.{Forest}
use Rattle.net.specs.Net.{first_end, second_end}
use Rattle.net.specs.work.Net.{Net}
use Rattle.tree.specs.Accept.{Begins}
use Rattle.tree.proofs.Begins.{Sound, sound_net, sound_on}
use Rattle.net.proofs.Labels.{grows, grows_forest}
use Rattle.worked.proofs.Tests.{either, every, every_passed, below, below_all}

module _ (s : List ℕ) where
  abbrev head_tests : List Bool
  head_tests =
      leb 12 (length s) ∷ eqb (byte_at s 0) 82 ∷ eqb (byte_at s 1) 84 ∷ eqb (byte_at s 2) 78
      ∷ (eqb (version_of s) 1 || eqb (version_of s) 2)
      ∷ leb 1 (nodes_of s) ∷ leb (nodes_of s) 4096 ∷ eqb (byte_at s 7) 0 ∷ eqb (length s) (12 * nodes_of s) ∷ []

  headed : T (every head_tests) → Headed s
  headed t =
      let p = every_passed head_tests t in
      record {
        long = leb→le _ _ p.0;
        letters = (eqb→eq _ _ p.1.0, eqb→eq _ _ p.1.1.0, eqb→eq _ _ p.1.1.1.0);
        version = ⊎_elim (λ e. inl (eqb→eq _ _ e)) (λ e. inr (eqb→eq _ _ e))
            (either (eqb (version_of s) 1) (eqb (version_of s) 2) p.1.1.1.1.0);
        some = leb→le _ _ p.1.1.1.1.1.0;
        few = leb→le _ _ p.1.1.1.1.1.1.0;
        reserved = eqb→eq _ _ p.1.1.1.1.1.1.1.0;
        size = eqb→eq _ _ p.1.1.1.1.1.1.1.1.0;
      }

  -- a known kind and a count in range
  abbrev cell_tests : ℕ → List Bool
  cell_tests r = ltb (kind_at s r) 64 ∷ leb (count_at s r) 20000 ∷ []

  abbrev row_tests : ℕ → List Bool
  row_tests r =
      ltb (row_at s r).a (nodes_of s) ∷ ltb (row_at s r).b (nodes_of s) ∷ not (eqb (row_at s r).a (row_at s r).b)
      ∷ leb (row_at s r).length 1000000 ∷ le_z (negsuc 999999) (row_at s r).weight
      ∷ le_z (row_at s r).weight (pos 1000000) ∷ (not (eqb (version_of s) 2) || every (cell_tests r)) ∷ []

  row_good : (r : ℕ) → T (every (row_tests r)) → RowNumber (nodes_of s) s r 0
  row_good r t =
      let p = every_passed (row_tests r) t in
      good_number (nodes_of s) s r
      (record {
        first = ltb→lt _ _ p.0;
        second = ltb→lt _ _ p.1.0;
        apart = λ e. T_not (eqb (row_at s r).a (row_at s r).b) p.1.1.0 (rw e (eqb_refl (row_at s r).b));
        long = leb→le _ _ p.1.1.1.0;
        weight_within = (le_z_yes p.1.1.1.1.0, le_z_yes p.1.1.1.1.1.0);
      })
      (cells (either (not (eqb (version_of s) 2)) (every (cell_tests r)) p.1.1.1.1.1.1.0))
    where
      cells : T (not (eqb (version_of s) 2)) ⊎ T (every (cell_tests r)) → version_of s ≡ 2
          → (kind_at s r < 64) × (count_at s r ≤ 20000)
      cells (inl n) e = absurd (T_not (eqb (version_of s) 2) n (rw e (eqb_refl 2)))
      cells (inr c) e = let q = every_passed (cell_tests r) c in (ltb→lt _ _ q.0, leb→le _ _ q.1.0)

  -- the table's own tests refuse nothing
  abbrev good_tests : List Bool
  good_tests = every head_tests ∷ below (λ r. every (row_tests r)) (nodes_of s - 1) ∷ []

  unfoldable pub good? : Bool
  good? = every good_tests

  module _ (t : T good?) where
    good_row : (r : ℕ) → r < nodes_of s - 1 → T (every (row_tests r))
    unfolding good?
    good_row = below_all (λ r. every (row_tests r)) (nodes_of s - 1) (every_passed good_tests t).1.0

    pub good : GoodTable s
    unfolding good?
    good =
        good_table (headed (every_passed good_tests t).0) (λ i b. row_good i (good_row i b))

  abbrev tests : List Bool
  tests = good? ∷ grows (first_end s) (second_end s) (nodes_of s - 1) ∷ []

  unfoldable pub accepted? : Bool
  accepted? = every tests

  module _ (t : T accepted?) where
    pub forest : Forest (first_end s) (second_end s) (nodes_of s - 1)
    unfolding accepted?
    forest = grows_forest (first_end s) (second_end s) (nodes_of s - 1) (every_passed tests t).1.0

    sound : Sound s
    unfolding accepted?
    sound = record { good = good (every_passed tests t).0; forest = forest }

    pub net : Net s (nodes_of s)
    net = sound_net sound

    pub begins : {A : Type 0} (refuse : ℕ → ℕ → ℕ → A) {rest : A → Type 0} {x : A} → rest x → Begins A refuse s rest x
    begins refuse r = sound_on refuse s sound r
