-- Every pair of a net with its path's length and weight, by the ways: what a test shows of each that passes, it shows
-- of every entry that qualifies.
use Prim.Native.Nat.{ℕ, ◌<◌}
use mathlib.Core.Path.{◌≡◌, refl}
use mathlib.Core.Logic.{◌⊎◌, inl, inr}
use mathlib.Core.Bool.{Bool, not, ◌||◌}
use mathlib.Core.List.{List, [], ◌∷◌}
use lib.Dec.{T, eqb, ltb, eqb→eq, ltb→lt, T_not}
use lib.IntN.{ℤ}
use Rattle.table.specs.Header.{nodes_of}
use Rattle.net.specs.Net.{first_end, second_end, length_of}
use Rattle.net.specs.Path.{Sum}
use Rattle.net.specs.Value.{Total}
use Rattle.net.proofs.Values.{length_only, weight_only}
use Rattle.marks.specs.Weighs.{weight_under}
use Rattle.pages.specs.Listing.{Entry, entry}
use Rattle.pages.specs.Passes.{Passes}
use Rattle.ground.specs.PathOf.{PathOf}
use Rattle.worked.proofs.Tests.{either, every, every_passed, below, below_all, eq_z, eq_z_is}
use Rattle.worked.proofs.Accepted.{accepted?, forest}
use Rattle.worked.proofs.Ways.{path?, is_path}

module _ (s marks : List ℕ) (way : ℕ → ℕ → List ℕ) where
  abbrev pub of : ℕ → ℕ → Entry
  of a b = entry a b (Sum (length_of s) (way a b)) (Total (weight_under s marks) (way a b))

  -- each pair's way is its path
  unfoldable pub ways? : Bool
  ways? = below (λ b. below (λ a. path? s a (way a b) b) b) (nodes_of s)

  pub measured : (a b : ℕ) → T (path? s a (way a b) b)
      → PathOf s marks (nodes_of s) a b (Sum (length_of s) (way a b)) (Total (weight_under s marks) (way a b))
  measured a b t = record { rows = way a b; path = is_path s a (way a b) b t; length = refl; weight = refl }

  pub way_path : T ways? → (a b : ℕ) → a < b → b < nodes_of s → T (path? s a (way a b) b)
  unfolding ways?
  way_path t a b h k =
      below_all (λ a. path? s a (way a b) b) b (below_all (λ b. below (λ a. path? s a (way a b) b) b) (nodes_of s) t b
      k)
      a h

  module _ (within : ℕ → Bool) (heavy : ℤ → Bool) where
    abbrev pub Wanted : Entry → Type 0
    Wanted = Passes (PathOf s marks (nodes_of s)) (λ l. T (within l)) (λ w. T (heavy w)) (nodes_of s)

    -- an entry that qualifies
    abbrev wanted_tests : Entry → List Bool
    wanted_tests e =
        ltb e.low e.high ∷ ltb e.high (nodes_of s) ∷ eqb (of e.low e.high).length e.length
        ∷ eq_z (of e.low e.high).weight e.weight ∷ within e.length ∷ heavy e.weight ∷ []

    unfoldable pub wanted? : Entry → Bool
    wanted? e = every (wanted_tests e)

    pub is_wanted : T ways? → (e : Entry) → T (wanted? e) → Wanted e
    unfolding wanted?
    is_wanted w e t =
        let p = every_passed (wanted_tests e) t in
        let l : e.low < e.high = ltb→lt _ _ p.0 in
        let h : e.high < nodes_of s = ltb→lt _ _ p.1.0 in
        record {
          pair = l;
          node = h;
          path = record {
            rows = way e.low e.high;
            path = is_path s e.low (way e.low e.high) e.high (way_path w e.low e.high l h);
            length = eqb→eq _ _ p.1.1.0;
            weight = eq_z_is _ _ p.1.1.1.0;
          };
          short = p.1.1.1.1.0;
          heavy = p.1.1.1.1.1.0;
        }

    -- a test of all pairs within both
    abbrev asked : (Entry → Bool) → Entry → Bool
    asked test e = not (within e.length) || (not (heavy e.weight) || test e)

    unfoldable pub all_pairs : (Entry → Bool) → Bool
    all_pairs test = below (λ b. below (λ a. asked test (of a b)) b) (nodes_of s)

    asked_of : (test : Entry → Bool) (e : Entry) → T (asked test e) → T (within e.length) → T (heavy e.weight)
        → T (test e)
    asked_of test e t x y = side (either (not (within e.length)) (not (heavy e.weight) || test e) t)
      where
        last : T (not (heavy e.weight)) ⊎ T (test e) → T (test e)
        last (inl n) = absurd (T_not (heavy e.weight) n y)
        last (inr g) = g

        side : T (not (within e.length)) ⊎ T (not (heavy e.weight) || test e) → T (test e)
        side (inl n) = absurd (T_not (within e.length) n x)
        side (inr r) = last (either (not (heavy e.weight)) (test e) r)

    pub all_wanted : T (accepted? s) → T ways? → (test : Entry → Bool) → T (all_pairs test) → (e : Entry) → Wanted e
        → T (test e)
    unfolding all_pairs
    all_wanted ok w test t e p =
        let m = measured e.low e.high (way_path w e.low e.high p.pair p.node) in
        let l : e.length ≡ (of e.low e.high).length = length_only (first_end s) (second_end s) (forest s ok)
        p.path m in
        let h : e.weight ≡ (of e.low e.high).weight = weight_only (first_end s) (second_end s) (forest s ok)
        p.path m in
        let is : e ≡ of e.low e.high = λ i. record { low = e.low; high = e.high; length = l i; weight = h i } in
        let q = below_all (λ a. asked test (of a e.high)) e.high
        (below_all (λ b. below (λ a. asked test (of a b)) b) (nodes_of s) t e.high p.node) e.low p.pair in
        asked_of test e (back (of e.low e.high) is q) p.short p.heavy
      where
        back : (f : Entry) → e ≡ f → T (asked test f) → T (asked test e)
        back f is t = rw is t
