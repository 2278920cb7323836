-- The listing: an outcome that passes the test is the one promised. The rows that follow the start are gathered pair by
-- pair; the list is then tested to rise, to hold only what qualifies, and to hold every pair that does.
use Prim.Native.Nat.{ℕ, zero, suc, ◌+◌, ◌-◌, ◌*◌, ◌/◌, ◌≤◌}
use mathlib.Core.Path.{refl}
use mathlib.Core.Logic.{◌⊎◌, inl, inr}
use mathlib.Core.Bool.{Bool, true, false, not, ◌&&◌, ◌||◌}
use mathlib.Core.List.{List, [], ◌∷◌, ◌++◌}
use lib.Dec.{T, eqb, leb, eqb→eq, leb→le, le→leb, T_not}
use lib.IntN.{ℤ}
use lib.ListN.{length, take, drop}
use lib.Signed.{le_z, le_z_yes}
use Rattle.table.specs.Refuse.{passed}
use Rattle.table.specs.Header.{nodes_of, bound_of}
use Rattle.pages.specs.Listing.{Entry, After, Listing}
use Rattle.pages.specs.Passes.{Qualifies}
use Rattle.pages.specs.Page.{Following}
use Rattle.pages.proofs.Qualifying.{passes_map}
use Rattle.pages.specs.Bytes.{rows}
use Rattle.ground.specs.PathOf.{PathOf}
use Rattle.paging.specs.Paging.{listing_refusal, listed}
use Rattle.listing.specs.Listing.{ListingOf}
use Rattle.worked.proofs.Tests.{
  either,
  every,
  every_passed,
  throughout,
  throughout_in,
  same,
  same_is,
}
use Rattle.worked.proofs.Accepted.{accepted?, begins}
use Rattle.worked.proofs.Pairs.{of, ways?, Wanted, wanted?, is_wanted, all_pairs, all_wanted}
use Rattle.worked.proofs.Entries.{after?, is_after, after_test, has_entry, has_entry_in, rising?, is_rising}

abbrev keep : Bool → Entry → List Entry
keep true e = e ∷ []
keep false e = []

module _ (way : ℕ → ℕ → List ℕ) (s marks : List ℕ) (floor : ℤ) (low high : ℕ) (lent : List ℕ)
    (written left : ℕ) (bytes : List ℕ) where
  abbrev short : ℕ → Bool
  short l = leb l (bound_of s)

  -- what follows the start, gathered
  unfoldable pub seconds : ℕ → ℕ → List Entry
  seconds a zero = []
  seconds a (suc b) =
      seconds a b
      ++ keep (wanted? s marks way short (le_z floor) (of s marks way a b) && after? low high (of s marks way a b))
      (of s marks way a b)

  unfoldable pub firsts : ℕ → List Entry
  firsts zero = []
  firsts (suc a) = firsts a ++ seconds a (nodes_of s)

  abbrev gathered : List Entry
  gathered = firsts (nodes_of s)

  abbrev given : List Entry
  given = take (length lent / 16) gathered

  -- it is found in the list, where it comes after the start
  abbrev reached : Entry → Bool
  reached e = not (after? low high e) || has_entry gathered e

  abbrev tests : List Bool
  tests =
      accepted? s ∷ eqb (length marks) (nodes_of s - 1) ∷ ways? s marks way ∷ leb 16 (length lent) ∷ rising? gathered
      ∷ throughout (wanted? s marks way short (le_z floor)) gathered ∷ throughout (after? low high) gathered
      ∷ all_pairs s marks way short (le_z floor) reached ∷ eqb written (length given)
      ∷ eqb (length given + left) (length gathered) ∷ same bytes (rows given ++ drop (16 * written) lent) ∷ []

  unfoldable pub listing? : Bool
  listing? = every tests

  abbrev Wants : Entry → Type 0
  Wants = Qualifies (PathOf s marks (nodes_of s)) (λ l. l ≤ bound_of s) floor (nodes_of s)

  to : (e : Entry) → Wanted s marks way short (le_z floor) e → Wants e
  to e = passes_map (λ q. q) (λ l. leb→le _ _ l) (λ w. le_z_yes w)

  fro : (e : Entry) → Wants e → Wanted s marks way short (le_z floor) e
  fro e = passes_map (λ q. q) (λ l. le→leb _ _ l) (λ w. w.le)

  pub is_listing : T listing? → ListingOf s marks floor low high lent (listed written left, bytes)
  unfolding listing?
  is_listing t =
      let p = every_passed tests t in
      let q = p.1.1.1.1 in
      let r = q.1.1.1.1 in
      begins s p.0 (listing_refusal lent)
      (passed (eqb→eq _ _ p.1.0)
      (passed (leb→le _ _ p.1.1.1.0)
      (record {
        some = given;
        page = record {
          rows = gathered;
          all = all p.0 p.1.1.0 q.0 q.1.0 q.1.1.0 q.1.1.1.0;
          fit = refl;
          rest = eqb→eq _ _ r.1.0;
        };
        count = eqb→eq _ _ r.0;
        bytes = same_is _ _ r.1.1.0;
      })))
    where
      found : (e : Entry) → After low high e → T (reached e) → T (has_entry gathered e)
      found e a t = pick (either (not (after? low high e)) (has_entry gathered e) t)
        where
          pick : T (not (after? low high e)) ⊎ T (has_entry gathered e) → T (has_entry gathered e)
          pick (inl n) = absurd (T_not (after? low high e) n (after_test low high e a))
          pick (inr h) = h

      all : T (accepted? s) → T (ways? s marks way) → T (rising? gathered)
          → T (throughout (wanted? s marks way short (le_z floor)) gathered) → T (throughout (after? low high) gathered)
          → T (all_pairs s marks way short (le_z floor) reached) → Listing (Following Wants low high) gathered
      all ok w a b c d =
          record {
            rising = is_rising gathered a;
            sound =
                λ e i. (
                  to e
                      (is_wanted s marks way short (le_z floor) w e
                      (throughout_in (wanted? s marks way short (le_z floor)) gathered b e i)),
                  is_after low high e (throughout_in (after? low high) gathered c e i),
                );
            complete = λ e f. has_entry_in gathered e
                (found e f.1 (all_wanted s marks way short (le_z floor) ok w reached d e (fro e f.0)));
          }
