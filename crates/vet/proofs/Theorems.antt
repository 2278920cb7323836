-- WHAT A YES MEANS, of an accepted table with a mark for each branch, and any floor. Given the listing, which demand 3
-- shows to be there: yes exactly if, sorted by pair, the list is the listing, the rows of its entries in some order,
-- each once and nothing else. Of an empty list exactly if the listing is empty. The listing cut into pages of whole
-- rows is a yes, in whichever order the pages are.
use Prim.Native.Nat.{ℕ, ◌-◌, ◌*◌, ◌/◌, ◌%◌, ◌≤◌}
use mathlib.Core.Path.{◌≡◌, refl, ap, ◌∙◌}
use mathlib.Core.Logic.{◌↔◌}
use mathlib.Core.List.{List, [], flatten}
use native.Mathlib.Omega.{arith}
use lib.IntN.{ℤ}
use lib.ListN.{length}
use Rattle.arrays.specs.Members.{In}
use Rattle.table.specs.Refuse.{passed}
use Rattle.table.specs.Header.{nodes_of, bound_of}
use Rattle.table.proofs.Refusals.{past, settled}
use Rattle.tree.specs.Accept.{Accepts, acceptance}
use Rattle.tree.proofs.Begins.{admitted, passed_on, begins_rest}
use Rattle.pages.specs.Listing.{Entry, Listing}
use Rattle.pages.specs.Bytes.{rows}
use Rattle.pages.specs.work.RowFits.{RowFits}
use Rattle.pages.proofs.Rows.{rows_length}
use Rattle.ground.specs.Considered.{Considered}
use Rattle.ground.proofs.Bounds.{passes_fits}
use Rattle.vetting.specs.Shuffled.{Shuffled}
use Rattle.vetting.specs.Vets.{Vets, Vetted}
use Rattle.std.specs.Prelude.{Ok, Err}
use Rattle.vetting.specs.declared.Verdict.TheVariants.{Yes}
use Rattle.vetting.proofs.Theorems as vetting
use Rattle.vet.specs.Vet.{vet_refusal, VetOf}

-- what is vetted against: the entries that the listing considers
abbrev pub Listable : List ℕ → List ℕ → ℤ → Entry → Type 0
Listable s marks floor = Considered (λ l. l ≤ bound_of s) s marks (nodes_of s) floor

-- a yes is no refusal
yes_plain : (k r g : ℕ) → vet_refusal k r g ≡ Ok Yes → ⊥
yes_plain k r g e = omega (arith, ap refusing e)
  where
    refusing : Vetted → ℕ
    refusing (Ok verdict) = 0
    refusing (Err why) = 1

module _ (s marks : List ℕ) (floor : ℤ) (a : Accepts s (acceptance (nodes_of s) (bound_of s)))
    (m : length marks ≡ nodes_of s - 1) where
  -- the promise of a yes is the verdict, on whole rows
  to_verdict : (list : List ℕ) → VetOf s marks floor list (Ok Yes)
      → (length list % 16 ≡ 0) × Vets (Listable s marks floor) list (length list / 16) Yes
  to_verdict list p = past (yes_plain 32 0 0) (settled m (begins_rest vet_refusal s a p))

  from_verdict : (list : List ℕ) → length list % 16 ≡ 0
      → Vets (Listable s marks floor) list (length list / 16) Yes → VetOf s marks floor list (Ok Yes)
  from_verdict list e v = passed_on vet_refusal s (nodes_of s) (bound_of s) a (passed m (passed e v))

  -- OF NO BYTES
  pub empty_exactly : VetOf s marks floor [] (Ok Yes) ↔ Listing (Listable s marks floor) []
  empty_exactly =
      let e = vetting.empty_exactly (Listable s marks floor) [] in
      (λ p. e.0 (to_verdict [] p).1, λ L. from_verdict [] refl (e.1 L))

  -- OF ANY, the listing being whole
  module _ {whole : List Entry} (L : Listing (Listable s marks floor) whole) where
    fits : (e : Entry) → Listable s marks floor e → RowFits e
    fits e = passes_fits s marks (admitted s (nodes_of s) (bound_of s) a).net

    pub yes_exactly : (list : List ℕ)
        → VetOf s marks floor list (Ok Yes) ↔ ((k : List Entry) × Shuffled whole k × (list ≡ rows k))
    yes_exactly list = (to, from)
      where
        to : VetOf s marks floor list (Ok Yes) → (k : List Entry) × Shuffled whole k × (list ≡ rows k)
        to p =
            let v = to_verdict list p in
            (vetting.yes_exactly fits L list (length list / 16) (omega (arith, v.0))).0 v.1

        from : (k : List Entry) × Shuffled whole k × (list ≡ rows k) → VetOf s marks floor list (Ok Yes)
        from t =
            let size : length list ≡ 16 * length t.0 = ap length t.2 ∙ rows_length t.0 in
            from_verdict list (omega (arith, size))
            ((vetting.yes_exactly fits L list (length list / 16) (omega (arith, size))).1 t)

    pub any_order_yes : (pages others : List (List ℕ)) → rows whole ≡ flatten pages
        → ((page : List ℕ) → In page pages → length page % 16 ≡ 0) → Shuffled pages others
        → VetOf s marks floor (flatten others) (Ok Yes)
    any_order_yes pages others joined w h =
        let v = vetting.any_order_yes fits L pages others joined w h in
        from_verdict (flatten others) v.0 v.1
