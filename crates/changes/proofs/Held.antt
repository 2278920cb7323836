-- How marks change along a climb, row after row: a free one is taken.
use mathlib.Core.Path.{◌≡◌, refl, sym, ap, ◌∙◌}
use mathlib.Core.Logic.{◌⊎◌, inl, inr, ◌≢◌, ⊎_elim}
use mathlib.Core.List.{List, [], ◌∷◌, ◌++◌}
use Prim.Native.Nat.{ℕ, zero, suc, ◌+◌, ◌<◌}
use native.Mathlib.Decide.{ℕ_discrete}
use native.Mathlib.Nat.{zero-add}
use native.Mathlib.Omega.{arith}
use lib.ListN.{length, set, length-set}
use lib.Seq.{get_or-set_same, get_or-set_other}
use Rattle.arrays.specs.At as filled
use Rattle.arrays.specs.Members.{In, at, past, Distinct}
use Rattle.net.specs.Count.{Count}
use Rattle.arrays.proofs.Members.{in?, not_nil, in_one, in_left, in_right, in_either}
use Rattle.net.proofs.Counts.{count_same, count_none, count_one, count_add}
use Rattle.marks.specs.Mark.{Free}
use Rattle.marks.specs.work.Measured.{one_free, Frees}
use Rattle.changes.specs.work.Climbs.{Held, Takes}

abbrev mark : List ℕ → ℕ → ℕ
mark l r = filled.at l r

-- One row more
pub held_none : (m : ℕ) (before : List ℕ) → Held [] m before before
held_none m before = record { same_many = refl; becomes = λ r i. absurd (not_nil i); stays = λ r n. refl }

module _ {done : List ℕ} {m r : ℕ} {before now next : List ℕ} (held : Held done m before now) (some : m ≢ 0)
    (fits : r < length now) (takes : Takes r m now next) where
  held_more : Dec (Free (mark now r)) → Held (done ++ (r ∷ [])) m before next
  held_more (yes f) = record {
    same_many = rw (takes.taken f) (length-set now r m ∙ held.same_many);
    becomes = λ q i g. rw (takes.taken f) (new q i g (ℕ_discrete q r));
    stays = λ q n. rw (takes.taken f) (old q n (ℕ_discrete q r));
  }
    where
      was : Free (mark before r)
      was = sym (held.stays r (λ i g. some (sym (held.becomes r i g) ∙ f))) ∙ f

      new : (q : ℕ) → In q (done ++ (r ∷ [])) → Free (mark before q) → Dec (q ≡ r) → mark (set now r m) q ≡ m
      new q i g (yes e) = rw e (get_or-set_same now r m 0 fits)
      new q i g (no d) =
          get_or-set_other now r q m 0 d
          ∙ held.becomes q (⊎_elim (λ j. j) (λ j. absurd (d (in_one j))) (in_either done i)) g

      old : (q : ℕ) → (In q (done ++ (r ∷ [])) → Free (mark before q) → ⊥) → Dec (q ≡ r)
          → mark (set now r m) q ≡ mark before q
      old q n (yes e) = absurd (n (in_right done (at e)) (rw e was))
      old q n (no d) = get_or-set_other now r q m 0 d ∙ held.stays q (λ i g. n (in_left (r ∷ []) i) g)
  held_more (no f) = record {
    same_many = rw (takes.left f) held.same_many;
    becomes = λ q i g. rw (takes.left f) (new q (in_either done i) g);
    stays = λ q n. rw (takes.left f) (held.stays q (λ i g. n (in_left (r ∷ []) i) g));
  }
    where
      again : (q : ℕ) → q ≡ r → Free (mark before q) → Dec (In q done) → mark now q ≡ m
      again q e g (yes i) = held.becomes q i g
      again q e g (no n) = absurd (f (rw e at (held.stays q (λ i h. n i) ∙ g)))

      new : (q : ℕ) → In q done ⊎ In q (r ∷ []) → Free (mark before q) → mark now q ≡ m
      new q (inl i) g = held.becomes q i g
      new q (inr i) g = again q (in_one i) g (in? q done)

  pub held_step : Held (done ++ (r ∷ [])) m before next
  held_step = held_more (ℕ_discrete (mark now r) 0)

-- Two climbs, one after the other
pub held_both : {ups downs : List ℕ} {m : ℕ} {before mid after : List ℕ} → m ≢ 0 → Held ups m before mid
    → Held downs m mid after → Held (ups ++ downs) m before after
held_both {ups} {downs} {m} {before} {mid} {after} some h k = record {
  same_many = k.same_many ∙ h.same_many;
  becomes = λ r i f. new r f (in? r ups) (in_either ups i);
  stays = λ r n. old r n;
}
  where
    kept : (r : ℕ) → mark mid r ≡ m → mark after r ≡ m
    kept r e = k.stays r (λ i f. some (sym e ∙ f)) ∙ e

    new : (r : ℕ) → Free (mark before r) → Dec (In r ups) → In r ups ⊎ In r downs → mark after r ≡ m
    new r f (yes i) s = kept r (h.becomes r i f)
    new r f (no n) (inl i) = absurd (n i)
    new r f (no n) (inr i) = k.becomes r i (h.stays r (λ j g. n j) ∙ f)

    old : (r : ℕ) → (In r (ups ++ downs) → Free (mark before r) → ⊥) → mark after r ≡ mark before r
    old r n =
        let e : mark mid r ≡ mark before r = h.stays r (λ i f. n (in_left downs i) f) in
        k.stays r (λ i f. n (in_right ups i) (sym e ∙ f)) ∙ e

-- How many are free
pub record FreeIn (before rs : List ℕ) (r : ℕ) : Type 0 where
  pub on : In r rs
  pub free : Free (mark before r)

pub frees_count : (before rs : List ℕ) → Distinct rs → Count (FreeIn before rs) (Frees before rs)
unfolding one_free
frees_count before [] d = count_none (λ r h. not_nil h.on)
frees_count before (r ∷ rs) d = pick (mark before r) refl (frees_count before rs d.1)
  where
    tail : (q : ℕ) → FreeIn before (r ∷ rs) q → (q ≡ r) ⊎ FreeIn before rs q
    tail q h = cases h.on
      where
        cases : In q (r ∷ rs) → (q ≡ r) ⊎ FreeIn before rs q
        cases (at e) = inl e
        cases (past i) = inr (record { on = i; free = h.free })

    wider : (q : ℕ) → FreeIn before rs q → FreeIn before (r ∷ rs) q
    wider q h = record { on = past h.on; free = h.free }

    pick : (m : ℕ) → mark before r ≡ m → Count (FreeIn before rs) (Frees before rs)
        → Count (FreeIn before (r ∷ rs)) (one_free (mark before r) + Frees before rs)
    pick zero e c =
        rw e
        (count_add {P = λ q. q ≡ r} (count_one r refl (λ y h. h)) c (λ q h j. d.0 (rw h at j.on)) tail
        (λ q h. record { on = at h; free = rw h e }) wider)
    pick (suc m) e c =
        rw e
        (count_same {P = FreeIn before rs} wider
        (λ q h. ⊎_elim (λ j. absurd (omega (arith, h.free, ap (mark before) j))) (λ j. j) (tail q h)) (rw zero-add c))
