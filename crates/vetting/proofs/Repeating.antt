-- One pass over the list for a block: the set has the pairs of the block that the rows so far name, each row's own, so
-- a row whose pair is in the set before it repeats an earlier one, and no other does.
use Prim.Native.Nat.{ℕ, ◌+◌, ◌≤◌, ◌<◌}
use mathlib.Core.Path.{◌≡◌, refl, sym, ◌∙◌}
use mathlib.Core.Bool.{Bool, true, false, true≢false}
use mathlib.Core.List.{List}
use native.Mathlib.Omega.{arith}
use native.Mathlib.Decide.{ℕ_discrete}
use Rattle.arrays.specs.work.Filled.{Filled}
use Rattle.vetting.specs.work.Bits.{Has, PutIn}
use Rattle.vetting.specs.work.Lines.{InBlock, Slot, Admitted}
use Rattle.vetting.specs.work.Repeats.{low_of, high_of, Named, NamePairs, Unrepeated, Repeats}
use Rattle.vetting.proofs.BitLaws.{has_none}
use Rattle.vetting.proofs.LineLaws.{in_block, slot_one, slot_only}

pub passing_start : {s : List ℕ} {n from end : ℕ} {bits : List ℕ} → Filled 16384 0 bits → Unrepeated s n from end 0 bits
passing_start f = record {
  long = f.long;
  fresh = λ k h. absurd (omega arith);
  has = λ k h. absurd (omega arith);
  only = λ p h. absurd (has_none f h);
}

told : {old now : List ℕ} {p : ℕ} {y z : Bool} → y ≡ z → PutIn old p y now → PutIn old p z now
told e w = rw (← e) w

module _ {s : List ℕ} {n from end r i : ℕ} {bits : List ℕ} (N : NamePairs s n r) (l : i < r)
    (U : Unrepeated s n from end i bits) where
  -- the rows of one bit name one pair
  named_by : (k j : ℕ) {p : ℕ} → k < r → j < r → Slot n from (low_of s k) (high_of s k) p
      → Slot n from (low_of s j) (high_of s j) p → (low_of s k ≡ low_of s j) × (high_of s k ≡ high_of s j)
  named_by k j a b x y = slot_one (N.pair k a) (N.node k a) (N.pair j b) (N.node j b) x y

  -- a row that is none of the block's
  skipped : ¬ InBlock n from end (low_of s i) → Unrepeated s n from end (i + 1) bits
  skipped o = record {
    long = U.long;
    fresh = λ k h b. fresh k h b (ℕ_discrete k i);
    has = λ k h b p x. has k h b p x (ℕ_discrete k i);
    only = λ p h. let v = U.only p h in (v.0, omega (arith, v.1), v.2, v.3);
  }
    where
      fresh : (k : ℕ) → k < i + 1 → InBlock n from end (low_of s k) → Dec (k ≡ i) → ¬ Named s k (low_of s k)
          (high_of s k)
      fresh k h b (yes e) = absurd (o (rw e at b))
      fresh k h b (no e) = U.fresh k (omega arith) b

      has : (k : ℕ) → k < i + 1 → InBlock n from end (low_of s k) → (p : ℕ)
          → Slot n from (low_of s k) (high_of s k) p → Dec (k ≡ i) → Has bits p
      has k h b p x (yes e) = absurd (o (rw e at b))
      has k h b p x (no e) = U.has k (omega arith) b p x

  module _ (b : InBlock n from end (low_of s i)) {p : ℕ} (x : Slot n from (low_of s i) (high_of s i) p)
      {now : List ℕ} where
    -- its pair is new
    put : PutIn bits p true now → Unrepeated s n from end (i + 1) now
    put w = record {
      long = w.long ∙ U.long;
      fresh = λ k h c. fresh k h c (ℕ_discrete k i);
      has = λ k h c q y. has k h c q y (ℕ_discrete k i);
      only = λ q h. only q h (ℕ_discrete q p);
    }
      where
        -- an earlier row of the same pair would have put it in
        earlier : ¬ Named s i (low_of s i) (high_of s i)
        earlier m = w.new refl (U.has m.place m.within (rw m.first b) p (rw (m.first, m.second) x))

        fresh : (k : ℕ) → k < i + 1 → InBlock n from end (low_of s k) → Dec (k ≡ i)
            → ¬ Named s k (low_of s k) (high_of s k)
        fresh k h c (yes e) = rw e earlier
        fresh k h c (no e) = U.fresh k (omega arith) c

        has : (k : ℕ) → k < i + 1 → InBlock n from end (low_of s k) → (q : ℕ)
            → Slot n from (low_of s k) (high_of s k) q → Dec (k ≡ i) → Has now q
        has k h c q y (yes e) = rw (slot_only (rw e at y) x) (w.here refl)
        has k h c q y (no e) = w.keeps q (U.has k (omega arith) c q y)

        only : (q : ℕ) → Has now q → Dec (q ≡ p)
            → (k : ℕ) × (k < i + 1) × InBlock n from end (low_of s k) × Slot n from (low_of s k) (high_of s k) q
        only q h (yes e) = (i, omega arith, b, rw e x)
        only q h (no e) = let v = U.only q (w.only q e h) in (v.0, omega (arith, v.1), v.2, v.3)

    -- its pair is there
    found : PutIn bits p false now → Named s i (low_of s i) (high_of s i)
    found w =
        let v = U.only p (w.twice refl) in
        let e = named_by v.0 i (omega (arith, v.1)) l v.3 x in
        record { place = v.0; within = v.1; first = e.0; second = e.1 }

    -- and the set is as it was
    kept : PutIn bits p false now → Unrepeated s n from end i now
    kept w = record {
      long = w.long ∙ U.long;
      fresh = U.fresh;
      has = λ k h c q y. w.keeps q (U.has k h c q y);
      only = λ q h. only q h (ℕ_discrete q p);
    }
      where
        only : (q : ℕ) → Has now q → Dec (q ≡ p)
            → (k : ℕ) × (k < i) × InBlock n from end (low_of s k) × Slot n from (low_of s k) (high_of s k) q
        only q h (yes e) = rw e (U.only p (w.twice refl))
        only q h (no e) = U.only q (w.only q e h)

  -- the pair of row i admitted: the pass goes on, or has found the first repeat
  module _ {a b : ℕ} {y : Bool} {now : List ℕ} (ea : a ≡ low_of s i) (eb : b ≡ high_of s i)
      (A : Admitted n from end a b bits y now) where
    admitted : Admitted n from end (low_of s i) (high_of s i) bits y now
    admitted = rw (← ea, ← eb) A

    node : low_of s i < n
    node = omega (arith, N.pair i l, N.node i l)

    pub passing_next : y ≡ true → Unrepeated s n from end (i + 1) now
    passing_next e = pick (in_block {from = from} {end = end} node)
      where
        pick : Dec (InBlock n from end (low_of s i)) → Unrepeated s n from end (i + 1) now
        pick (yes k) = let v = admitted.inside k in put k v.1 (told e v.2)
        pick (no k) = rw (admitted.outside k).1 (skipped k)

    pub passing_found : y ≡ false → Repeats s n from end r i now
    passing_found e = pick (in_block {from = from} {end = end} node)
      where
        pick : Dec (InBlock n from end (low_of s i)) → Repeats s n from end r i now
        pick (yes k) =
            let v = admitted.inside k in
            let w = told e v.2 in
            record { within = omega arith; seen = kept k v.1 w; again = λ _. found k v.1 w }
        pick (no k) = absurd (true≢false (sym (admitted.outside k).0 ∙ e))

pub passing_end : {s : List ℕ} {n from end r i : ℕ} {bits : List ℕ} → i ≤ r → r ≤ i → Unrepeated s n from end i bits
    → Repeats s n from end r r bits
passing_end {r = r} {i = i} h k U =
    let e : i ≡ r = omega arith in
    record { within = omega arith; seen = rw e at U; again = λ l. absurd (omega arith) }
