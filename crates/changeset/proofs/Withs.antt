-- An operation with a change set, of any promise: it allows one outcome where the operation's own does; where nothing
-- is refused an outcome is what the operation's promise allows of the changed table, both ways; a set of 6 bytes
-- changes nothing; what holds of every refusal and of the operation's outcomes holds of every outcome; and how an
-- operation that begins with `write_in` hands a refusal on, and goes on.
use Prim.Native.Nat.{ℕ, ◌≤◌}
use mathlib.Core.Path.{◌≡◌, refl, sym, ap, ◌∙◌}
use mathlib.Core.List.{List}
use mathlib.Core.Bool.{true, false}
use native.Mathlib.Omega.{arith}
use lib.ListN.{length, take}
use Rattle.std.specs.Prelude.{Ok, Err}
use Rattle.table.specs.Refuse.{Unless, refused, passed, Only}
use Rattle.table.specs.Header.{Header, nodes_of}
use Rattle.table.specs.Opens.{Opens, opening}
use Rattle.table.specs.declared.Refusal.{Refusal}
use Rattle.table.proofs.Refusals.{past, settled, unless_only, unless_map, by_unless}
use Rattle.table.proofs.Accepted.{Headed, past_header, header_past, header_rest, header_map, opened}
use Rattle.table.proofs.Only.{header_only}
use Rattle.changeset.specs.Entries.{Formed, RowsRise}
use Rattle.changeset.specs.Changed.{WrittenIn}
use Rattle.changeset.specs.With.{Over, With}
use Rattle.changeset.specs.work.Buffer.{BufferLent, EntriesPut, BeginsWith, Writing, writing_refusal, WritesIn}
use Rattle.changeset.proofs.Changed.{changed_only, changes_none}

none_rise : (n : ℕ) (c : List ℕ) → length c ≡ 6 → RowsRise n c
none_rise n c six = record { rise = λ i j a b. absurd (omega arith); below = λ i a. absurd (omega arith) }

module _ {A : Type 0} (refuse : ℕ → ℕ → ℕ → A) (s c : List ℕ) {Promise : List ℕ → A → Type 0} where
  -- ONE OUTCOME, where the operation's own promise allows one
  pub with_only : ((t : List ℕ) → Only (Promise t)) → Only (With A refuse s c Promise)
  with_only one x y p q =
      header_only (λ k r. refuse k r 0) s {rest = λ z. Headed s × after z}
      (λ a b j k. unless_only (unless_only (over_only j.0)) a b j.1 k.1)
      x y (header_map (λ z. z) (λ k r. refuse k r 0) s (λ h r. (h, r)) p)
      (header_map (λ z. z) (λ k r. refuse k r 0) s (λ h r. (h, r)) q)
    where
      -- 33 and 34, and then the promise
      after : A → Type 0
      after = Unless A (refuse 33 0 0) (Formed c) (Unless A (refuse 34 0 0) (RowsRise (nodes_of s) c)
          (Over s c Promise))

      over_only : Headed s → Only (Over s c Promise)
      over_only h a b j k =
          one k.table a b
          (rw (changed_only s c j.table k.table h j.changed k.changed) at j.promise)
          k.promise

  with_over : {x : A} → Headed s → Formed c → RowsRise (nodes_of s) c → Over s c Promise x → With A refuse s c Promise x
  with_over h f g o = past_header (λ k r. refuse k r 0) {s = s} h (passed f (passed g o))

  -- an outcome that is no refusal comes of a good header and a good set
  pub with_past : {x : A} → ((k r g : ℕ) → (k ≡ 0 → ⊥) → refuse k r g ≡ x → ⊥) → With A refuse s c Promise x
      → Headed s × Formed c × RowsRise (nodes_of s) c × Over s c Promise x
  with_past plain p =
      let h = header_past (λ k r. refuse k r 0) {s = s} (λ k r n _. plain k r 0 n) p in
      let a = past (plain 33 0 0 (λ e. omega (arith, e))) h.1 in
      let b = past (plain 34 0 0 (λ e. omega (arith, e))) a.1 in
      (h.0, a.0, b.0, b.1)

  -- where nothing is refused, an outcome is what the operation's own promise allows of the changed table, both ways
  module _ (h : Headed s) (f : Formed c) (g : RowsRise (nodes_of s) c) (t : List ℕ) (d : WrittenIn s c t) {x : A} where
    pub with_there : Promise t x → With A refuse s c Promise x
    with_there p = with_over h f g (record { table = t; changed = d; promise = p })

    pub with_back : With A refuse s c Promise x → Promise t x
    with_back p =
        let o = settled g (settled f (header_rest (λ k r. refuse k r 0) {s = s} h p)) in
        rw (changed_only s c o.table t h o.changed d) at o.promise

  -- A SET OF 6 BYTES CHANGES NOTHING: 1 to 6 of the table, and then the promise of the table itself, both ways
  module _ (f : Formed c) (six : length c ≡ 6) {x : A} where
    pub with_none : With A refuse s c Promise x → Header A (λ k r. refuse k r 0) s (Promise s) x
    with_none p =
        header_map (λ z. z) (λ k r. refuse k r 0) s
        (λ h r.
        let o = settled (none_rise (nodes_of s) c six) (settled f r) in
        rw (changed_only s c o.table s h o.changed (changes_none s c (omega arith))) at o.promise)
        p

    pub none_with : Header A (λ k r. refuse k r 0) s (Promise s) x → With A refuse s c Promise x
    none_with p =
        header_map (λ z. z) (λ k r. refuse k r 0) s
        (λ h r. passed f
        (passed (none_rise (nodes_of s) c six)
        (record { table = s; changed = changes_none s c (omega arith); promise = r })))
        p

  -- what holds of each refusal that names no row, and of each outcome of the promise, holds of the outcome
  pub by_with : (C : A → Type 0) → ((k : ℕ) → C (refuse k 0 0)) → ((t : List ℕ) (x : A) → Promise t x → C x) → {x : A}
      → With A refuse s c Promise x → C x
  by_with C n f p =
      by_unless C (n 1)
      (λ _ _. by_unless C (n 2)
      (λ _ _. by_unless C (n 3)
      (λ _ _. by_unless C (n 4)
      (λ _ _. by_unless C (n 5)
      (λ _ _. by_unless C (n 6)
      (λ _ _. by_unless C (n 33)
      (λ _ _. by_unless C (n 34)
      (λ _ x o. f o.table x o.promise))))))))
      p

-- a promise that begins with 1 to 6 says them once: both ways
module _ {A : Type 0} (refuse : ℕ → ℕ → A) (s : List ℕ) {rest : A → Type 0} {x : A} where
  pub header_once : Header A refuse s (Header A refuse s rest) x → Header A refuse s rest x
  header_once p = header_map (λ z. z) refuse s (λ h r. header_rest refuse {s = s} h r) p

  pub header_twice : Header A refuse s rest x → Header A refuse s (Header A refuse s rest) x
  header_twice p = header_map (λ z. z) refuse s (λ h r. past_header refuse {s = s} h r) p

-- From what `write_in` gave to the operation's own outcome
module _ (s c out : List ℕ) where
  written : WritesIn s c out (Ok tt)
      → Headed s × Formed c × RowsRise (nodes_of s) c × Over s c (BeginsWith s out) (Ok tt)
  written p = with_past writing_refusal s c (λ k r g n e. grind (arith, e)) p

  -- the part that the operation is given lies in the buffer
  pub written_fits : WritesIn s c out (Ok tt) → length s ≤ 49152
  written_fits p = let h = (written p).0 in omega (arith, h.few, h.size)

  pub written_long : WritesIn s c out (Ok tt) → length s ≡ length (take (length s) out)
  written_long p = let o = (written p).3 in sym (ap length o.promise.bytes ∙ o.changed.size)

  module _ {A : Type 0} (refuse : ℕ → ℕ → ℕ → A) {Promise : List ℕ → A → Type 0} where
    pub refused_with : (w : Refusal) → WritesIn s c out (Err w) → With A refuse s c Promise (refuse w.number w.row 0)
    refused_with w p =
        header_map handed (λ k r. writing_refusal k r 0) s
        (λ h. unless_map handed
        (λ f. unless_map handed (λ g o. absurd (grind (arith, o.promise.none)))))
        p
      where
        handed : Writing → A
        handed (Ok done) = refuse 0 0 0
        handed (Err v) = refuse v.number v.row 0

    pub passed_with : {x : A} → WritesIn s c out (Ok tt) → Promise (take (length s) out) x → With A refuse s c Promise x
    passed_with p q =
        let h = written p in
        let o = h.3 in
        with_over refuse s c h.0 h.1 h.2
        (record { table = o.table; changed = o.changed; promise = rw o.promise.bytes at q })

-- `write_in` itself
module _ (s c : List ℕ) (n b : ℕ) (p : Opens s (opening n b)) (out : List ℕ) where
  pub opened_lent : 49152 ≤ length out → BufferLent s n out
  opened_lent room =
      let h = opened s n b p in
      record {
        some = omega (arith, h.0.some, h.1);
        few = omega (arith, h.0.few, h.1);
        size = omega (arith, h.0.size, h.1);
        room = omega (arith, room, h.0.size, h.0.few);
      }

  pub opened_33 : (Formed c → ⊥) → WritesIn s c out (writing_refusal 33 0 0)
  opened_33 f = past_header (λ k r. writing_refusal k r 0) {s = s} (opened s n b p).0 (refused f)

  module _ (f : Formed c) where
    pub opened_34 : EntriesPut s c n out false → WritesIn s c out (writing_refusal 34 0 0)
    opened_34 w =
        let h = opened s n b p in
        past_header (λ k r. writing_refusal k r 0) {s = s} h.0 (passed f (refused (rw h.1 at (w.rising.fails refl))))

    pub opened_all : EntriesPut s c n out true → WritesIn s c out (Ok tt)
    opened_all w =
        let h = opened s n b p in
        with_over writing_refusal s c h.0 f (rw h.1 at (w.rising.holds refl))
        (record {
          table = take (length s) out;
          changed = w.changed refl;
          promise = record { none = refl; bytes = refl };
        })

-- its answer is one; and what it leaves at the front of the buffer is (`changed_only`)
pub writes_in_only : (s c out : List ℕ) → Only (WritesIn s c out)
writes_in_only s c out = with_only writing_refusal s c (λ t x y p q. p.none ∙ sym q.none)
