-- What a table that passed has, for this crate and those above: an opened header's facts, an accepted table's facts,
-- and how an operation that begins with `examine` goes on where nothing is refused.
use mathlib.Core.Path.{◌≡◌, refl, sym, ap, ◌∙◌}
use mathlib.Core.List.{List}
use mathlib.Core.Logic.{◌⊎◌, inl, inr}
use Prim.Native.Nat.{ℕ, ◌+◌, ◌-◌, ◌*◌, ◌≤◌, ◌<◌}
use native.Mathlib.Omega.{arith}
use lib.ListN.{length}
use Rattle.table.specs.Bytes.{byte_at}
use Rattle.table.specs.Refuse.{refused, passed, fine, Only}
use Rattle.table.specs.Signed.{InRange}
use Rattle.table.specs.Header.{Header, Lettered, version_of, nodes_of, bound_of}
use Rattle.table.specs.Row.{row_at, kind_at, count_at, Stands}
use Rattle.table.specs.Examine.{RowNumber, RowsTested, Tested}
use Rattle.table.specs.Opens.{Opening, opening, opening_refusal, Opens, Examines}
use Rattle.table.specs.declared.Row.{Row}
use Rattle.table.specs.declared.Refusal.{Refusal}
use Rattle.std.specs.Prelude.{Ok, Err}
use Rattle.table.proofs.Weights.{weight_good}
use Rattle.table.proofs.Refusals.{
  past,
  past_rows,
  settled,
  settled_rows,
  unless_only,
  unless_map,
  first_bad_map,
  by_unless,
  by_rows,
}

-- what a header that is not refused has
pub record Headed (s : List ℕ) : Type 0 where
  pub long : 12 ≤ length s
  pub letters : Lettered s
  pub version : (version_of s ≡ 1) ⊎ (version_of s ≡ 2)
  pub some : 1 ≤ nodes_of s
  pub few : nodes_of s ≤ 4096
  pub reserved : byte_at s 7 ≡ 0
  pub size : length s ≡ 12 * nodes_of s

-- what a row that is not refused has, whichever version gave its weight
pub record Good (n : ℕ) (q : Row) : Type 0 where
  pub first : q.a < n
  pub second : q.b < n
  pub apart : q.a ≡ q.b → ⊥
  pub long : q.length ≤ 1000000
  pub weight_within : InRange q.weight

-- the numbers that a table's own tests give: 1 to 10, 22, 23, and 0 where they refuse nothing
abbrev pub Own : ℕ → Type 0
Own k = (k ≤ 10) ⊎ ((22 ≤ k) × (k ≤ 23))

-- what an accepted table has: its rows stand and are good
pub record Accepted (s : List ℕ) (n b : ℕ) : Type 0 where
  pub headed : Headed s
  pub nodes : n ≡ nodes_of s
  pub bound : b ≡ bound_of s
  pub stands : (r : ℕ) → r + 1 < n → Stands s r
  pub rows : (r : ℕ) → r + 1 < n → Good n (row_at s r)

module _ {A : Type 0} (refuse : ℕ → ℕ → A) {s : List ℕ} {rest : A → Type 0} {x : A} where
  pub past_header : Headed s → rest x → Header A refuse s rest x
  past_header h r =
      passed h.long
      (passed h.letters
      (passed h.version (passed (h.some, h.few) (passed h.reserved (passed h.size r)))))

  -- an outcome that is none of these refusals comes of a good header
  pub header_past : ((k r : ℕ) → (k ≡ 0 → ⊥) → Own k → refuse k r ≡ x → ⊥) → Header A refuse s rest x
      → Headed s × rest x
  header_past n p =
      let a = past (n 1 0 (λ e. omega arith) (inl (omega arith))) p in
      let b = past (n 2 0 (λ e. omega arith) (inl (omega arith))) a.1 in
      let c = past (n 3 0 (λ e. omega arith) (inl (omega arith))) b.1 in
      let d = past (n 4 0 (λ e. omega arith) (inl (omega arith))) c.1 in
      let e = past (n 5 0 (λ e. omega arith) (inl (omega arith))) d.1 in
      let f = past (n 6 0 (λ e. omega arith) (inl (omega arith))) e.1 in (
        record {
          long = a.0;
          letters = b.0;
          version = c.0;
          some = d.0.0;
          few = d.0.1;
          reserved = e.0;
          size = f.0;
        },
        f.1,
      )

  -- a good header refuses nothing
  pub header_rest : Headed s → Header A refuse s rest x → rest x
  header_rest h p =
      settled h.size
      (settled h.reserved
      (settled (h.some, h.few) (settled h.version (settled h.letters (settled h.long p)))))

-- a refusal of the header stays one in another type of outcome, whatever follows a good header there
pub header_map : {A B : Type 0} (f : A → B) (refuse : ℕ → ℕ → A) (s : List ℕ) {rest : A → Type 0}
    {rest' : B → Type 0} {x : A} → (Headed s → rest x → rest' (f x)) → Header A refuse s rest x
    → Header B (λ k r. f (refuse k r)) s rest' (f x)
header_map f refuse s g p =
    unless_map f
    (λ a. unless_map f
    (λ b. unless_map f
    (λ c. unless_map f
    (λ d. unless_map f
    (λ e. unless_map f
    (λ h. g
    (record { long = a; letters = b; version = c; some = d.0; few = d.1; reserved = e; size = h })))))))
    p

-- a table whose header and rows are good: 1 to 10, 22 and 23 refuse nothing
abbrev pub GoodTable : List ℕ → Type 0
GoodTable s = Examines s (opening (nodes_of s) (bound_of s))

abbrev pub GoodRows : List ℕ → Type 0
GoodRows s = (r : ℕ) → r < nodes_of s - 1 → RowNumber (nodes_of s) s r 0

pub good_table : {s : List ℕ} → Headed s → GoodRows s → GoodTable s
good_table h rows = past_header opening_refusal h (fine rows refl)

row_own : (n : ℕ) (s : List ℕ) (r k : ℕ) → RowNumber n s r k → Own k
row_own n s r k (refused c) = inl (omega arith)
row_own n s r k (passed _ (refused c)) = inl (omega arith)
row_own n s r k (passed _ (passed _ (refused c))) = inl (omega arith)
row_own n s r k (passed _ (passed _ (passed _ (refused c)))) = inl (omega arith)
row_own n s r k (passed _ (passed _ (passed _ (passed _ (refused c))))) = inr (omega arith, omega arith)
row_own n s r k (passed _ (passed _ (passed _ (passed _ (passed _ (refused c)))))) = inr (omega arith, omega arith)
row_own n s r k (passed _ (passed _ (passed _ (passed _ (passed _ (passed _ e)))))) = inl (omega arith)

module _ {A : Type 0} (refuse : ℕ → ℕ → A) (s : List ℕ) {rest : A → Type 0} {x : A} where
  both_good : ((k r : ℕ) → (k ≡ 0 → ⊥) → Own k → refuse k r ≡ x → ⊥) → Tested A refuse s rest x
      → Headed s × GoodRows s × rest x
  both_good n p =
      let h = header_past refuse {s = s} n p in
      let q = past_rows (λ k r z is. n k r z (row_own (nodes_of s) s r k is)) h.1 in
      (h.0, q.0, q.1)

  -- an outcome that is none of these refusals comes of a good table
  pub tested_past : ((k r : ℕ) → (k ≡ 0 → ⊥) → Own k → refuse k r ≡ x → ⊥) → Tested A refuse s rest x
      → GoodTable s × rest x
  tested_past n p = let t = both_good n p in (good_table t.0 t.1, t.2)

pub tested_map : {A B : Type 0} (f : A → B) (refuse : ℕ → ℕ → A) (s : List ℕ) {rest : A → Type 0}
    {rest' : B → Type 0} {x : A} → (GoodTable s → rest x → rest' (f x)) → Tested A refuse s rest x
    → Tested B (λ k r. f (refuse k r)) s rest' (f x)
tested_map f refuse s g p =
    header_map f refuse s (λ h. first_bad_map f (λ rows. g (good_table h rows))) p

-- what holds of each of a table's own refusals, whose row is below 4,096, and of what follows, holds of the outcome
pub by_tested : {A : Type 0} (C : A → Type 0) (refuse : ℕ → ℕ → A) (s : List ℕ) {rest : A → Type 0}
    → ((k r : ℕ) → r < 4096 → C (refuse k r)) → (nodes_of s ≤ 4096 → (x : A) → rest x → C x) → {x : A}
    → Tested A refuse s rest x → C x
by_tested C refuse s h f p =
    by_unless C (h 1 0 (omega arith))
    (λ _ _. by_unless C (h 2 0 (omega arith))
    (λ _ _. by_unless C (h 3 0 (omega arith))
    (λ _ _. by_unless C (h 4 0 (omega arith))
    (λ n _. by_unless C (h 5 0 (omega arith))
    (λ _ _. by_unless C (h 6 0 (omega arith))
    (λ _ _. by_rows C (λ k r l _. h k r (omega (arith, n.1))) (f n.1)))))))
    p

-- an opened table's two numbers, and that it is no refusal
abbrev nodes_in : Opening → ℕ
nodes_in (Ok o) = o.nodes
nodes_in (Err w) = 0

abbrev bound_in : Opening → ℕ
bound_in (Ok o) = o.bound
bound_in (Err w) = 0

pub nothing_found : {n b : ℕ} {w : Refusal} → Err w ≡ opening n b → ⊥
nothing_found e = omega (arith, ap taken e)
  where
    taken : Opening → ℕ
    taken (Ok o) = 1
    taken (Err w) = 0

unnumbered : {n b : ℕ} (k r : ℕ) → (k ≡ 0 → ⊥) → Own k → opening_refusal k r ≡ opening n b → ⊥
unnumbered k r _ _ e = nothing_found e

pub opened : (s : List ℕ) (n b : ℕ) → Opens s (opening n b)
    → Headed s × (n ≡ nodes_of s) × (b ≡ bound_of s)
opened s n b p =
    let h = header_past opening_refusal unnumbered p in
    (h.0, ap nodes_in h.1, ap bound_in h.1)

-- a refused opening is a refused examination, and an opened table is examined row by row
pub refused_stays : (s : List ℕ) (w : Refusal) → Opens s (Err w)
    → Examines s (Err w)
refused_stays s w p = header_map (λ o. o) opening_refusal s (λ h e. absurd (nothing_found e)) p

pub opened_goes : (s : List ℕ) (n b : ℕ) (o : Opening) → Opens s (opening n b)
    → RowsTested Opening opening_refusal s n (λ x. x ≡ opening n b) o → Examines s o
opened_goes s n b o p q = let h = opened s n b p in past_header opening_refusal {s = s} h.0 (rw (h.1, h.2) at q)

-- what a row numbered 0 has; and such a row is numbered 0, where its kind and count are good too if it is of version 2
pub good : (n : ℕ) (s : List ℕ) (r : ℕ) → RowNumber n s r 0 → Good n (row_at s r)
good n s r p =
    let a = past (λ e. omega (arith, e)) p in
    let b = past (λ e. omega (arith, e)) a.1 in
    let c = past (λ e. omega (arith, e)) b.1 in
    let d = past (λ e. omega (arith, e)) c.1 in
    let e = past (λ e. omega (arith, e)) d.1 in
    let f = past (λ e. omega (arith, e)) e.1 in
    record {
      first = a.0.0;
      second = a.0.1;
      apart = b.0;
      long = c.0;
      weight_within = weight_good s r d.0 f.0;
    }

pub good_number : (n : ℕ) (s : List ℕ) (r : ℕ) → Good n (row_at s r)
    → (version_of s ≡ 2 → (kind_at s r < 64) × (count_at s r ≤ 20000)) → RowNumber n s r 0
good_number n s r g k =
    passed (g.first, g.second)
    (passed g.apart
    (passed g.long (passed (λ _. g.weight_within) (passed (λ e. (k e).0) (passed (λ e. (k e).1) refl)))))

pub accepted : (s : List ℕ) (n b : ℕ) → Examines s (opening n b) → Accepted s n b
accepted s n b p =
    let t = both_good opening_refusal s unnumbered p in
    let e : n ≡ nodes_of s = ap nodes_in t.2 in
    record {
      headed = t.0;
      nodes = e;
      bound = ap bound_in t.2;
      stands = λ r l. omega (arith, t.0.size);
      rows = λ r l. rw e (good (nodes_of s) s r (t.1 r (omega arith)));
    }

-- how an operation that begins with `examine` goes on where nothing is refused
pub passed_on : {A : Type 0} (refuse : ℕ → ℕ → A) {rest : A → Type 0} (s : List ℕ) (n b : ℕ) {x : A}
    → Examines s (opening n b) → rest x → Tested A refuse s rest x
passed_on refuse s n b p r =
    let t = both_good opening_refusal s unnumbered p in
    past_header refuse t.0 (fine t.1 r)

pub row_number_only : (n : ℕ) (s : List ℕ) (r : ℕ) → Only (RowNumber n s r)
row_number_only n s r =
    unless_only (unless_only (unless_only (unless_only (unless_only (unless_only (λ x y p q. p ∙ sym q))))))

-- of a good table an outcome is as the rest says
pub tested_rest : {A : Type 0} (refuse : ℕ → ℕ → A) (s : List ℕ) {rest : A → Type 0} {x : A} → GoodTable s
    → Tested A refuse s rest x → rest x
tested_rest refuse s g p =
    let t = both_good opening_refusal s unnumbered g in
    settled_rows (row_number_only (nodes_of s) s) t.1 (header_rest refuse t.0 p)

-- how a function that begins with `open_table` hands a refusal on
pub refused_header : {A : Type 0} (refuse : ℕ → ℕ → A) {rest : A → Type 0} (s : List ℕ) (w : Refusal)
    → Opens s (Err w) → Header A refuse s rest (refuse w.number w.row)
refused_header {A} refuse s w p = header_map handed opening_refusal s (λ h e. absurd (nothing_found e)) p
  where
    handed : Opening → A
    handed (Ok o) = refuse 0 0
    handed (Err v) = refuse v.number v.row
