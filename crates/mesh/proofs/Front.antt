-- The front of the operation: what the header's test gives for the answer's promise, that the rows it counts stand in
-- the table, and what the test of the rows, each by itself and then pair by pair, gives.
use Prim.Native.Nat.{ℕ, ◌+◌, ◌*◌, ◌≤◌, ◌<◌}
use mathlib.Core.Path.{◌≡◌, refl}
use mathlib.Core.Logic.{◌≢◌}
use mathlib.Core.List.{List}
use native.Mathlib.Omega.{arith}
use lib.ListN.{length}
use Rattle.table.specs.Refuse.{refused, passed, bad, fine}
use Rattle.table.specs.Bytes.{byte_at}
use Rattle.table.specs.Header.{Lettered, version_of, nodes_of}
use Rattle.table.specs.Row.{Stands, row_at}
use Rattle.table.specs.Examine.{RowNumber}
use Rattle.table.proofs.Refusals.{past, unless_map}
use Rattle.net.specs.Net.{first_end, second_end}
use Rattle.mesh.specs.Table.{rows_of, MeshHeader, MeshRows}
use Rattle.mesh.specs.Answer.{MeshAnswer, mesh_refusal, MeshJoined, Answered, MeshOf}
use Rattle.mesh.specs.work.Head.{good_head, HeadTold}
use Rattle.mesh.specs.declared.header.Head.{Head}
use Rattle.std.specs.Prelude.{Result, Ok, Err}
use Rattle.mesh.specs.work.Rows.{EndsApart, MeshReadable, FirstBadRow}
use Rattle.mesh.specs.work.Repeat.{FirstRepeat}
use Rattle.mesh.specs.work.Bands.{NoRepeat}

-- what a header that is not refused has
pub record Headed (s : List ℕ) : Type 0 where
  pub long : 12 ≤ length s
  pub letters : Lettered s
  pub version : version_of s ≡ 3
  pub some : 1 ≤ nodes_of s
  pub few : nodes_of s ≤ 256
  pub reserved : byte_at s 7 ≡ 0
  pub size : length s ≡ 12 + 12 * rows_of s

-- its rows stand
pub headed_stands : {s : List ℕ} → Headed s → (r : ℕ) → r < rows_of s → Stands s r
headed_stands h r l = omega (arith, h.size)

module _ {A : Type 0} (refuse : ℕ → ℕ → A) {s : List ℕ} {rest : A → Type 0} {x : A} where
  pub past_header : Headed s → rest x → MeshHeader A refuse s rest x
  past_header h r =
      passed h.long
      (passed h.letters
      (passed h.version (passed (h.some, h.few) (passed h.reserved (passed h.size r)))))

  -- an outcome that is none of these refusals comes of a good header
  pub header_past : ((k : ℕ) → k ≢ 0 → refuse k 0 ≡ x → ⊥) → MeshHeader A refuse s rest x → Headed s × rest x
  header_past n p =
      let a = past (n 1 (λ e. omega arith)) p in
      let b = past (n 2 (λ e. omega arith)) a.1 in
      let c = past (n 3 (λ e. omega arith)) b.1 in
      let d = past (n 4 (λ e. omega arith)) c.1 in
      let e = past (n 5 (λ e. omega arith)) d.1 in
      let f = past (n 6 (λ e. omega arith)) e.1 in (
        record {
          long = a.0;
          letters = b.0;
          version = c.0;
          some = d.0.0;
          few = d.0.1;
          reserved = e.0;
          size = f.0;
        },
        f.1,
      )

-- a refusal of the header stays one in another type of outcome, whatever follows a good header there
pub header_map : {A B : Type 0} (f : A → B) (refuse : ℕ → ℕ → A) (s : List ℕ) {rest : A → Type 0}
    {rest' : B → Type 0} {x : A} → (rest x → rest' (f x)) → MeshHeader A refuse s rest x
    → MeshHeader B (λ k r. f (refuse k r)) s rest' (f x)
header_map f refuse s g p =
    unless_map f
    (λ a. unless_map f (λ b. unless_map f (λ c. unless_map f (λ d. unless_map f (λ e. unless_map f (λ h. g))))))
    p

-- the answer that a header's refusal becomes
head_answer : Result Head ℕ → MeshAnswer
head_answer (Err k) = mesh_refusal k 0
head_answer (Ok h) = mesh_refusal 0 0

-- as the header's test tells it
module _ (s : List ℕ) where
  pub head_refused : {k : ℕ} {rest : MeshAnswer → Type 0} → HeadTold s (Err k)
      → MeshHeader MeshAnswer mesh_refusal s rest (mesh_refusal k 0)
  unfolding head_answer
  head_refused p = header_map head_answer (λ k r. Err k) s (λ e. cc e) p

  pub head_good : {h : Head} → HeadTold s (Ok h) → Headed s × (h ≡ good_head (nodes_of s) (rows_of s))
  head_good p = let t = header_past (λ k r. Err k) (λ k n q. cc q) p in (t.0, cc t.1)

-- what follows is told of n and the number of rows as they were read
pub head_passed : {s : List ℕ} {n k : ℕ} {x : MeshAnswer} → Headed s → n ≡ nodes_of s → k ≡ rows_of s
    → MeshRows MeshAnswer mesh_refusal s n k (Answered (first_end s) (second_end s) k n) x → MeshOf s x
head_passed h e f p = past_header mesh_refusal h (rw (e, f) at p)

-- rows that are good by themselves have two different nodes as their ends
row_first : (n : ℕ) (s : List ℕ) (r : ℕ) → RowNumber n s r 0 → ((row_at s r).a < n) × ((row_at s r).b < n)
row_first n s r p = (past (λ e. omega arith) p).0

row_apart : (n : ℕ) (s : List ℕ) (r : ℕ) → RowNumber n s r 0 → (row_at s r).a ≢ (row_at s r).b
row_apart n s r p = (past (λ e. omega arith) (past (λ e. omega arith) p).1).0

pub good_rows : (s : List ℕ) (n k : ℕ) → ((i : ℕ) → i < k → RowNumber n s i 0)
    → EndsApart (first_end s) (second_end s) k n
unfolding first_end second_end
good_rows s n k g = record {
  first = λ r l. (row_first n s r (g r l)).0;
  second = λ r l. (row_first n s r (g r l)).1;
  apart = λ r l. row_apart n s r (g r l);
}

module _ (s : List ℕ) {n k : ℕ} where
  pub row_refused : {number row : ℕ} {rest : MeshAnswer → Type 0} → FirstBadRow s n k number row
      → MeshRows MeshAnswer mesh_refusal s n k rest (mesh_refusal number row)
  row_refused {number} {row} t = bad row number t.within t.before t.here t.bad

  module _ (good : (i : ℕ) → i < k → RowNumber n s i 0) where
    pub rows_passed : {rest : MeshAnswer → Type 0} {x : MeshAnswer} → rest x
        → MeshRows MeshAnswer mesh_refusal s n k rest x
    rows_passed p = fine good p

    -- fit to be read
    pub rows_readable : ((r : ℕ) → r < k → Stands s r) → n ≤ 256 → MeshReadable s k n
    rows_readable h f = record { stands = h; rows = good_rows s n k good; few = f }

module _ {u v : ℕ → ℕ} {k : ℕ} where
  pub repeat_refused : {n r : ℕ} → FirstRepeat u v k r → Answered u v k n (mesh_refusal 36 r)
  repeat_refused {r = r} f =
      bad r 36 f.within (λ i h. passed (f.before i h) refl) (refused (λ m. m f.here)) (λ e. omega arith)

  pub repeat_passed : {n : ℕ} {x : MeshAnswer} → NoRepeat u v k → MeshJoined u v k n x → Answered u v k n x
  repeat_passed new j = fine (λ i h. passed (new i h) refl) j
