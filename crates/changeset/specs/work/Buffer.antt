-- The changed table in a lent buffer: bytes put, the entries put over the table or, where there is one for
-- every row, in its place, and what writing the changed table gives.
use Rattle.std.specs.Prelude.{
  ◌≡◌,
  Bool,
  true,
  List,
  ℕ,
  ◌+◌,
  ◌-◌,
  ◌*◌,
  ◌≤◌,
  ◌<◌,
  length,
  get_or,
  take,
  Result,
  Ok,
  Err,
}
use Rattle.table.specs.declared.Refusal.{Refusal}
use Rattle.limits.specs.work.Fits.{Decides}
use Rattle.changeset.specs.Entries.{RowsRise}
use Rattle.changeset.specs.Changed.{WrittenIn}
use Rattle.changeset.specs.With.{With}
use Rattle.changeset.specs.work.Search.{EntryCount}

-- the k bytes of c from place `from` on stand from place `at` on, and all before and after is as it was
pub record BytesPut (k : ℕ) (c : List ℕ) (from : ℕ) (old : List ℕ) (at : ℕ) (new : List ℕ) : Type 0 where
  pub long : length new ≡ length old
  pub there : (j : ℕ) → j < k → get_or new (at + j) 0 ≡ get_or c (from + j) 0
  pub before : (i : ℕ) → i < at → get_or new i 0 ≡ get_or old i 0
  pub after : (i : ℕ) → at + k ≤ i → get_or new i 0 ≡ get_or old i 0

-- a table of n nodes, as long as its header says, and a buffer that it goes into
pub record BufferLent (s : List ℕ) (n : ℕ) (out : List ℕ) : Type 0 where
  pub some : 1 ≤ n
  pub few : n ≤ 4096
  pub size : length s ≡ 12 * n
  pub room : length s ≤ length out

-- a set with an entry for every row of the table, if its row numbers rise; the table has one row or more
pub record RowsEach (c : List ℕ) (n : ℕ) : Type 0 where
  pub counted : EntryCount c (n - 1)
  pub some : 2 ≤ n

-- r is 0 exactly if `off` is and x is i
pub record Apart (off x i r : ℕ) : Type 0 where
  pub same : r ≡ 0 → (off ≡ 0) × (x ≡ i)
  pub none : off ≡ 0 → x ≡ i → r ≡ 0

-- whether the rows rise; and if they do, the buffer begins with the changed table
pub record EntriesPut (s c : List ℕ) (n : ℕ) (out : List ℕ) (q : Bool) : Type 0 where
  pub rising : Decides (RowsRise n c) q
  pub changed : q ≡ true → WrittenIn s c (take (length s) out)

-- the changed table is written, or why not
abbrev pub Writing : Type 0
Writing = Result (Unit {0}) Refusal

abbrev pub writing_refusal : ℕ → ℕ → ℕ → Writing
writing_refusal k r g = Err (record { number = k; row = r })

-- nothing is refused, and the buffer begins with the table t
pub record BeginsWith (s out t : List ℕ) (o : Writing) : Type 0 where
  pub none : o ≡ Ok tt
  pub bytes : take (length s) out ≡ t

-- 1 to 6, 33 or 34; or the buffer begins with the changed table
abbrev pub WritesIn : List ℕ → List ℕ → List ℕ → Writing → Type 0
WritesIn s c out = With Writing writing_refusal s c (BeginsWith s out)
