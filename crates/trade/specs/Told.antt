-- What the program hands over to be written: of a reading the table, of a writing the two texts, each after a line with
-- its size; of a refusal its line.
use Rattle.std.specs.Prelude.{ℕ, ◌+◌, ◌≤◌, ◌≡◌, List, ◌++◌, length, take, Option, Ok, Err}
use Rattle.std.specs.Io.KnownBytes.{Appends}
use Rattle.streams.specs.Front.{HasWritten}
use Rattle.lines.specs.Lines.{refused_text, total_text}
use Rattle.dimacs.specs.Read.{ReadOf}
use Rattle.dimacs.specs.Write.{Wrote, WriteOf}
use Rattle.dimacs.specs.Read.{ReadAnswer}

-- the first n bytes, after a line with their number
abbrev pub sized : ℕ → List ℕ → List ℕ
sized n now = total_text n ++ take n now

abbrev pub read_told : ReadAnswer × List ℕ → List ℕ
read_told (Ok n, now) = sized n now
read_told (Err why, now) = refused_text why.number why.row why.ring

abbrev pub write_told : Wrote → List ℕ
write_told (Ok sizes, long, heavy) = sized sizes.lengths long ++ sized sizes.weights heavy
write_told (Err why, long, heavy) = refused_text why.number why.row why.ring

-- t tells the outcome of what is asked. Way 1 reads two texts into lent bytes, of which there are enough for the table
-- of any two texts of 1,048,576 bytes each (an arc takes 8 bytes of a text and 6 of the table), so that by counting 29
-- does not come up; way 2 writes the texts of a table into lent bytes, enough for those of any (8,190 arcs of 21 bytes
-- at most)
pub data Tells (way : ℕ) (first second : List ℕ) (bound : ℕ) : List ℕ → Type 0 where
  reads : {lent : List ℕ} {o : ReadAnswer × List ℕ} → way ≡ 1 → 786448 ≤ length lent
      → ReadOf first second bound lent o → Tells way first second bound (read_told o)
  writes : {lengths weights : List ℕ} {o : Wrote} → way ≡ 2 → 180000 ≤ length lengths → 180000 ≤ length weights
      → WriteOf first lengths weights o → Tells way first second bound (write_told o)

-- what was handed over, in two parts of so many bytes, is the whole of what tells the outcome
pub record HandedOver (way : ℕ) (first second : List ℕ) (bound a b : ℕ) : Type 0 where
  pub text : List ℕ
  pub tells : Tells way first second bound text
  pub all : a + b ≡ length text

-- a writer whose bytes are known has, behind those that it had, the whole of what tells the outcome
abbrev pub Writes : ℕ → List ℕ → List ℕ → ℕ → Option (List ℕ) → Option (List ℕ) → Type 0
Writes way first second bound old new = (text : List ℕ) × Tells way first second bound text × Appends old new text

-- it has a front of that, as where an error came
abbrev pub WritesFront : ℕ → List ℕ → List ℕ → ℕ → Option (List ℕ) → Option (List ℕ) → Type 0
WritesFront way first second bound old new =
    (text : List ℕ) × Tells way first second bound text × HasWritten old new text
