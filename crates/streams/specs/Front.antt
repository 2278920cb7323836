-- What came over of bytes that an error cut short: a front of them.
use Rattle.std.specs.Prelude.{ℕ, ◌≡◌, ◌≤◌, ◌<◌, List, length, take, Option}
use Rattle.std.specs.Io.KnownBytes.{Appends, Consumes, IsAtEnd}

-- a reader gave some bytes, and they stand at the front of the buffer
abbrev pub HasRead : Option (List ℕ) → Option (List ℕ) → List ℕ → Type 0
HasRead old new buf = (n : ℕ) × (n ≤ length buf) × Consumes old new (take n buf)

-- a writer took a front of the bytes
abbrev pub HasWritten : Option (List ℕ) → Option (List ℕ) → List ℕ → Type 0
HasWritten old new bytes = (n : ℕ) × (n ≤ length bytes) × Appends old new (take n bytes)

-- what a reader gave stands at the front of the buffer, and only a reader that is at its end gave less than the whole
abbrev pub HasFilled : Option (List ℕ) → Option (List ℕ) → List ℕ → Type 0
HasFilled old new buf =
    (n : ℕ) × (n ≤ length buf) × Consumes old new (take n buf) × (n < length buf → IsAtEnd new)

-- a reader gave some bytes, no more than so many
abbrev pub HasTaken : ℕ → Option (List ℕ) → Option (List ℕ) → Type 0
HasTaken most old new = (buf : List ℕ) × (length buf ≡ most) × HasRead old new buf

-- a line of so many bytes, filled from a reader, came over to a writer
abbrev pub HasCopied : ℕ → Option (List ℕ) → Option (List ℕ) → Option (List ℕ) → Option (List ℕ) → Type 0
HasCopied count from rest before after =
    (line : List ℕ) × (length line ≡ count) × HasFilled from rest line × Appends before after line

-- of a line of so many bytes a front came from a reader, and a front went over to a writer
abbrev pub HasLost : ℕ → Option (List ℕ) → Option (List ℕ) → Option (List ℕ) → Option (List ℕ) → Type 0
HasLost count from rest before after =
    (line : List ℕ) × (length line ≡ count) × HasRead from rest line × HasWritten before after line
