-- The report's lines as text, each as the documents print it.
use Rattle.std.specs.Prelude.{ℕ, List, [], ◌∷◌, ◌++◌, ℤ}
use Prim.Native.String.{String}
use Rattle.std.proofs.Math.Decide.{ℕ_discrete}
use Rattle.text.specs.Word.{word}
use Rattle.text.specs.Decimal.{decimal, signed}
use Rattle.pages.specs.Listing.{Entry}

-- a word and the number after it
abbrev pub field : String → ℕ → List ℕ
field w x = word w ++ decimal x

abbrev pub signed_field : String → ℤ → List ℕ
signed_field w z = word w ++ signed z

-- `refused 16 row 0`, and for 11 alone how many rows the ring has: `refused 11 row 1 ring 2`
unfoldable pub ring_text : ℕ → ℕ → List ℕ
ring_text k g = elim (ℕ_discrete k 11) [ yes e ↦ field " ring " g | no n ↦ [] ]

unfoldable pub refused_text : ℕ → ℕ → ℕ → List ℕ
refused_text k r g = field "refused " k ++ field " row " r ++ ring_text k g ++ word "\n"

-- `net 5 bound 8`
unfoldable pub net_text : ℕ → ℕ → List ℕ
net_text n b = field "net " n ++ field " bound " b ++ word "\n"

-- `best 1 3 length 6 weight 7`
unfoldable pub best_text : Entry → List ℕ
best_text e =
    field "best " e.low ++ field " " e.high ++ field " length " e.length ++ signed_field " weight " e.weight
    ++ word "\n"

-- `pair 0 2 7 7`
unfoldable pub pair_text : Entry → List ℕ
pair_text e =
    field "pair " e.low ++ field " " e.high ++ field " " e.length ++ signed_field " " e.weight ++ word "\n"

-- a line for each
unfoldable pub pairs_text : List Entry → List ℕ
pairs_text [] = []
pairs_text (e ∷ l) = pair_text e ++ pairs_text l

-- `total 2`
unfoldable pub total_text : ℕ → List ℕ
total_text n = field "total " n ++ word "\n"
