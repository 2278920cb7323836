-- Words as bytes.
use Rattle.std.specs.Prelude.{List, ℕ}
use mathlib.Core.List as L
use Prim.Native.Char.{code}
use Prim.Native.String.{String, [], ◌∷◌}

-- the code of each letter, in order: of the plain letters, space and line feed its one byte
unfoldable pub word : String → List ℕ
word [] = L.[]
word (c ∷ s) = L.◌∷◌ (code c) (word s)
