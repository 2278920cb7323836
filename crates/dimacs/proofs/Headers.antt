-- The header as bytes: its parts, stored one after the other; and what is read of it, whatever follows.
use Prim.Native.Nat.{ℕ, ◌%◌, ◌/◌, ◌<◌}
use mathlib.Core.Path.{◌≡◌, refl}
use mathlib.Core.List.{List, ◌++◌}
use native.Mathlib.Omega.{arith}
use lib.Seq.{sets}
use Rattle.text.specs.Word.{word}
use Rattle.table.specs.Bytes.{byte_at}
use Rattle.table.specs.Header.{Lettered, version_of, nodes_of}
use Rattle.numbers.specs.Bytes.{bytes}
use Rattle.arcs.specs.Made.{header_bytes}

pub header_sets : (l : List ℕ) (n bound : ℕ)
    → sets (sets (sets (sets (sets l 0 (word "RTN")) 3 (bytes 2 1)) 5 (bytes 2 n)) 7 (bytes 1 0)) 8 (bytes 4 bound)
    ≡ sets l 0 (header_bytes n bound)
unfolding header_bytes word bytes
header_sets l n bound = refl

module _ (n bound : ℕ) (r : List ℕ) where
  pub header_lettered : Lettered (header_bytes n bound ++ r)
  unfolding header_bytes word bytes
  header_lettered = (refl, refl, refl)

  pub header_version : version_of (header_bytes n bound ++ r) ≡ 1
  unfolding header_bytes word bytes
  header_version = refl

  pub header_reserved : byte_at (header_bytes n bound ++ r) 7 ≡ 0
  unfolding header_bytes word bytes
  header_reserved = refl

  pub header_nodes : n < 65536 → nodes_of (header_bytes n bound ++ r) ≡ n
  unfolding header_bytes word bytes
  header_nodes h = let e : n / 256 % 256 ≡ n / 256 = omega arith in omega (arith, e)
