-- A row as the code reads it is a row of the net.
use Prim.Native.Nat.{ℕ}
use mathlib.Core.Path.{◌≡◌, ap}
use mathlib.Core.List.{List}
use Rattle.table.specs.Row.{Stands, RowOf}
use Rattle.table.specs.declared.Row.{Row}
use Rattle.net.specs.Net.{first_end, second_end, length_of}

module _ {s : List ℕ} {r : ℕ} {q : Row} (h : Stands s r) (o : RowOf s r q) where
  pub reads_first : q.a ≡ first_end s r
  unfolding first_end
  reads_first = ap (λ q. q.a) (o.there h)

  pub reads_second : q.b ≡ second_end s r
  unfolding second_end
  reads_second = ap (λ q. q.b) (o.there h)

  pub reads_length : q.length ≡ length_of s r
  unfolding length_of
  reads_length = ap (λ q. q.length) (o.there h)
