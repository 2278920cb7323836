-- In a net on which a sweep stands the path between two nodes has one length and one weight.
use Prim.Native.Nat.{ℕ}
use mathlib.Core.Path.{◌≡◌}
use mathlib.Core.List.{List}
use lib.IntN.{ℤ}
use Rattle.net.specs.Value.{Value}
use Rattle.net.proofs.Values.{length_only, weight_only}
use Rattle.paths.specs.work.Ground.{Ground}

pub one_value :
    {n : ℕ} {parent order place bl bw : List ℕ} (g : Ground n parent order place bl bw) {a b l m : ℕ} {w z : ℤ}
    → Value g.u g.v g.k g.long g.heavy a b l w → Value g.u g.v g.k g.long g.heavy a b m z
    → (l ≡ m) × (w ≡ z)
one_value g p q = (length_only g.u g.v g.rooted.forest p q, weight_only g.u g.v g.rooted.forest p q)
