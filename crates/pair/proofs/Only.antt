-- The pair's promise allows one outcome: one path, one length and one weight, one number of hops.
use Prim.Native.Nat.{ℕ}
use mathlib.Core.Path.{◌≡◌}
use mathlib.Core.List.{List}
use Rattle.table.specs.Refuse.{Only}
use Rattle.table.specs.Header.{nodes_of}
use Rattle.table.proofs.Refusals.{unless_only}
use Rattle.net.specs.Net.{first_end, second_end}
use Rattle.net.specs.work.Net.{Net}
use Rattle.net.proofs.Values.{length_only, weight_only}
use Rattle.tree.proofs.Begins.{begins_net_only}
use Rattle.spines.proofs.HopsBound.{hops_only}
use Rattle.pair.specs.Pair.{pair_refusal, ShowsPath, Measures, PairOf, found}
use Rattle.std.specs.Prelude.{Ok, Err}

shows_only : (s marks : List ℕ) (n a b : ℕ) → Net s n → Only (ShowsPath s marks n a b)
shows_only s marks n a b t (Ok o) (Ok o') p q =
    let e : o.length ≡ o'.length = length_only (first_end s) (second_end s) t.forest p.0 q.0 in
    let f : o.weight ≡ o'.weight = weight_only (first_end s) (second_end s) t.forest p.0 q.0 in
    let g : o.hops ≡ o'.hops = hops_only t.forest p.1 q.1 in
    λ i. found (e i) (f i) (g i)
shows_only s marks n a b t (Ok o) (Err why) p q = absurd q
shows_only s marks n a b t (Err why) y p q = absurd p

pub measures_only : (s marks : List ℕ) (n a b : ℕ) → Net s n → Only (Measures s marks n a b)
measures_only s marks n a b t = unless_only (unless_only (shows_only s marks n a b t))

pub pair_only : (s marks : List ℕ) (a b : ℕ) → Only (PairOf s marks a b)
pair_only s marks a b = begins_net_only pair_refusal s (measures_only s marks (nodes_of s) a b)
