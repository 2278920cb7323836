-- Holders never show in the pair's answer: two sets of marks of one number, free at the same places, give equal
-- outcomes.
use Prim.Native.Nat.{ℕ}
use mathlib.Core.Path.{◌≡◌}
use mathlib.Core.List.{List}
use lib.ListN.{length}
use Rattle.table.specs.Header.{nodes_of}
use Rattle.table.proofs.Refusals.{unless_map}
use Rattle.tree.proofs.Begins.{begins_alike}
use Rattle.marks.proofs.Weights.{Alike}
use Rattle.pair.specs.Pair.{PairAnswer, pair_refusal, ShowsPath, Measures, PairOf}
use Rattle.std.specs.Prelude.{Ok, Err}
use Rattle.ground.proofs.Alike.{path_alike}
use Rattle.pair.proofs.Only.{measures_only}

module _ (s marks marks' : List ℕ) (h : Alike marks marks') (e : length marks ≡ length marks') (a b : ℕ) where
  shows_alike : (n : ℕ) (x : PairAnswer) → ShowsPath s marks n a b x → ShowsPath s marks' n a b x
  shows_alike n (Ok o) p = (path_alike s marks marks' h n p.0, p.1)
  shows_alike n (Err why) p = p

  measures_alike : (n : ℕ) {x : PairAnswer} → Measures s marks n a b x → Measures s marks' n a b x
  measures_alike n {x = x} p = rw (← e) (unless_map (λ o. o) (λ _. unless_map (λ o. o) (λ _. shows_alike n x)) p)

  pub pair_holders : (x y : PairAnswer) → PairOf s marks a b x → PairOf s marks' a b y → x ≡ y
  pair_holders =
      begins_alike pair_refusal s
      (λ t x y p q. measures_only s marks' (nodes_of s) a b t x y (measures_alike (nodes_of s) p) q)
