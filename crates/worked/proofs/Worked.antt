-- The claim: all starred cases of document 01, those of Req 01 and Req 03, and of ours three for Req 05 and two for
-- Req 08, hold of the definitions. Each operation has a test that computes and a law that what passes it holds; the
-- list is then a computation. Req 08's two have names too, by which they are cited.
use Prim.Native.Nat.{ℕ, zero, suc}
use mathlib.Core.Bool.{Bool, true, false, ◌&&◌}
use mathlib.Core.List.{List, [], ◌∷◌}
use native.Mathlib.Decide.{ℕ_discrete, dec_le, dec_lt}
use lib.Dec.{T}
use lib.IntN.{pos}
use lib.ListN.{get_or, drop}
use Rattle.std.specs.Prelude.{Ok, Err}
use Rattle.table.specs.Header.{bound_of}
use Rattle.net.specs.Net.{first_end, second_end, length_of, weight_of}
use Rattle.net.specs.Value.{Total}
use Rattle.net.proofs.Counts.{count_dec}
use Rattle.net.proofs.Labels.{both, label, relabel, grows}
use Rattle.spines.proofs.Leaves.{some?, above?, child?, leaf?, leaf_under?, leaves_some, many}
use Rattle.spines.proofs.Main.{best, main_some, main?}
use Rattle.spines.proofs.Head.{head_some}
use Rattle.marks.specs.Weighs.{weighs, weight_under}
use Rattle.numbers.specs.Bytes.{bytes}
use Rattle.pages.specs.Bytes.{row, rows}
use Rattle.heaviest.specs.Heaviest.{heaviest_refusal, HeaviestExactOf, between}
use Rattle.worked.specs.Case.{Case, accept, heaviest, exact, listing, heads, leaves, pair, claim, Holds, All}
use Rattle.worked.specs.Cases.{net5, n5, cells5, net2, unmarked, held, marked, crossed, lent, three, cases}
use Rattle.worked.proofs.Tests.{every, below, has, throughout, no_repeat, same}
use Rattle.worked.proofs.Accepted.{good?, accepted?}
use Rattle.worked.proofs.Ways.{other, met, leads, path?}
use Rattle.worked.proofs.Ringed.{ringed?, is_ringed}
use Rattle.worked.proofs.Pairs.{ways?, wanted?, all_pairs}
use Rattle.worked.proofs.Entries.{after?, at_least?, same_entry, has_entry, rising?}
use Rattle.worked.proofs.Page.{listing?, is_listing, seconds, firsts}
use Rattle.worked.proofs.Claimed.{frees, claimed?, is_claimed, refused?, is_refused}
use Rattle.worked.proofs.Hung.{par, hangs?, head_at}
use Rattle.worked.proofs.Headed.{heads?, is_heads, leaves?, are_leaves}
use Rattle.worked.proofs.Measured.{once, heads_of, pair?, is_pair}
use Rattle.worked.proofs.Best.{at_most, exactly, best?, is_best}

-- the rows of each path of N5, and of the net of its shape, from a to b, the lower node first; the path 0–1 is that of
-- the net of two nodes too
unfoldable ways : List (List (List ℕ))
ways =
    ([] ∷ (0 ∷ []) ∷ (0 ∷ 1 ∷ []) ∷ (0 ∷ 2 ∷ []) ∷ (0 ∷ 2 ∷ 3 ∷ []) ∷ [])
    ∷ ([] ∷ [] ∷ (1 ∷ []) ∷ (2 ∷ []) ∷ (2 ∷ 3 ∷ []) ∷ [])
    ∷ ([] ∷ [] ∷ [] ∷ (1 ∷ 2 ∷ []) ∷ (1 ∷ 2 ∷ 3 ∷ []) ∷ [])
    ∷ ([] ∷ [] ∷ [] ∷ [] ∷ (3 ∷ []) ∷ [])
    ∷ []

unfoldable way : ℕ → ℕ → List ℕ
way a b = get_or (get_or ways a []) b []

-- each node's parent, and the row to it
unfoldable up : ℕ → ℕ
up x = get_or (0 ∷ 0 ∷ 1 ∷ 1 ∷ 3 ∷ []) x 0

unfoldable by : ℕ → ℕ
by x = get_or (0 ∷ 0 ∷ 1 ∷ 2 ∷ 3 ∷ []) x 0

-- the test of a case, by its operation
unfoldable check : Case → Bool
check (accept s (Ok o)) = false
check (accept s (Err why)) = ringed? way s why
check (heaviest s marks o) = best? way s marks 16 (at_most (bound_of s)) o
check (exact s marks o) = best? way s marks 21 (exactly (bound_of s)) o
check (listing s marks floor low high lent (Ok o, after)) =
    listing? way s marks floor low high lent o.written o.left after
check (listing s marks floor low high lent (Err why, after)) = false
check (heads s lent (Ok done, after)) = heads? up by s lent after
check (heads s lent (Err why, after)) = false
check (leaves s nodes) = leaves? up by s nodes
check (pair s marks a b (Ok o)) = pair? way up by s marks a b o.length o.hops o.weight
check (pair s marks a b (Err why)) = false
check (claim s marks run a b (Ok k, after)) = claimed? way s marks run a b k after
check (claim s marks run a b (Err why, after)) = refused? way s marks run a b why after

check_holds : (c : Case) → T (check c) → Holds c
unfolding check
check_holds (accept s (Ok o)) t = absurd t
check_holds (accept s (Err why)) t = is_ringed way s why t
check_holds (heaviest s marks o) t = is_best way s marks 16 (at_most (bound_of s)) o t
check_holds (exact s marks o) t = is_best way s marks 21 (exactly (bound_of s)) o t
check_holds (listing s marks floor low high lent (Ok o, after)) t =
    is_listing way s marks floor low high lent o.written o.left after t
check_holds (listing s marks floor low high lent (Err why, after)) t = absurd t
check_holds (heads s lent (Ok done, after)) t = is_heads up by s lent after t
check_holds (heads s lent (Err why, after)) t = absurd t
check_holds (leaves s nodes) t = are_leaves up by s nodes t
check_holds (pair s marks a b (Ok o)) t = is_pair way up by s marks a b o.length o.hops o.weight t
check_holds (pair s marks a b (Err why)) t = absurd t
check_holds (claim s marks run a b (Ok k, after)) t = is_claimed way s marks run a b k after t
check_holds (claim s marks run a b (Err why, after)) t = is_refused way s marks run a b why after t

unfoldable check_all : List Case → Bool
check_all [] = true
check_all (c ∷ l) = check c && check_all l

all_hold : (l : List Case) → T (check_all l) → All l
unfolding check_all
all_hold [] t = tt
all_hold (c ∷ l) t = let a = both (check c) (check_all l) t in (check_holds c a.0, all_hold l a.1)

-- Every case of the list holds.
pub cases_hold : All cases
unfolding head_some main? main_some best many count_dec leaves_some leaf_under? leaf? child? above? some? dec_lt dec_le
    up
    by heads? leaves? pair? hangs? par head_at once heads_of check_all check cases net5 n5 cells5 net2 unmarked held
    marked crossed lent three way ways best? claimed? refused? frees throughout listing? seconds firsts bytes row rows
    rising? has_entry same_entry same good? accepted? ringed? ways? path? leads met other wanted? all_pairs at_least?
    after? every below has no_repeat label relabel grows ℕ_discrete first_end second_end length_of weight_of
    weight_under
    weighs Total
cases_hold = all_hold cases tt

-- the cases from the k-th on, the first being 0; from the 20th on those of Req 08, so that another goes after them
from : (k : ℕ) (l : List Case) → All l → All (drop k l)
from zero l h = h
from (suc k) [] h = tt
from (suc k) (c ∷ l) h = from k l h.1

-- In the exact mode a larger B can lose a run: of two nodes with a branch of length 0, B 0 finds it
pub exact_found : HeaviestExactOf (net2 0) (0 ∷ []) (between 0 1 0 (pos 0))
unfolding cases
exact_found = (from 20 cases cases_hold).0

-- and B 1 is refused.
pub exact_lost : HeaviestExactOf (net2 1) (0 ∷ []) (heaviest_refusal 21 0 0)
unfolding cases
exact_lost = (from 20 cases cases_hold).1.0
