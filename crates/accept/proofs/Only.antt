-- The promise of accept allows one outcome: n and B are the table's, and there is one count.
use Prim.Native.Nat.{ℕ}
use mathlib.Core.Path.{◌≡◌, sym, ◌∙◌}
use mathlib.Core.List.{List}
use Rattle.table.specs.Refuse.{Only}
use Rattle.net.proofs.Counts.{count_unique}
use Rattle.tree.proofs.Begins.{begins_only}
use Rattle.accept.specs.Accept.{accept_refusal, GivesNet, AcceptOf, accept_answer}
use Rattle.std.specs.Prelude.{Ok, Err}

gives_only : (s : List ℕ) → Only (GivesNet s)
gives_only s (Ok o) (Ok o') p q =
    let e : o.nodes ≡ o'.nodes = p.0 ∙ sym q.0 in
    let f : o.bound ≡ o'.bound = p.1 ∙ sym q.1 in
    let g : o.filler ≡ o'.filler = count_unique p.2 q.2 in
    λ i. accept_answer (e i) (f i) (g i)
gives_only s (Ok o) (Err w) p q = absurd q
gives_only s (Err w) y p q = absurd p

pub accept_only : (s : List ℕ) → Only (AcceptOf s)
accept_only s = begins_only accept_refusal s (gives_only s)
