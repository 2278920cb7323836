-- The operation heads: from the heads by the walk's arrays to those of the net; its promise allows one outcome.
use Prim.Native.Nat.{ℕ, ◌-◌}
use mathlib.Core.Path.{◌≡◌, sym, ◌∙◌}
use mathlib.Core.List.{List}
use native.Mathlib.Omega.{arith}
use lib.ListN.{length}
use lib.Seq.{ext_get_or}
use Rattle.table.specs.Refuse.{Only, passed}
use Rattle.table.specs.Header.{nodes_of}
use Rattle.table.proofs.Refusals.{unless_only}
use Rattle.net.specs.Net.{first_end, second_end}
use Rattle.net.specs.work.Net.{Net}
use Rattle.reach.specs.work.Walked.{Walked}
use Rattle.reach.proofs.Grown.{grown_tree}
use Rattle.reach.proofs.NetWalk.{walk_grown, walk_rooted}
use Rattle.tree.proofs.Begins.{begins_net_only}
use Rattle.spines.specs.Heads.{heads_refusal, Heads, ListsHeads, Headings}
use Rattle.spines.specs.work.Parents.{HeadsAll}
use Rattle.spines.specs.work.Copy.{HeadsCopied}
use Rattle.std.specs.Prelude.{Ok, Err}
use Rattle.spines.proofs.Net.{head_net, net_head_only}

pub heads_listed : (s : List ℕ) (n : ℕ) {parent half order place head before list : List ℕ} → Net s n
    → Walked (first_end s) (second_end s) (n - 1) n parent half order place → HeadsAll n parent head
    → HeadsCopied head before list → length before ≡ n → ListsHeads s before n (Ok tt, list)
heads_listed s n {list} t w h c e =
    passed {x = (Ok tt, list)} e (
      c.long ∙ e,
      λ v b. rw (c.each v (omega (arith, e)))
          (head_net (walk_rooted t w) (grown_tree (walk_grown t w)) t.some (h.each v b)),
    )

heads_one : (s : List ℕ) (n : ℕ) → Net s n → Only (Heads s n)
heads_one s n t (Ok one, l) (Ok other, m) p q =
    let e : l ≡ m = ext_get_or 0 l m (p.0 ∙ sym q.0)
    (λ i b. net_head_only t.forest (p.1 i (rw p.0 at b)) (q.1 i (rw p.0 at b))) in
    λ i. (Ok one, e i)
heads_one s n t (Ok one, l) (Err w, m) p q = absurd q
heads_one s n t (Err w, l) y p q = absurd p

pub heads_only : (s before : List ℕ) → Only (Headings s before)
heads_only s before = begins_net_only (heads_refusal before) s (λ t. unless_only (heads_one s (nodes_of s) t))
