-- `decide_many`: three looks, as Deciding takes them.
use Rattle.arcs.proofs.Deciding.{decided_first, decided_second, decided_differ, decided_none}
use Rattle.arcs.proofs.Loading.{arcs_fit, same_counts}
use Rattle.arcs.proofs.many.decide_many.Goals as goal
use Rattle.arcs.proofs.many.decide_many.Goals.{
  then-not-meets-via-then-not-meets,
  then-not-meets-via-else-not-meets+then-not-meets-2,
}

pub returns-then-not-meets : goal.returns-then-not-meets
returns-then-not-meets c =
    let p = c.requires in
    λ x t y u. elim c.then-not-meets.branch [
      | then-not-meets-via-then-not-meets w ↦
          decided_first (arcs_fit p.0 t) (arcs_fit p.1 u) w.if-not-meets.true (c.meets.ensures x t x t)
      | then-not-meets-via-else-not-meets+then-not-meets-2 w ↦
          decided_second (arcs_fit p.0 t) (arcs_fit p.1 u) w.if-not-meets-2.true (w.meets-else-not-meets.ensures y u y
          u)
    ]

pub returns-then-not-meets-3 : goal.returns-then-not-meets-3
returns-then-not-meets-3 c =
    let p = c.requires in
    λ x t y u. decided_differ (arcs_fit p.0 t) (arcs_fit p.1 u) c.if-not-meets.false (c.meets.ensures x t x t)
    c.if-not-meets-2.false (c.meets-else-not-meets.ensures y u y u) c.if-not-meets-3.true (c.meets-2.ensures x t y u)

pub returns : goal.returns
returns c =
    let p = c.requires in
    λ x t y u. decided_none (arcs_fit p.0 t) (arcs_fit p.1 u) c.if-not-meets.false (c.meets.ensures x t x t)
    c.if-not-meets-2.false (c.meets-else-not-meets.ensures y u y u) c.if-not-meets-3.false (c.meets-2.ensures x t y u)
    (same_counts t u)
