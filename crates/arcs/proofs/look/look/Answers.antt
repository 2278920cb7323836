use mathlib.Core.Path.{sym, ap, ◌∙◌}
use native.Mathlib.Omega.{arith}
use Rattle.arcs.proofs.Looks.{looking_none, looking_miss, looking_hit, in_loop, in_unfit, in_all}
use Rattle.arcs.specs.work.Chunk.{turned_key}
use Rattle.arcs.proofs.look.look.Goals as goal
use Rattle.arcs.proofs.look.look.Goals.{in-Some+else-not-agree, in_default}

pub loop-t-init : goal.loop-t-init
loop-t-init c = (c.requires.3, looking_none _ _ _ _ _ _)

pub returns-then-key-back : goal.returns-then-key-back
returns-then-key-back c = (
  c.loop-t.invariant.0,
  in_loop _ _ _ _ _ _ c.loop-t.t _ (omega arith) (c.turned-back.ensures ∙ ap turned_key c.key_of-key.ensures)
      (sym c.key_of-key.ensures ∙ c.if-key-back.true),
)

pub returns-then-not-agree : goal.returns-then-not-agree
returns-then-not-agree c =
    let h = c.loop-t.invariant in (
      h.0,
      in_unfit _ _ _ _ _ _ c.loop-t.t _ c.loop-t.seen (omega arith)
          (c.turned-back.ensures ∙ ap turned_key c.key_of-key.ensures) h.1 _ c.in-Some.ensures
          (c.agree.ensures.fails c.if-not-agree.true),
    )

pub loop-t-preserved : goal.loop-t-preserved
loop-t-preserved c =
    let h = c.loop-t.invariant in
    let back = c.turned-back.ensures ∙ ap turned_key c.key_of-key.ensures in
    elim c.match-find.branch [
      | in-Some+else-not-agree w ↦
          let q = w.agree.ensures.holds w.if-not-agree.false in (
            c.match-find.array_long,
            rw w.seen-is
                (looking_hit _ _ _ _ _ _ c.loop-t.t _ _ (omega arith) back h.1 _
                (λ e. c.if-key-back.false (c.key_of-key.ensures ∙ e)) w.in-Some.ensures c.requires.2.buckets.few q.0
                q.1),
          )
      | in_default w ↦ (
        c.match-find.array_long,
        rw w.seen-is
            (looking_miss _ _ _ _ _ _ c.loop-t.t _ _ (omega arith) back h.1
            (λ e. c.if-key-back.false (c.key_of-key.ensures ∙ e)) (rw w.in_default.is at c.find.ensures)),
      )
    ]

pub returns : goal.returns
returns c = let h = c.loop-t.invariant in (h.0, in_all _ _ _ _ _ _ c.loop-t.t _ (omega arith) h.1)
