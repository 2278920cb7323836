use Prim.Native.Nat.{◌+◌, ◌<◌}
use mathlib.Core.Path.{◌≡◌, ap, ◌∙◌}
use native.Mathlib.Omega.{arith}
use lib.ListN.{get_or}
use Rattle.arrays.proofs.Fills.{filled}
use Rattle.arcs.proofs.Laying.{
  laying_none,
  key_found,
  back_found,
  ends_some,
  laying_again,
  laying_room,
  laying_new,
  laying_all,
}
use Rattle.arcs.proofs.Chunks.{key_there}
use Rattle.arcs.specs.work.Chunk.{turned_key, key_at, LastAt}
use Rattle.arcs.proofs.lay.lay.Goals.{After-unwrap-y, then-seen-y-eq0, else-seen-y-eq0}
use Rattle.arcs.proofs.lay.lay.Goals as goal

-- the opposite's place, and that there is room for a row where it is not marked
back_here : (c : After-unwrap-y)
    → LastAt (key_at c.args.weights.now.arcs) (turned_key (key_at c.args.lengths.now.arcs c.loop-j.j))
    c.args.lengths.now.count (c.unwrap-y.result + 1)
back_here c =
    let found = rw c.unwrap-y.ensures at c.find.ensures in
    rw c.requires.3 at (key_there _ (c.turned.ensures ∙ ap turned_key c.key_of-key.ensures) found)

room_here : (c : After-unwrap-y) → get_or c.loop-j.seen c.unwrap-y.result 0 ≡ 0 → c.loop-j.c < 4095
room_here c fresh =
    laying_room _ _ _ _ _ _ c.loop-j.j c.loop-j.c _ c.loop-j.seen _ (omega arith) (back_here c) c.loop-j.invariant.2 _ _
    c.requires.2 fresh

pub loop-j-init : goal.loop-j-init
loop-j-init c = let f = filled 8192 0 in (f.long, c.requires.4, laying_none _ _ _ _ _ _ f)

pub loop-j-preserved : goal.loop-j-preserved
loop-j-preserved c =
    let h = c.loop-j.invariant in
    let before = goal.at.loop-j-preserved c in
    elim c.if-seen-y-eq0.branch [
      | then-seen-y-eq0 w ↦
          let found = rw w.unwrap-x.ensures at w.find-then-seen-y-eq0.ensures in
          let own = rw c.requires.3 at (key_there _ c.key_of-key.ensures found) in (
            c.if-seen-y-eq0.array_long,
            c.if-seen-y-eq0.array_long2,
            rw (w.seen-is, w.table-is, w.c-is)
                (laying_new _ _ _ _ _ _ c.loop-j.j c.loop-j.c _ c.loop-j.seen _ (omega arith)
                (back_here before.After-unwrap-y) h.2 w.if-seen-y-eq0.true _ own _ w.put_row.ensures),
          )
      | else-seen-y-eq0 w ↦ (
        c.if-seen-y-eq0.array_long,
        c.if-seen-y-eq0.array_long2,
        rw (w.seen-is, w.table-is, w.c-is)
            (laying_again _ _ _ _ _ _ c.loop-j.j c.loop-j.c _ c.loop-j.seen _ (omega arith)
            (back_here before.After-unwrap-y) h.2 w.if-seen-y-eq0.false),
      )
    ]

pub unwrap-y-requires : goal.unwrap-y-requires
unwrap-y-requires c =
    back_found _ _ _ _ _ _ _ c.requires.2 c.loop-j.j (omega arith) _
    (rw c.requires.3 at (key_there _ (c.turned.ensures ∙ ap turned_key c.key_of-key.ensures) c.find.ensures))

pub unwrap-x-requires : goal.unwrap-x-requires
unwrap-x-requires c =
    key_found _ _ _ _ _ _ _ c.requires.2 c.loop-j.j (omega arith) _
    (rw c.requires.3 at (key_there _ c.key_of-key.ensures c.find-then-seen-y-eq0.ensures))

pub put_row-requires : goal.put_row-requires
put_row-requires c =
    let e = ends_some _ _ _ _ _ _ _ c.requires.2 c.loop-j.j (omega arith) in
    (room_here (goal.at.put_row-requires c).After-unwrap-y c.if-seen-y-eq0.true, c.loop-j.invariant.1, e.0, e.1)

pub overflow_add-c : goal.overflow_add-c
overflow_add-c c = omega (arith, room_here (goal.at.overflow_add-c c).After-unwrap-y c.if-seen-y-eq0.true)

pub returns : goal.returns
returns c =
    let h = c.loop-j.invariant in
    laying_all _ _ _ _ _ _ c.loop-j.j c.loop-j.c c.loop-j.seen _ (omega arith) h.2
