-- `decide_one`: three looks in two chunks, as Deciding takes them.
use mathlib.Core.Path.{sym, ◌∙◌}
use native.Mathlib.Omega.{arith}
use Rattle.arcs.proofs.Deciding.{decided_first, decided_second, decided_differ, decided_none}
use Rattle.arcs.proofs.Looks.{looked_whole}
use Rattle.arcs.proofs.one.decide_one.Goals as goal

pub look_whole-requires : goal.look_whole-requires
look_whole-requires c = (c.requires.0, c.requires.2, record { long = c.requires.2; buckets = c.chain.ensures })

pub returns-then-not-look_whole : goal.returns-then-not-look_whole
returns-then-not-look_whole c = (
  λ e. cc,
  λ L M a b. decided_first a.fit b.fit c.if-not-look_whole.true (looked_whole a (c.look_whole.ensures L a)),
)

pub look_whole-same-requires : goal.look_whole-same-requires
look_whole-same-requires c = (omega arith, c.requires.3, record { long = c.requires.2; buckets = c.chain.ensures })

pub look_whole-requires-2 : goal.look_whole-requires-2
look_whole-requires-2 c = (omega arith, c.requires.3, record { long = c.requires.3; buckets = c.chain-2.ensures })

pub returns-then-not-look_whole-2 : goal.returns-then-not-look_whole-2
returns-then-not-look_whole-2 c = (
  λ e. cc,
  λ L M a b. decided_second a.fit b.fit c.if-not-look_whole-2.true (looked_whole b (c.look_whole-2.ensures M b)),
)

pub returns-then-not-same : goal.returns-then-not-same
returns-then-not-same c = (
  λ e. cc,
  λ L M a b. decided_differ a.fit b.fit c.if-not-look_whole.false (looked_whole a (c.look_whole.ensures L a))
      c.if-not-look_whole-2.false (looked_whole b (c.look_whole-2.ensures M b))
      c.if-not-same.true (looked_whole a (c.look_whole-same.ensures M b)),
)

pub returns : goal.returns
returns c = (
  λ _. c.chain-2.ensures,
  λ L M a b. decided_none a.fit b.fit c.if-not-look_whole.false (looked_whole a (c.look_whole.ensures L a))
      c.if-not-look_whole-2.false (looked_whole b (c.look_whole-2.ensures M b))
      c.if-not-same.false (looked_whole a (c.look_whole-same.ensures M b)) (sym a.all ∙ sym c.requires.1 ∙ b.all),
)
