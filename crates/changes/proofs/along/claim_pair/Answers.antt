-- `changes::along::claim_pair` meets its contract: 13, 14 and 15 as the tests have it, then as `claim_walked` says.
-- What a passed test shows is said once, where it is known first.
use Prim.Native.Nat.{◌-◌}
use mathlib.Core.Path.{◌≡◌}
use lib.ListN.{length}
use native.Mathlib.Omega.{arith}
use Rattle.table.specs.Refuse.{refused, passed}
use Rattle.net.specs.Net.{TwoNodes}
use Rattle.marks.specs.Mark.{RunNumber}
use Rattle.changes.proofs.along.claim_pair.Goals.{Else-a-b, Else-marks-from, Else-not_a_run}
use Rattle.changes.proofs.along.claim_pair.Goals as goal

marked : (c : Else-marks-from)
    → length c.args.marks.now ≡ c.args.net.nodes - 1
marked c = omega (arith, c.if-marks-from.false, c.from.ensures)

numbered : (c : Else-not_a_run) → RunNumber c.args.run
numbered c = c.not_a_run.ensures.1 c.if-not_a_run.false

two : (c : Else-a-b)
    → TwoNodes c.args.net.nodes
    c.args.a
    c.args.b
two c =
    record {
      first = omega (arith, c.if-net-a.false);
      second = omega (arith, c.if-net-b.false);
      apart = c.if-a-b.false;
    }

pub returns-then-marks-from : goal.returns-then-marks-from
returns-then-marks-from c =
    let pre = c.requires in
    refused (λ e. omega (arith, c.if-marks-from.true, c.from.ensures, pre.some))

pub returns-then-not_a_run : goal.returns-then-not_a_run
returns-then-not_a_run c =
    passed (marked (goal.at.returns-then-not_a_run c).Else-marks-from)
    (refused (c.not_a_run.ensures.0 c.if-not_a_run.true))

pub returns-then-net-a : goal.returns-then-net-a
returns-then-net-a c =
    passed (marked (goal.at.returns-then-net-a c).Else-marks-from)
    (passed (numbered (goal.at.returns-then-net-a c).Else-not_a_run)
    (refused (λ p. omega (arith, p.first, p.second, p.apart, c.then-net-a.either))))

pub claim_walked-requires : goal.claim_walked-requires
claim_walked-requires c =
    record {
      net = c.requires;
      many = marked (goal.at.claim_walked-requires c).Else-marks-from;
      number = numbered (goal.at.claim_walked-requires c).Else-not_a_run;
      pair = two (goal.at.claim_walked-requires c).Else-a-b;
    }

pub returns : goal.returns
returns c =
    passed (marked (goal.at.returns c).Else-marks-from)
    (passed (numbered (goal.at.returns c).Else-not_a_run) (passed (two (goal.at.returns c).Else-a-b)
    c.claim_walked.ensures))
