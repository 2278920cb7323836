-- `header::open` meets its contract: at each return the tests passed are the good conditions before it, in order, and
-- the test taken refutes the next.
use Rattle.table.specs.Refuse.{refused, passed}
use Rattle.table.specs.Header.{Lettered}
use Rattle.mesh.specs.work.Head.{good_head}
use Rattle.mesh.specs.Table.{rows_of}
use Rattle.std.proofs.Common.{Ok, Err, ap}
use Rattle.mesh.proofs.Front.{past_header}
use Prim.Native.Nat.{ℕ, ◌≤◌}
use mathlib.Core.List.{List}
use lib.ListN.{length}
use native.Mathlib.Omega.{arith}
use Rattle.mesh.proofs.header.open.Goals.{
  Else-s-ne78,
  then-s-ne82-via-then-s-ne82,
  then-s-ne82-via-else-s-ne82+then-s-ne84,
  then-s-ne82-via-else-s-ne82+else-s-ne84+then-s-ne78,
  then-nodes-lt1-via-then-nodes-lt1,
  then-nodes-lt1-via-else-nodes-lt1+then-nodes-gt256,
}
use Rattle.mesh.proofs.header.open.Goals as goal

-- 1 and 2 pass
module _ (c : Else-s-ne78) where
  abbrev bytes : List ℕ
  bytes = c.args.s.now

  long : 12 ≤ length bytes
  long = c.if-s-lt12.false

  lettered : Lettered bytes
  lettered = (c.if-s-ne82.false, c.if-s-ne84.false, c.if-s-ne78.false)

pub returns-then-s-lt12 : goal.returns-then-s-lt12
returns-then-s-lt12 c = refused (λ n. omega arith)

pub returns-then-s-ne82 : goal.returns-then-s-ne82
returns-then-s-ne82 c =
    passed (omega arith)
    (refused (λ n. elim c.then-s-ne82.branch [
      | then-s-ne82-via-then-s-ne82 w ↦ w.if-s-ne82.true n.0
      | then-s-ne82-via-else-s-ne82+then-s-ne84 w ↦ w.if-s-ne84.true n.1
      | then-s-ne82-via-else-s-ne82+else-s-ne84+then-s-ne78 w ↦ w.if-s-ne78.true n.2
    ]))

pub returns-then-two-ne3 : goal.returns-then-two-ne3
returns-then-two-ne3 c =
    (passed (long (goal.at.returns-then-two-ne3 c).Else-s-ne78)
    (passed (lettered (goal.at.returns-then-two-ne3 c).Else-s-ne78) (refused (λ n. omega (arith, n)))))

pub returns-then-nodes-lt1 : goal.returns-then-nodes-lt1
returns-then-nodes-lt1 c =
    passed (long (goal.at.returns-then-nodes-lt1 c).Else-s-ne78)
    (passed (lettered (goal.at.returns-then-nodes-lt1 c).Else-s-ne78)
    (passed (omega arith)
    (refused (λ n. elim c.then-nodes-lt1.branch [
      | then-nodes-lt1-via-then-nodes-lt1 w ↦ omega (arith, n.0)
      | then-nodes-lt1-via-else-nodes-lt1+then-nodes-gt256 w ↦ omega (arith, n.1)
    ]))))

pub returns-then-s-ne0 : goal.returns-then-s-ne0
returns-then-s-ne0 c =
    (passed (long (goal.at.returns-then-s-ne0 c).Else-s-ne78)
    (passed (lettered (goal.at.returns-then-s-ne0 c).Else-s-ne78)
    (passed (omega arith) (passed (omega arith, omega arith) (refused (λ n. omega arith))))))

pub returns-then-s-rows : goal.returns-then-s-rows
returns-then-s-rows c =
    (passed (long (goal.at.returns-then-s-rows c).Else-s-ne78)
    (passed (lettered (goal.at.returns-then-s-rows c).Else-s-ne78)
    (passed (omega arith) (passed (omega arith, omega arith) (passed (omega arith) (refused (λ n. omega arith)))))))

pub returns : goal.returns
returns c =
    past_header (λ k r. Err k) {s = bytes (goal.at.returns c).Else-s-ne78}
    (record {
      long = long (goal.at.returns c).Else-s-ne78;
      letters = lettered (goal.at.returns c).Else-s-ne78;
      version = omega arith;
      some = omega arith;
      few = omega arith;
      reserved = omega arith;
      size = omega arith;
    })
    (ap (λ n. Ok (good_head n (rows_of (bytes (goal.at.returns c).Else-s-ne78)))) (omega arith))
