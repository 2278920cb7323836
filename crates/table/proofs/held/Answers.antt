-- `table::held` meets its contract: a refused header gives the empty part at the table's own place, an opened one the
-- whole table.
use Rattle.table.proofs.Accepted.{opened, refused_header, past_header}
use mathlib.Core.List.{[]}
use native.Mathlib.Nat.{zero-add}
use mathlib.Core.Path.{refl}
use Rattle.table.proofs.held.Goals as goal

pub returns-in-Err : goal.returns-in-Err
returns-in-Err c =
    let args = c.args in
    record {
      own = rw zero-add refl;
      bytes = refused_header (λ _ _. []) args.s.now _ c.in-Err.ensures;
    }

pub returns-in-Ok : goal.returns-in-Ok
returns-in-Ok c =
    record {
      own = refl;
      bytes = past_header (λ _ _. []) {s = c.args.s.now} (opened c.args.s.now _ _ c.in-Ok.ensures).0 refl;
    }
