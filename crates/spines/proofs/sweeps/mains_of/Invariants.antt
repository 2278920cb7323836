-- `mains_of` meets its contract. Each node has the best of its children below c; the best of all, by the leaves below
-- it, is the main child. The parent of node c is a node (`parent_in`).
use Prim.Native.Nat.{◌≤◌, ◌<◌}
use Rattle.spines.specs.work.Sweeps.{Parented}
use Rattle.spines.proofs.MainSweep.{BestChildren}
use Rattle.spines.proofs.sweeps.mains_of.Given as goal

abbrev pub invariant-loop-c : goal.invariant-loop-c
invariant-loop-c l =
    BestChildren l.n l.parent l.leaves l.c l.main × Parented l.n l.parent × (0 < l.c) × (l.c ≤ l.n)
