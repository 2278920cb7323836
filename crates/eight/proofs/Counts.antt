-- A page's two counts fit a signed number of 64 bits each, where they do together; and so do the row of a list and the
-- sizes of a table and of texts.
use Prim.Native.Nat.{ℕ, ◌<◌}
use mathlib.Core.Path.{◌≡◌}
use native.Mathlib.Omega.{arith}
use Rattle.std.specs.Prelude.{Ok}
use Rattle.paging.specs.declared.Rows.{Rows}
use Rattle.paging.specs.Paging.{Listed}
use Rattle.vetting.specs.Vets.{Vetted}
use Rattle.vetting.specs.declared.Verdict.TheVariants.{Fault}
use Rattle.dimacs.specs.Read.{ReadAnswer}
use Rattle.dimacs.specs.Write.{WriteAnswer}
use Rattle.dimacs.specs.declared.Texts.{Texts}
use Rattle.eight.specs.work.Room.{PageRoom, VetRoom, ReadRoom, WriteRoom}

pub counts_fit : {o : Listed} {rows : Rows} → PageRoom o → o ≡ Ok rows
    → (rows.written < 9223372036854775808) × (rows.left < 9223372036854775808)
counts_fit p e = let both = rw e at p in (omega (arith, both), omega (arith, both))

pub fault_fits : {o : Vetted} {i : ℕ} → VetRoom o → o ≡ Ok (Fault i) → i < 9223372036854775808
fault_fits p e = rw e at p

pub size_fits : {o : ReadAnswer} {k : ℕ} → ReadRoom o → o ≡ Ok k → k < 9223372036854775808
size_fits p e = rw e at p

pub sizes_fit : {o : WriteAnswer} {texts : Texts} → WriteRoom o → o ≡ Ok texts
    → (texts.lengths < 9223372036854775808) × (texts.weights < 9223372036854775808)
sizes_fit p e = rw e at p
