-- What an answer has room for: the three numbers of a refusal, a listing's counts, the row of a list, and the sizes of
-- a table and of texts, as signed numbers of 64 bits.
use Rattle.std.specs.Prelude.{ℕ, ◌+◌, ◌≤◌, ◌<◌, Ok, Err}
use Rattle.accept.specs.Accept.{AcceptAnswer}
use Rattle.spines.specs.Heads.{HeadsAnswer}
use Rattle.changes.specs.Change.{Change}
use Rattle.convert.specs.Convert.{Conversion}
use Rattle.pair.specs.Pair.{PairAnswer}
use Rattle.heaviest.specs.Heaviest.{HeaviestAnswer}
use Rattle.window.specs.Window.{WindowAnswer}
use Rattle.paging.specs.Paging.{Listed}
use Rattle.vetting.specs.Vets.{Vetted}
use Rattle.vetting.specs.declared.Verdict.TheVariants.{Yes, Fault, Missing}
use Rattle.writer.specs.WriteRow.{RowAnswer}
use Rattle.mesh.specs.Answer.{MeshAnswer}
use Rattle.dimacs.specs.Read.{ReadAnswer}
use Rattle.dimacs.specs.Write.{WriteAnswer}

-- a row below 4,096, and a ring of no more rows than that
pub record Room (row ring : ℕ) : Type 0 where
  pub low : row < 4096
  pub few : ring ≤ 4096

-- the same with a row's number of 63 bits, since a mesh may have more rows than a tree
pub record WideRoom (row ring : ℕ) : Type 0 where
  pub low : row < 9223372036854775808
  pub few : ring ≤ 4096

-- of each sort of answer: a refusal's
abbrev pub AcceptRoom : AcceptAnswer → Type 0
AcceptRoom (Ok _) = Unit {0}
AcceptRoom (Err why) = Room why.row why.ring

abbrev pub PairRoom : PairAnswer → Type 0
PairRoom (Ok _) = Unit {0}
PairRoom (Err why) = Room why.row why.ring

abbrev pub HeaviestRoom : HeaviestAnswer → Type 0
HeaviestRoom (Ok _) = Unit {0}
HeaviestRoom (Err why) = Room why.row why.ring

abbrev pub WindowRoom : WindowAnswer → Type 0
WindowRoom (Ok _) = Unit {0}
WindowRoom (Err why) = Room why.row why.ring

abbrev pub HeadsRoom : HeadsAnswer → Type 0
HeadsRoom (Ok _) = Unit {0}
HeadsRoom (Err why) = Room why.row why.ring

abbrev pub ChangeRoom : Change → Type 0
ChangeRoom (Ok _) = Unit {0}
ChangeRoom (Err why) = Room why.row why.ring

abbrev pub ConversionRoom : Conversion → Type 0
ConversionRoom (Ok _) = Unit {0}
ConversionRoom (Err why) = Room why.row why.ring

abbrev pub MeshRoom : MeshAnswer → Type 0
MeshRoom (Ok _) = Unit {0}
MeshRoom (Err why) = WideRoom why.row why.ring

-- of a page also counts of 63 bits
abbrev pub PageRoom : Listed → Type 0
PageRoom (Ok o) = o.written + o.left < 9223372036854775808
PageRoom (Err why) = Room why.row why.ring

-- of a row at fault, a number of 63 bits
abbrev pub VetRoom : Vetted → Type 0
VetRoom (Ok Yes) = Unit {0}
VetRoom (Ok (Fault row)) = row < 9223372036854775808
VetRoom (Ok (Missing low high)) = Unit {0}
VetRoom (Err why) = Room why.row why.ring

-- of a table made and of texts written, sizes of 63 bits
abbrev pub ReadRoom : ReadAnswer → Type 0
ReadRoom (Ok size) = size < 9223372036854775808
ReadRoom (Err why) = Room why.row why.ring

abbrev pub WriteRoom : WriteAnswer → Type 0
WriteRoom (Ok o) = (o.lengths < 9223372036854775808) × (o.weights < 9223372036854775808)
WriteRoom (Err why) = Room why.row why.ring

abbrev pub RowRoom : RowAnswer → Type 0
RowRoom (Ok _) = Unit {0}
RowRoom (Err why) = why.row < 4096
