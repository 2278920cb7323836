-- Each operation's answer in C: number, row and ring, the fields in order, and the lent memory.
use Rattle.std.specs.Prelude.{ℕ, List, [], pos, Ok, Err}
use Rattle.tree.specs.declared.Refusal.{Refusal}
use Rattle.accept.specs.Accept.{AcceptAnswer}
use Rattle.spines.specs.Heads.{HeadsAnswer}
use Rattle.changes.specs.Change.{Change}
use Rattle.convert.specs.Convert.{Conversion}
use Rattle.pair.specs.Pair.{PairAnswer}
use Rattle.heaviest.specs.Heaviest.{HeaviestAnswer}
use Rattle.window.specs.Window.{WindowAnswer}
use Rattle.paging.specs.Paging.{Listed}
use Rattle.vetting.specs.Vets.{Vetted}
use Rattle.vetting.specs.declared.Verdict.TheVariants.{Yes, Fault, Missing}
use Rattle.writer.specs.WriteRow.{RowAnswer}
use Rattle.mesh.specs.Answer.{MeshAnswer}
use Rattle.dimacs.specs.Write.{Wrote}
use Rattle.dimacs.specs.Read.{ReadAnswer}
use Rattle.eight.specs.Call.{Call, in_c}

-- a refusal: its number, row and ring, zeros elsewhere
abbrev pub refusal_in_c : Refusal → List ℕ → Call
refusal_in_c why = in_c why.number why.row why.ring (pos 0) (pos 0) (pos 0) (pos 0)

-- nodes, bound, filler
abbrev pub accept_in_c : AcceptAnswer → Call
accept_in_c (Ok o) = in_c 0 0 0 (pos o.nodes) (pos o.bound) (pos o.filler) (pos 0) []
accept_in_c (Err why) = refusal_in_c why []

-- length, weight, hops
abbrev pub pair_in_c : PairAnswer → Call
pair_in_c (Ok o) = in_c 0 0 0 (pos o.length) o.weight (pos o.hops) (pos 0) []
pair_in_c (Err why) = refusal_in_c why []

-- low, high, length, weight
abbrev pub heaviest_in_c : HeaviestAnswer → Call
heaviest_in_c (Ok o) = in_c 0 0 0 (pos o.low) (pos o.high) (pos o.length) o.weight []
heaviest_in_c (Err why) = refusal_in_c why []

-- low, high, count, weight
abbrev pub window_in_c : WindowAnswer → Call
window_in_c (Ok o) = in_c 0 0 0 (pos o.low) (pos o.high) (pos o.count) o.weight []
window_in_c (Err why) = refusal_in_c why []

-- no fields; the heads
abbrev pub heads_in_c : HeadsAnswer × List ℕ → Call
heads_in_c (Ok _, list) = in_c 0 0 0 (pos 0) (pos 0) (pos 0) (pos 0) list
heads_in_c (Err why, list) = refusal_in_c why list

-- written, left; the rows
abbrev pub listing_in_c : Listed × List ℕ → Call
listing_in_c (Ok o, rows) = in_c 0 0 0 (pos o.written) (pos o.left) (pos 0) (pos 0) rows
listing_in_c (Err why, rows) = refusal_in_c why rows

-- the verdict, 1 for yes, 2 for a row at fault, 3 for a pair missing; the row; low, high
abbrev pub vet_in_c : Vetted → Call
vet_in_c (Ok Yes) = in_c 0 0 0 (pos 1) (pos 0) (pos 0) (pos 0) []
vet_in_c (Ok (Fault row)) = in_c 0 0 0 (pos 2) (pos row) (pos 0) (pos 0) []
vet_in_c (Ok (Missing low high)) = in_c 0 0 0 (pos 3) (pos 0) (pos low) (pos high) []
vet_in_c (Err why) = refusal_in_c why []

-- how many changed; the marks
abbrev pub change_in_c : Change × List ℕ → Call
change_in_c (Ok count, marks) = in_c 0 0 0 (pos count) (pos 0) (pos 0) (pos 0) marks
change_in_c (Err why, marks) = refusal_in_c why marks

-- no fields, and no memory is lent to be written
abbrev pub conversion_in_c : Conversion → Call
conversion_in_c (Ok _) = in_c 0 0 0 (pos 0) (pos 0) (pos 0) (pos 0) []
conversion_in_c (Err why) = refusal_in_c why []

-- size; the table
abbrev pub read_in_c : ReadAnswer × List ℕ → Call
read_in_c (Ok size, table) = in_c 0 0 0 (pos size) (pos 0) (pos 0) (pos 0) table
read_in_c (Err why, table) = refusal_in_c why table

-- the two sizes; the text with lengths and, beside it, the one with weights
abbrev pub write_in_c : Wrote → Call × List ℕ
write_in_c (Ok o, lengths, weights) = (in_c 0 0 0 (pos o.lengths) (pos o.weights) (pos 0) (pos 0) lengths, weights)
write_in_c (Err why, lengths, weights) = (refusal_in_c why lengths, weights)

-- no fields; the row. It has no ring to tell of
abbrev pub row_in_c : RowAnswer × List ℕ → Call
row_in_c (Ok _, bytes) = in_c 0 0 0 (pos 0) (pos 0) (pos 0) (pos 0) bytes
row_in_c (Err why, bytes) = in_c why.number why.row 0 (pos 0) (pos 0) (pos 0) (pos 0) bytes

-- branches, low, high
abbrev pub mesh_in_c : MeshAnswer → Call
mesh_in_c (Ok o) = in_c 0 0 0 (pos o.branches) (pos o.low) (pos o.high) (pos 0) []
mesh_in_c (Err why) = refusal_in_c why []
