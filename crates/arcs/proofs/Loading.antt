-- From a text to chunks: the arc that the cursor stands before is the next of those still to come, so that copying goes
-- along them; and the nodes of a text's arcs are below 65,536.
use Prim.Native.Nat.{ℕ, zero, suc, ◌+◌, ◌*◌, ◌/◌, ◌%◌, ◌≤◌, ◌<◌}
use mathlib.Core.Path.{◌≡◌, sym, ap, ◌∙◌}
use mathlib.Core.List.{List}
use native.Mathlib.Omega.{arith}
use lib.ListN.{length, get_or, set, drop}
use lib.Seq.{drop-cons}
use Rattle.roads.specs.Text.{Arc, Node, Lines, done, comment, arc}
use Rattle.roads.specs.work.Line.{arc_of}
use Rattle.roads.specs.work.Whole.{StepOf, to}
use Rattle.std.proofs.Common.{Some, None}
use Rattle.roads.specs.declared.line.Step.{Step}
use Rattle.roads.proofs.Stepping.{step_arcs, step_end}
use Rattle.arcs.specs.Arcs.{no_arc, arcs_of}
use Rattle.roads.specs.work.Line.{KindFits}
use Rattle.roads.specs.declared.line.Kind.{Kind}
use Rattle.arcs.specs.work.Chunk.{arc_key, NodesFit, Tail, TailOf, ChunkOf, Loaded}
use Rattle.arcs.proofs.Chunks.{chunk_none, chunk_more}

-- both nodes of an arc
record Ends (n : ℕ) (e : Arc) : Type 0 where
  from : Node n e.from
  to : Node n e.to

lines_ends : {top low n : ℕ} {s : List ℕ} {l : List Arc} → Lines top low n s l → (i : ℕ) → i < length l
    → Ends n (get_or l i no_arc)
lines_ends done i h = absurd (omega arith)
lines_ends (comment c x) i h = lines_ends x i h
lines_ends (arc e x) zero h = record { from = e.from_node; to = e.to_node }
lines_ends (arc e x) (suc i) h = lines_ends x i (omega arith)

lines_fit : {top low n : ℕ} {s : List ℕ} {l : List Arc} → Lines top low n s l → n < 65536 → NodesFit (arcs_of l)
unfolding arcs_of
lines_fit x b = record {
  from_low = λ i h. (lines_ends x i h).from.low;
  from_high = λ i h. omega (arith, (lines_ends x i h).from.high);
  to_low = λ i h. (lines_ends x i h).to.low;
  to_high = λ i h. omega (arith, (lines_ends x i h).to.high);
}

pub arcs_fit : {kind : Kind} {s : List ℕ} {at m : ℕ} {all : List Arc} → KindFits kind → TailOf kind s at m all
    → NodesFit (arcs_of all)
arcs_fit k t = lines_fit t.says k.nodes_fit

pub same_counts : {ka kb : Kind} {s w : List ℕ} {i j m : ℕ} {x y : List Arc} → TailOf ka s i m x → TailOf kb w j m y
    → (arcs_of x).count ≡ (arcs_of y).count
unfolding arcs_of
same_counts t u = sym t.count ∙ u.count

step_fits : {top low n : ℕ} {s : List ℕ} {c : ℕ} {o : Step} → StepOf top low n s c (Some o) → o.to ≤ n
step_fits (to _ line _) = line.to_node.high

-- the arc that comes next
record Comes (kind : Kind) (s : List ℕ) (all : List Arc) (j : ℕ) (o : Step) : Type 0 where
  is : arc_of o.from o.to o.number ≡ get_or all j no_arc
  rest : Tail kind s o.next (drop (suc j) all)

comes : {kind : Kind} {s : List ℕ} {c : ℕ} {o : Step} (all : List Arc) (j : ℕ)
    → StepOf kind.top kind.low kind.nodes s c (Some o) → Tail kind s c (drop j all) → j < length all
    → Comes kind s all j o
comes all j step t b =
    let h = step_arcs step (rw (drop-cons all j no_arc b) at t) in
    record { is = h.0; rest = h.1 }

module _ (kind : Kind) (s : List ℕ) (at : ℕ) where
  pub loaded_none : {chunk : List ℕ} → length chunk ≡ 8192 → Loaded kind s at 0 at chunk
  unfolding arcs_of
  loaded_none r = record {
    on = λ all start t h. let e : start + 0 ≡ start = omega arith in rw (e) t;
    stands = λ all start t h. chunk_none (arcs_of all) start r (omega arith);
  }

  pub loaded_more : (t c y : ℕ) {o : Step} (chunk : List ℕ) → t < 8192 → kind.nodes < 65536
      → StepOf kind.top kind.low kind.nodes s c (Some o) → y / 4294967296 ≡ 65536 * o.from + o.to
      → y % 4294967296 ≡ o.number → Loaded kind s at t c chunk → Loaded kind s at (t + 1) o.next (set chunk t y)
  unfolding arcs_of arc_key
  loaded_more t c y {o} chunk b d step ek en l = record { on = on; stands = stands }
    where
      here : (all : List Arc) (start : ℕ) → Tail kind s at (drop start all) → start + (t + 1) ≤ length all
          → Comes kind s all (start + t) o
      here all start p h = comes all (start + t) step (l.on all start p (omega arith)) (omega arith)

      on : (all : List Arc) (start : ℕ) → Tail kind s at (drop start all) → start + (t + 1) ≤ length all
          → Tail kind s o.next (drop (start + (t + 1)) all)
      on all start p h =
          let e : start + (t + 1) ≡ suc (start + t) = omega arith in
          rw (e) (here all start p h).rest

      stands : (all : List Arc) (start : ℕ) → Tail kind s at (drop start all) → start + (t + 1) ≤ length all
          → ChunkOf (arcs_of all) start (t + 1) (set chunk t y)
      stands all start p h =
          let q = (here all start p h).is in
          let f = ap (λ (e : Arc). e.from) q in
          let g = ap (λ (e : Arc). e.to) q in
          chunk_more (arcs_of all) start t y chunk b (omega arith) (omega (arith, g, step_fits step, d)) (omega
          (arith, ek, f, g))
          (en ∙ ap (λ (e : Arc). e.number) q) (l.stands all start p (omega arith))

  -- the text does not end before the arcs to be copied
  pub loaded_end : (t k c : ℕ) (chunk : List ℕ) → t < k → StepOf kind.top kind.low kind.nodes s c None
      → Loaded kind s at t c chunk → Loaded kind s at k c chunk
  loaded_end t k c chunk b step l =
      record {
        on = λ all start p h. absurd (none all start p h);
        stands = λ all start p h. absurd (none all start p h);
      }
    where
      none : (all : List Arc) (start : ℕ) → Tail kind s at (drop start all) → start + k ≤ length all → ⊥
      none all start p h =
          let e = step_end step (l.on all start p (omega arith)) in
          let q = sym (drop-cons all (start + t) no_arc (omega arith)) ∙ e in
          omega (arith, ap length q)

  pub loaded_all : (t k c : ℕ) (chunk : List ℕ) → t ≡ k → Loaded kind s at t c chunk → Loaded kind s at k c chunk
  loaded_all t k c chunk e l = rw (e) at l
