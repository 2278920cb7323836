-- A text of any number of arcs, chunk by chunk: its arcs looked up in one chunk, and its chunks looked up in one by
-- one.
use Prim.Native.Nat.{ℕ, ◌+◌, ◌≤◌, ◌<◌}
use mathlib.Core.Path.{◌≡◌, ◌∙◌}
use mathlib.Core.Bool.{Bool, true, false}
use mathlib.Core.List.{List}
use native.Mathlib.Omega.{arith}
use lib.ListN.{length, drop}
use Rattle.arrays.specs.At.{at}
use Rattle.arrays.specs.work.Filled.{Filled}
use Rattle.roads.specs.Text.{Arc}
use Rattle.arcs.specs.Arcs.{arcs_of}
use Rattle.roads.specs.work.Line.{KindFits}
use Rattle.roads.specs.declared.line.Kind.{Kind}
use Rattle.arcs.specs.work.Chunk.{Tail, TailOf, ChunkOf, WholeIn, Loaded, Answers}
use Rattle.arcs.specs.work.Look.{MatchedBelow, LookedUp, ChunkIn, ArcsIn, Looked}
use Rattle.arcs.proofs.Loading.{arcs_fit}
use Rattle.arcs.proofs.Looks.{looked_none, arcs_in, arcs_not_in, matched_none, looked_fault, looked_all}

-- the arcs from place c on are those from start on
pub record Stood (kind : Kind) (s : List ℕ) (c start : ℕ) (all : List Arc) : Type 0 where
  pub tail : Tail kind s c (drop start all)

module _ {kind : Kind} {s : List ℕ} {all : List Arc} where
  pub stood_first : {at m : ℕ} → TailOf kind s at m all → Stood kind s at 0 all
  stood_first t = record { tail = t.says }

  -- a chunk further
  module _ {at m c start n d : ℕ} {chunk : List ℕ} (t : TailOf kind s at m all) (l : start + n ≤ m)
      (w : Loaded kind s c n d chunk) (p : Stood kind s c start all) where
    room : start + n ≤ length all
    room = omega (arith, t.count)

    pub stood_next : Stood kind s d (start + n) all
    stood_next = record { tail = w.on all start p.tail room }

    pub stood_chunk : ChunkOf (arcs_of all) start n chunk
    stood_chunk = w.stands all start p.tail room

-- a text that fits one chunk
pub loaded_whole : {kind : Kind} {s : List ℕ} {at m count next : ℕ} {all : List Arc} {chunk : List ℕ} → KindFits kind
    → count ≡ m → Loaded kind s at m next chunk → TailOf kind s at m all → WholeIn (arcs_of all) count chunk
unfolding arcs_of
loaded_whole {all = all} k e w t = rw e record {
  fit = arcs_fit k t;
  all = t.count;
  stands = w.stands all 0 t.says (omega (arith, t.count));
}

pub more_arcs : {kind : Kind} {s : List ℕ} {at m : ℕ} {all : List Arc} → TailOf kind s at m all → 8190 < m
    → (arcs_of all).count ≤ 8190 → ⊥
unfolding arcs_of
more_arcs t l h = omega (arith, t.count)

-- the arcs of a text up to start, looked up in one chunk
pub record Streaming (kind : Kind) (s : List ℕ) (place m : ℕ) (strict : Bool) (k : ℕ) (chunk : List ℕ) (start c : ℕ)
    (seen : List ℕ) : Type 0 where
  pub stood : (all : List Arc) → TailOf kind s place m all → Stood kind s c start all
  pub so_far : (all : List Arc) → TailOf kind s place m all → LookedUp strict (arcs_of all) k chunk start seen

module _ (kind : Kind) (s : List ℕ) (place m : ℕ) (strict : Bool) (k : ℕ) (chunk : List ℕ) where
  pub streaming_none : {seen : List ℕ} → Filled 8192 0 seen → k ≤ 8192
      → Streaming kind s place m strict k chunk 0 place seen
  streaming_none f b = record {
    stood = λ all t. stood_first t;
    so_far = λ all t. looked_none strict (arcs_of all) k chunk f b;
  }

  module _ {start n c d : ℕ} {others seen after : List ℕ} {r : Bool} (l : start + n ≤ m)
      (w : Loaded kind s c n d others) (i : ChunkIn strict n others k chunk seen after r)
      (p : Streaming kind s place m strict k chunk start c seen) where
    pub streaming_more : r ≡ true → Streaming kind s place m strict k chunk (start + n) d after
    streaming_more h = record {
      stood = λ all t. stood_next t l w (p.stood all t);
      so_far = λ all t. i.there h (arcs_of all) start (stood_chunk t l w (p.stood all t)) (p.so_far all t);
    }

    pub streamed_fault : r ≡ false → (all : List Arc) → TailOf kind s place m all
        → ArcsIn strict (arcs_of all) k chunk false
    streamed_fault h all t =
        arcs_not_in (i.fault h (arcs_of all) start (stood_chunk t l w (p.stood all t)) (p.so_far all t))

  pub streamed : {start c : ℕ} {seen : List ℕ} {q : Bool} → Streaming kind s place m strict k chunk start c seen
      → start ≡ m → Answers ((i : ℕ) → i < k → at seen i ≡ 0 → ⊥) q → (all : List Arc) → TailOf kind s place m all
      → ArcsIn strict (arcs_of all) k chunk q
  unfolding arcs_of
  streamed {seen = seen} p e d all t =
      let q = e ∙ t.count in
      arcs_in strict (arcs_of all) k chunk seen (rw (q) at (p.so_far all t)) d

-- the chunks of a text up to start, each with all arcs of the other looked up in it
pub record Meeting (ka : Kind) (a : List ℕ) (ia : ℕ) (kb : Kind) (b : List ℕ) (ib m : ℕ) (strict : Bool) (start c : ℕ) :
    Type 0 where
  pub stood : (x : List Arc) → TailOf ka a ia m x → Stood ka a c start x
  pub so_far : (x : List Arc) → TailOf ka a ia m x → (y : List Arc) → TailOf kb b ib m y
      → MatchedBelow strict (arcs_of x) (arcs_of y) start

module _ (ka : Kind) (a : List ℕ) (ia : ℕ) (kb : Kind) (b : List ℕ) (ib m : ℕ) (strict : Bool) where
  pub meeting_none : Meeting ka a ia kb b ib m strict 0 ia
  meeting_none = record {
    stood = λ x t. stood_first t;
    so_far = λ x t y u. matched_none strict (arcs_of x) (arcs_of y);
  }

  module _ {start n c d : ℕ} {chunk : List ℕ} {r : Bool} (l : start + n ≤ m) (w : Loaded ka a c n d chunk)
      (i : (y : List Arc) → TailOf kb b ib m y → ArcsIn strict (arcs_of y) n chunk r)
      (p : Meeting ka a ia kb b ib m strict start c) where
    pub meeting_more : r ≡ true → Meeting ka a ia kb b ib m strict (start + n) d
    meeting_more h = record {
      stood = λ x t. stood_next t l w (p.stood x t);
      so_far = λ x t y u. (i y u).there h (arcs_of x) start (stood_chunk t l w (p.stood x t)) (p.so_far x t y u);
    }

    pub met_fault : r ≡ false → (x : List Arc) → TailOf ka a ia m x → (y : List Arc) → TailOf kb b ib m y
        → Looked strict (arcs_of x) (arcs_of y) false
    met_fault h x t y u =
        looked_fault strict (arcs_of x) (arcs_of y)
        ((i y u).fault h (arcs_of x) start (stood_chunk t l w (p.stood x t)))

  pub met : {start c : ℕ} → Meeting ka a ia kb b ib m strict start c → start ≡ m → (x : List Arc) → TailOf ka a ia m x
      → (y : List Arc) → TailOf kb b ib m y → Looked strict (arcs_of x) (arcs_of y) true
  unfolding arcs_of
  met {start} p e x t y u = looked_all strict (arcs_of x) (arcs_of y) start (e ∙ t.count) (p.so_far x t y u)
