-- From 27 and 28 decided to the rows: what laying them asks, what is promised of the whole, and the table that rows
-- and header make.
use Prim.Native.Nat.{ℕ, ◌+◌, ◌*◌, ◌≤◌}
use mathlib.Core.Path.{◌≡◌, refl, sym, ◌∙◌}
use mathlib.Core.List.{List, ◌++◌}
use native.Mathlib.Omega.{arith}
use lib.ListN.{length, take, length-append}
use lib.Seq.{sets}
use Rattle.arrays.proofs.Stores.{sets_append}
use Rattle.std.proofs.Common.{Ok, Err}
use Rattle.table.specs.Refuse.{refused, passed}
use Rattle.text.proofs.Puts.{put_sets, put_front}
use Rattle.roads.specs.Text.{Said}
use Rattle.arcs.specs.Arcs.{Arcs, arcs_of, Paired}
use Rattle.arcs.specs.Made.{rows_bytes, header_bytes, TableOf}
use Rattle.arcs.specs.work.Chunk.{WholeIn, Buckets}
use Rattle.arcs.specs.work.Look.{Decided, Verdict}
use Rattle.arcs.specs.work.Lay.{RowsLaid, RowsMade, LayReady}
use Rattle.arcs.proofs.RowBytes.{rows_size, header_size}
use Rattle.arcs.proofs.Theorems.{rows_half}

module _ {L M : Arcs} where
  pub lay_ready : {m : ℕ} {lengths weights first next : List ℕ} → Decided L M (Ok tt)
      → WholeIn L m lengths → WholeIn M m weights → m ≤ 8190 → Buckets weights m first next
      → LayReady L M m lengths weights first next
  lay_ready (passed p (passed s e)) a b f c =
      record { left = a; right = b; paired = p.0; paired_too = p.1; same = s; few = f; buckets = c }

  module _ {old new : List ℕ} where
    pub made_refused : {k : ℕ} → Decided L M (Err k) → RowsMade L M old new (Err k)
    made_refused (refused n) = refused n
    made_refused (passed p (refused n)) = passed p (refused n)
    made_refused (passed p (passed s e)) = absurd (differ e)
      where
        differ : {k : ℕ} → ◌≡◌ {A = Verdict} (Err k) (Ok tt) → ⊥
        differ e = cc

    pub made_laid : Decided L M (Ok tt) → (L.count ≤ 8190 → RowsLaid L M L.count old new) → RowsMade L M old new (Ok tt)
    made_laid (passed p (passed s e)) f = passed p (passed s (refl, f))

    -- the same where nothing was laid, there being more arcs
    pub made_many : {d : Verdict} → Decided L M d → (L.count ≤ 8190 → ⊥) → RowsMade L M old new d
    made_many (refused n) f = refused n
    made_many (passed p (refused n)) f = passed p (refused n)
    made_many (passed p (passed s e)) f = passed p (passed s (e, λ h. absurd (f h)))

-- where the header stood in the table before, the table of the two texts is its front
pub laid_table : {a b : Said} {bound : ℕ} (z : List ℕ) {old new : List ℕ} → Paired (arcs_of a.arcs)
    → 12 + 6 * length a.arcs ≤ length z → old ≡ sets z 0 (header_bytes a.nodes bound)
    → RowsLaid (arcs_of a.arcs) (arcs_of b.arcs) (arcs_of a.arcs).count old new
    → TableOf a b bound (take (12 + 6 * length a.arcs) new)
unfolding arcs_of
laid_table {a} {b} {bound} z {old} {new} p r d x =
    let h = header_bytes a.nodes bound in
    let s = header_size a.nodes bound in
    let q = rows_size x.rows in
    let n = rows_half x.order x.each p in
    let e : 12 + 6 * length a.arcs ≡ 0 + length (h ++ rows_bytes x.rows) = omega (
      arith,
      s,
      q,
      n,
      length-append h (rows_bytes x.rows),
    ) in
    let w : new ≡ sets z 0 (h ++ rows_bytes x.rows) = x.is
    ∙ rw (d) (sym (sets_append z 0 12 h (rows_bytes x.rows) (omega (arith, s)))) in
    record {
      firsts = x.firsts;
      order = x.order;
      rows = x.rows;
      each = x.each;
      is = put_front (put_sets {old = z} {t = h ++ rows_bytes x.rows} e r w);
    }
