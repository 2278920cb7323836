-- Acceptance with a change set counts filler on the rows shown: the number given is that of the rows for which the
-- bytes shown, an entry's or the table's own, say a kind that is filler. For the changed table has these bytes there,
-- and its header is the table's.
use Prim.Native.Nat.{ℕ, ◌+◌, ◌-◌, ◌*◌, ◌<◌}
use mathlib.Core.Path.{◌≡◌, sym, ap, ◌∙◌}
use mathlib.Core.List.{List}
use native.Mathlib.Omega.{arith}
use lib.ListN.{take, drop}
use Rattle.table.specs.Bytes.{byte_at, u16_at}
use Rattle.table.specs.Header.{version_of, nodes_of}
use Rattle.table.specs.Row.{Stands, kind_at}
use Rattle.table.proofs.Accepted.{Headed}
use Rattle.net.specs.Count.{Count}
use Rattle.net.proofs.Counts.{count_same}
use Rattle.writer.specs.WriteRow.{Filler}
use Rattle.accept.specs.Accept.{FillerBelow, accept_refusal, accept_answer}
use Rattle.accept.proofs.Theorems.{not_refused, filler_counted}
use Rattle.changeset.specs.Shown.{RowShown}
use Rattle.changeset.specs.Changed.{WrittenIn}
use Rattle.changeset.proofs.Changed.{changed_version, changed_nodes}
use Rattle.changeset.proofs.Parts.{part_at}
use Rattle.changeset.proofs.Showing.{row_shown_only}
use Rattle.changeset.proofs.Withs.{with_past}
use Rattle.frozen.specs.Calls.{AcceptWith}

-- row r is one of the first m, and the row shown for it is filler: its kind stands at bytes 8 and 9
pub record FillerShown (s c : List ℕ) (m r : ℕ) : Type 0 where
  pub below : r < m
  pub version : version_of s ≡ 2
  pub bytes : List ℕ
  pub shown : RowShown s c r bytes
  pub kind : Filler (u16_at bytes 8)

module _ (s c t : List ℕ) (h : Headed s) (d : WrittenIn s c t) where
  -- the kind of a row of the changed table is that of the row shown
  kind_shown : (r : ℕ) → u16_at (take 12 (drop (12 + 12 * r) t)) 8 ≡ kind_at t r
  kind_shown r =
      let e : 12 + 12 * r + 8 ≡ 20 + 12 * r = omega arith in
      let f : 12 + 12 * r + 9 ≡ 20 + 12 * r + 1 = omega arith in
      let a : byte_at (take 12 (drop (12 + 12 * r) t)) 8 ≡ byte_at t (20 + 12 * r) = rw e at
      (part_at (12 + 12 * r) t 8 (omega arith)) in
      let b : byte_at (take 12 (drop (12 + 12 * r) t)) 9 ≡ byte_at t (20 + 12 * r + 1) = rw f at
      (part_at (12 + 12 * r) t 9 (omega arith)) in
      omega (arith, a, b)

  stands : (r : ℕ) → r < nodes_of s - 1 → Stands s r
  stands r l = omega (arith, h.size)

  to_shown : (r : ℕ) → FillerBelow t (nodes_of t - 1) r → FillerShown s c (nodes_of s - 1) r
  to_shown r f =
      let l : r < nodes_of s - 1 = omega (arith, f.0, changed_nodes d) in
      record {
        below = l;
        version = sym (changed_version d) ∙ f.1.0;
        bytes = take 12 (drop (12 + 12 * r) t);
        shown = d.rows r (stands r l);
        kind = rw (kind_shown r) f.1.1;
      }

  from_shown : (r : ℕ) → FillerShown s c (nodes_of s - 1) r → FillerBelow t (nodes_of t - 1) r
  from_shown r f =
      let e : f.bytes ≡ take 12 (drop (12 + 12 * r) t) = row_shown_only s c r _ _ f.shown
      (d.rows r (stands r f.below)) in (
        omega (arith, f.below, changed_nodes d),
        (changed_version d ∙ f.version, rw (ap (λ (q : List ℕ). u16_at q 8) e ∙ kind_shown r) at f.kind),
      )

-- THE COUNT, ON THE ROWS SHOWN
pub filler_counted_with : (s c : List ℕ) {n b k : ℕ} → AcceptWith s c (accept_answer n b k)
    → Count (FillerShown s c (nodes_of s - 1)) k
filler_counted_with s c p =
    let w = with_past accept_refusal s c (λ k r g _. not_refused) p in
    let o = w.3 in
    let t = o.table in
    count_same (to_shown s c t w.0 o.changed) (from_shown s c t w.0 o.changed)
    (filler_counted t o.promise)
