-- The changed table is one; its header is the table's; with no entry it is the table itself.
use Prim.Native.Nat.{ℕ, ◌+◌, ◌-◌, ◌*◌, ◌/◌, ◌%◌, ◌<◌}
use mathlib.Core.Path.{◌≡◌, refl, sym, ap, ◌∙◌}
use mathlib.Core.List.{List}
use native.Mathlib.Omega.{arith}
use native.Mathlib.Decide.{dec_lt}
use lib.ListN.{length, get_or}
use lib.Seq.{get_or-take, ext_get_or}
use Rattle.table.specs.Bytes.{byte_at}
use Rattle.table.specs.Header.{version_of, nodes_of, bound_of}
use Rattle.table.specs.Row.{Stands}
use Rattle.table.proofs.Accepted.{Headed}
use Rattle.changeset.specs.Shown.{in_table, kept}
use Rattle.changeset.specs.Changed.{WrittenIn}
use Rattle.changeset.proofs.Showing.{row_shown_only}
use Rattle.changeset.proofs.Parts.{part_at}

changed_byte : {s c t : List ℕ} → WrittenIn s c t → (i : ℕ) → i < 12 → byte_at t i ≡ byte_at s i
changed_byte {s} {c} {t} p i h =
    sym (get_or-take 12 t i 0 h) ∙ ap (λ (l : List ℕ). get_or l i 0) p.header ∙ get_or-take 12 s i 0 h

-- ONE CHANGED TABLE
pub changed_only : (s c t t' : List ℕ) → Headed s → WrittenIn s c t → WrittenIn s c t' → t ≡ t'
changed_only s c t t' h p q = ext_get_or 0 t t' (p.size ∙ sym q.size) (λ i l. byte i l (dec_lt i 12))
  where
    byte : (i : ℕ) → i < length t → Dec (i < 12) → get_or t i 0 ≡ get_or t' i 0
    byte i l (yes d) = changed_byte p i d ∙ sym (changed_byte q i d)
    byte i l (no d) =
        let r : ℕ = (i - 12) / 12 in
        let j : ℕ = (i - 12) % 12 in
        let e : 12 + 12 * r + j ≡ i = omega arith in
        let k : j < 12 = omega arith in
        let g : Stands s r = omega (arith, p.size, h.size) in
        rw e at
        (sym (part_at (12 + 12 * r) t j k)
        ∙ ap (λ (m : List ℕ). get_or m j 0) (row_shown_only s c r _ _ (p.rows r g) (q.rows r g))
        ∙ part_at (12 + 12 * r) t' j k)

-- the same version, n and B
pub changed_version : {s c t : List ℕ} → WrittenIn s c t → version_of t ≡ version_of s
changed_version p = omega (arith, changed_byte p 3 (omega arith), changed_byte p 4 (omega arith))

pub changed_nodes : {s c t : List ℕ} → WrittenIn s c t → nodes_of t ≡ nodes_of s
changed_nodes p = omega (arith, changed_byte p 5 (omega arith), changed_byte p 6 (omega arith))

pub changed_bound : {s c t : List ℕ} → WrittenIn s c t → bound_of t ≡ bound_of s
changed_bound p =
    omega (
      arith,
      changed_byte p 8 (omega arith),
      changed_byte p 9 (omega arith),
      changed_byte p 10 (omega arith),
      changed_byte p 11 (omega arith),
    )

-- a header that passed passes when rows change
pub changed_headed : {s c t : List ℕ} → Headed s → WrittenIn s c t → Headed t
changed_headed {s} {c} {t} h p =
    let n = changed_nodes p in
    record {
      long = omega (arith, h.long, p.size);
      letters = (
        changed_byte p 0 (omega arith) ∙ h.letters.0,
        changed_byte p 1 (omega arith) ∙ h.letters.1,
        changed_byte p 2 (omega arith) ∙ h.letters.2,
      );
      version = rw (changed_version p) h.version;
      some = omega (arith, n, h.some);
      few = omega (arith, n, h.few);
      reserved = changed_byte p 7 (omega arith) ∙ h.reserved;
      size = omega (arith, n, h.size, p.size);
    }

-- a set without an entry changes nothing
pub changes_none : (s c : List ℕ) → length c < 20 → WrittenIn s c s
changes_none s c h =
    record {
      size = refl;
      header = refl;
      rows = λ r g. record { source = in_table; from = kept g (λ i a e. omega arith); bytes = refl };
    }
