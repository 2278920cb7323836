-- Texts put into lent bytes: by stores one by one, one after the other; what then stands there; and that a text at a
-- place leaves one list of bytes and one place after it.
use mathlib.Core.Path.{◌≡◌, refl, sym, ap, ◌∙◌}
use mathlib.Core.List.{List, [], ◌++◌}
use Prim.Native.Nat.{ℕ, ◌+◌, ◌≤◌}
use native.Mathlib.Omega.{arith}
use lib.ListN.{length, take, drop, length-append}
use lib.Seq.{sets, length-sets, sets-eq, take_at}
use Rattle.arrays.proofs.Stores.{sets_append}
use Rattle.text.specs.work.Put.{Put}

-- by stores one by one, and back
pub put_sets : {old t new : List ℕ} {at next : ℕ} → next ≡ at + length t → next ≤ length old → new ≡ sets old at t
    → Put old at t new next
put_sets {old} {t} {new} {at} {next} a r e = record {
  after = a;
  room = r;
  bytes = rw a (e ∙ sets-eq t old at (omega arith));
  same = ap length e ∙ length-sets old at t;
}

pub sets_put : {old t new : List ℕ} {at next : ℕ} → Put old at t new next → new ≡ sets old at t
sets_put {old} {t} {new} {at} {next} p =
    rw p.after at p.bytes ∙ sym (sets-eq t old at (omega (arith, p.after, p.room)))

-- nothing
pub put_none : (o : List ℕ) (at : ℕ) → at ≤ length o → Put o at [] o at
put_none o at h = put_sets {old = o} {t = []} {new = o} {at = at} (omega arith) h refl

-- one after the other
pub put_then : {o a n b q : List ℕ} {at p r : ℕ} → Put o at a n p → Put n p b q r → Put o at (a ++ b) q r
put_then {o} {a} {n} {b} {q} {at} {p} {r} f g = put_sets
    (omega (arith, f.after, g.after, length-append a b))
    (omega (arith, g.room, f.same))
    (sets_put g ∙ rw (sets_put f) (sym (sets_append o at p a b f.after)))

-- a text at the front is what stands there
pub put_front : {o t n : List ℕ} {r : ℕ} → Put o 0 t n r → take r n ≡ t
put_front {o} {t} {n} {r} p = rw p.bytes (take_at t (drop r o) r (omega (arith, p.after)))

-- the same text, said otherwise
pub put_as : {o t u n : List ℕ} {at r : ℕ} → t ≡ u → Put o at t n r → Put o at u n r
put_as e p = rw e at p

-- one outcome
pub put_only : {o t n m : List ℕ} {at p q : ℕ} → Put o at t n p → Put o at t m q → (n ≡ m) × (p ≡ q)
put_only f g = (sets_put f ∙ sym (sets_put g), f.after ∙ sym g.after)
