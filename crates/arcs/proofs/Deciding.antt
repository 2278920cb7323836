-- 27 and 28 from three looks: each text in itself, strictly, and one in the other.
use mathlib.Core.Path.{◌≡◌, refl}
use mathlib.Core.Bool.{Bool, true, false}
use Rattle.std.proofs.Common.{Ok, Err}
use Rattle.table.specs.Refuse.{refused, passed}
use Rattle.arcs.specs.Arcs.{Arcs, Paired}
use Rattle.arcs.specs.work.Chunk.{NodesFit}
use Rattle.arcs.specs.work.Look.{Looked, Decided}
use Rattle.arcs.proofs.Pairs.{matched_paired, paired_matches, Covers, covers_names, same_matches}
use Rattle.arcs.proofs.Image.{covers_back}

is_paired : {A : Arcs} {r : Bool} → NodesFit A → r ≡ true → Looked true A A r → Paired A
is_paired {A} f e m = matched_paired A f (m.there e)

not_paired : {A : Arcs} {r : Bool} → NodesFit A → r ≡ false → Looked true A A r → ¬ Paired A
not_paired {A} f e m p = m.fault e (paired_matches A f p)

module _ {L M : Arcs} (f : NodesFit L) (g : NodesFit M) where
  pub decided_first : {r : Bool} → r ≡ false → Looked true L L r → Decided L M (Err 27)
  decided_first e m = refused (λ h. not_paired f e m h.0)

  pub decided_second : {r : Bool} → r ≡ false → Looked true M M r → Decided L M (Err 27)
  decided_second e m = refused (λ h. not_paired g e m h.1)

  -- each text passes in itself
  module _ {q r : Bool} (eq : q ≡ true) (l : Looked true L L q) (er : r ≡ true) (m : Looked true M M r) where
    both : Paired L × Paired M
    both = (is_paired f eq l, is_paired g er m)

    pub decided_differ : {s : Bool} → s ≡ false → Looked false L M s → Decided L M (Err 28)
    decided_differ e d = passed both (refused (λ s. d.fault e (same_matches L M f g both.0 both.1 s)))

    -- as many arcs in both, so one look shows both ways
    pub decided_none : {s : Bool} → s ≡ true → Looked false L M s → L.count ≡ M.count → Decided L M (Ok tt)
    decided_none e d n =
        let c : Covers L M = (d.there e).each in
        let there = covers_names L M f g c in
        let back = covers_names M L g f (covers_back L M f g both.0 both.1 c n) in
        passed both (passed (record { there = there; back = back }) refl)
