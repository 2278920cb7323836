-- What accept's answer tells. It refuses what acceptance refuses, with the same numbers, and accepts what it accepts,
-- so that "ringed" is given exactly if a ring is in the table. Filler goes by the kind alone: blocked ground is none,
-- whatever it weighs, and rows of version 1 are none. A table of rows that write row wrote, with a good header and no
-- ring, is accepted, with no filler.
use Prim.Native.Nat.{ℕ, ◌+◌, ◌-◌, ◌*◌, ◌≤◌, ◌<◌}
use mathlib.Core.Path.{◌≡◌, refl, ap}
use mathlib.Core.List.{List}
use mathlib.Core.Logic.{◌⊎◌, inl, inr, ◌↔◌}
use native.Mathlib.Omega.{arith}
use native.Mathlib.Decide.{ℕ_discrete, dec_le}
use lib.ListN.{take, drop}
use Rattle.table.specs.Header.{version_of, nodes_of, bound_of}
use Rattle.table.specs.Row.{kind_at}
use Rattle.table.proofs.Accepted.{Headed, GoodTable, good_table, accepted}
use Rattle.net.specs.Net.{first_end, second_end}
use Rattle.net.specs.Graph.{Ring}
use Rattle.net.specs.Count.{Count}
use Rattle.net.proofs.Counts.{count_unique, count_none, count_dec}
use Rattle.net.proofs.RingExactly.{forest_iff}
use Rattle.tree.specs.Accept.{acceptance_refusal, Accepts, acceptance, Acceptance}
use Rattle.tree.specs.declared.Refusal.{Refusal}
use Rattle.tree.proofs.Begins.{begins_map, begins_past, sound_on, refused_on, passed_on}
use Rattle.tree.proofs.Theorems as tree
use Rattle.writer.proofs.Theorems.{Wrote, good_row, no_filler}
use Rattle.accept.proofs.Counting.{net_given}
use Rattle.accept.specs.Accept.{AcceptAnswer, FillerRow, FillerBelow, accept_refusal, GivesNet, AcceptOf, accept_answer}
use Rattle.std.specs.Prelude.{Ok, Err}

-- AS ACCEPTANCE: the answer without its count
abbrev pub seen : AcceptAnswer → Acceptance
seen (Ok o) = acceptance o.nodes o.bound
seen (Err w) = Err w

pub as_acceptance : (s : List ℕ) (x : AcceptAnswer) → AcceptOf s x → Accepts s (seen x)
as_acceptance s x p = begins_map seen accept_refusal s (λ _. is x) p
  where
    is : (x : AcceptAnswer) → GivesNet s x → seen x ≡ acceptance (nodes_of s) (bound_of s)
    is (Ok o) g = λ i. acceptance (g.0 i) (g.1 i)
    is (Err w) g = absurd g

pub refused_as_acceptance : (s : List ℕ) (k r g : ℕ) → Accepts s (acceptance_refusal k r g)
    → AcceptOf s (accept_refusal k r g)
refused_as_acceptance s k r g p = refused_on accept_refusal s (record { number = k; row = r; ring = g }) p

-- whether a row is filler is decided, so that an accepted table has a count
filler? : (s : List ℕ) (r : ℕ) → Dec (FillerRow s r)
filler? s r = pick (ℕ_discrete (version_of s) 2) (dec_le 24 (kind_at s r)) (dec_le (kind_at s r) 31)
  where
    pick : Dec (version_of s ≡ 2) → Dec (24 ≤ kind_at s r) → Dec (kind_at s r ≤ 31) → Dec (FillerRow s r)
    pick (yes v) (yes l) (yes m) = yes (v, (l, m))
    pick (no v) l m = no (λ f. v f.0)
    pick (yes v) (no l) m = no (λ f. l f.1.0)
    pick (yes v) (yes l) (no m) = no (λ f. m f.1.1)

pub accepted_as_acceptance : (s : List ℕ) (n b : ℕ) → Accepts s (acceptance n b)
    → (k : ℕ) × AcceptOf s (accept_answer n b k)
accepted_as_acceptance s n b p =
    let c = count_dec {P = FillerRow s} (n - 1) (filler? s) in
    (c.0, passed_on accept_refusal s n b p (net_given s p c.1))

-- RINGED EXACTLY, of a table with good rows
pub ring_exactly : (s : List ℕ) → GoodTable s
    → ((r : ℕ) × (g : ℕ) × AcceptOf s (accept_refusal 11 r g)) ↔ Ring (first_end s) (second_end s) (nodes_of s - 1)
ring_exactly s good =
    let e = tree.ring_exactly s good in (
      λ p. e.0 (p.0, p.1, as_acceptance s (accept_refusal 11 p.0 p.1) p.2),
      λ h. let p = e.1 h in (p.0, p.1, refused_as_acceptance s 11 p.0 p.1 p.2),
    )

pub not_refused : {w : Refusal} {n b k : ℕ} → Err w ≡ accept_answer n b k → ⊥
not_refused e = omega (arith, ap refusals e)
  where
    refusals : AcceptAnswer → ℕ
    refusals (Ok o) = 0
    refusals (Err w) = 1

-- THE COUNT, of an accepted table
pub filler_counted : (s : List ℕ) {n b k : ℕ} → AcceptOf s (accept_answer n b k) → Count (FillerBelow s (nodes_of s -
    1)) k
filler_counted s p = (begins_past accept_refusal s (λ k r g. not_refused) p).1.2

-- blocked ground and what the score table has are no filler, also where they weigh 0
pub other_kinds : (s : List ℕ) (r : ℕ) → (kind_at s r < 24) ⊎ (32 ≤ kind_at s r) → FillerRow s r → ⊥
other_kinds s r (inl l) f = omega (arith, l, f.1.0)
other_kinds s r (inr l) f = omega (arith, l, f.1.1)

-- rows of version 1 neither
pub version_1_none : (s : List ℕ) {n b k : ℕ} → AcceptOf s (accept_answer n b k) → version_of s ≡ 1 → k ≡ 0
version_1_none s p v = count_unique (filler_counted s p) (count_none (λ r h. omega (arith, v, h.1.0)))

-- row r is one that write row wrote, between nodes below n
pub record WrittenAt (s : List ℕ) (n r : ℕ) : Type 0 where
  pub a : ℕ
  pub b : ℕ
  pub wire : ℕ
  pub kind : ℕ
  pub count : ℕ
  pub wrote : Wrote a b wire kind count (take 12 (drop (12 + 12 * r) s))
  pub first : a < n
  pub second : b < n

-- WRITTEN ROW BY ROW: of version 2 with a good header, and no ring in it, such a table is accepted, and has no filler
pub written_accepted : (s : List ℕ) → Headed s → version_of s ≡ 2
    → ((r : ℕ) → r < nodes_of s - 1 → WrittenAt s (nodes_of s) r) → ¬ Ring (first_end s) (second_end s) (nodes_of s - 1)
    → AcceptOf s (accept_answer (nodes_of s) (bound_of s) 0)
unfolding first_end second_end
written_accepted s h v w o =
    let good = good_table h
    (λ r l. let q = w r l in good_row s r v q.wrote refl (nodes_of s) q.first q.second) in
    let a = accepted s (nodes_of s) (bound_of s) good in
    sound_on accept_refusal s
    (record {
      good = good;
      forest = (forest_iff (first_end s) (second_end s) (λ r l. (a.rows r (omega arith)).apart)).1 o;
    })
    (refl, refl, count_none (λ r f. no_filler s r v (w r f.0).wrote refl f.1.1))
