-- Acceptance: from the ring test to refusal 11; what an accepted table has; how an operation that begins with 1 to 11
-- hands a refusal on or goes on, seen through a function or said otherwise; that two such promises give equal outcomes
-- where what follows does, so that each allows one and refuses what acceptance does; and what the numbers of such a
-- refusal are. What 11 is is taken apart here, a table's own refusals in table's Accepted, and nowhere above.
use Prim.Native.Nat.{ℕ, ◌+◌, ◌-◌, ◌≤◌, ◌<◌}
use mathlib.Core.Path.{◌≡◌, refl, sym, ap, ◌∙◌}
use mathlib.Core.Logic.{◌⊎◌, inl, inr, ◌≢◌}
use mathlib.Core.List.{List}
use native.Mathlib.Omega.{arith}
use Rattle.table.specs.Refuse.{bad, fine, Only}
use Rattle.table.specs.Header.{nodes_of, bound_of}
use Rattle.table.specs.Opens.{opening_refusal, Examines, Opening, opening}
use Rattle.table.specs.declared.Refusal as why
use Rattle.table.proofs.Refusals.{past_rows, first_bad_map, by_rows}
use Rattle.table.proofs.Accepted.{
  Headed,
  GoodTable,
  Own,
  accepted,
  header_past,
  tested_past,
  tested_map,
  tested_rest,
  by_tested,
}
use Rattle.table.proofs.Accepted as table
use Rattle.table.proofs.Only.{tested_both}
use Rattle.net.specs.work.Forest.{Forest}
use Rattle.net.specs.Net.{first_end, second_end, length_of, weight_of, Whole}
use Rattle.net.specs.work.Net.{Net}
use Rattle.net.specs.Ring.{RingRows}
use Rattle.tree.specs.Accept.{Rings, Begins, acceptance_refusal, Accepts, Acceptance, acceptance}
use Rattle.net.specs.work.Rows.{Readable, Fitting, Closing}
use Rattle.ring.specs.work.Union.{FirstRing}
use Rattle.tree.specs.work.Why.{why_of}
use Rattle.tree.specs.declared.Refusal.{Refusal}
use Rattle.std.specs.Prelude.{Ok, Err}
use Rattle.net.proofs.Rows.{fit_less}
use Rattle.net.proofs.RingRows.{row_open, rows_open, open_rows, rings_both, rings_settled, most_rows}
use Rattle.tree.proofs.Groups.{all_joined}

-- an accepted net's two numbers, and that it is no refusal
abbrev nodes_in : Acceptance → ℕ
nodes_in (Ok net) = net.nodes
nodes_in (Err w) = 0

abbrev bound_in : Acceptance → ℕ
bound_in (Ok net) = net.bound
bound_in (Err w) = 0

pub nothing_found : {n b : ℕ} {w : Refusal} → Err w ≡ acceptance n b → ⊥
nothing_found e = omega (arith, ap taken e)
  where
    taken : Acceptance → ℕ
    taken (Ok net) = 1
    taken (Err w) = 0

-- The code's side
pub fitting : (s : List ℕ) (n b : ℕ) → Examines s (opening n b) → Fitting s n
unfolding first_end second_end
fitting s n b p =
    let a = accepted s n b p in
    record {
      some = omega (arith, a.headed.some, a.nodes);
      few = omega (arith, a.headed.few, a.nodes);
      stands = λ r h. a.stands r (omega arith);
      fit = record { first = λ r h. (a.rows r (omega arith)).first; second = λ r h. (a.rows r (omega arith)).second };
    }

pub fitting_readable : {s : List ℕ} {n : ℕ} → Fitting s n → Readable s (n - 1)
fitting_readable f =
    record {
      few = omega (arith, f.some, f.few);
      stands = f.stands;
      fit = record {
        first = λ r h. omega (arith, f.fit.first r h, f.few);
        second = λ r h. omega (arith, f.fit.second r h, f.few);
      };
    }

-- fewer rows are readable too
pub readable_less : {s : List ℕ} {k m : ℕ} → m ≤ k → Readable s k → Readable s m
readable_less l r =
    record { few = omega (arith, r.few); stands = λ i h. r.stands i (omega arith); fit = fit_less l r.fit }

-- the row that the ring test found closes a ring
pub found_closing : {s : List ℕ} {n r : ℕ} → Fitting s n → FirstRing (first_end s) (second_end s) (n - 1) r → r < n - 1
    → Closing s r
found_closing f g l = record { readable = readable_less (omega arith) (fitting_readable f); joins = g.closes l }

module _ (s : List ℕ) (n : ℕ) {rest : Acceptance → Type 0} where
  pub rings_bad : (r g : ℕ) → FirstRing (first_end s) (second_end s) (n - 1) r → r < n - 1
      → RingRows (first_end s) (second_end s) r g
      → Rings Acceptance acceptance_refusal s n rest (acceptance_refusal 11 r g)
  rings_bad r g f l p =
      bad r g l (open_rows (first_end s) (second_end s) f.forest) p
      (λ e. row_open (first_end s) (second_end s) (rw e at p) (f.closes l))

  pub rings_none : (r : ℕ) → FirstRing (first_end s) (second_end s) (n - 1) r → n - 1 ≤ r → {x : Acceptance} → rest x
      → Rings Acceptance acceptance_refusal s n rest x
  rings_none r f l p = fine (λ i h. open_rows (first_end s) (second_end s) f.forest i (omega arith)) p

-- a table's own refusal stays one, and an examined table goes on to 11
pub refused_stays : (s : List ℕ) (w : why.Refusal) → Examines s (Err w)
    → Accepts s (acceptance_refusal w.number w.row 0)
refused_stays s w p = tested_map handed opening_refusal s (λ g e. absurd (table.nothing_found e)) p
  where
    handed : Opening → Acceptance
    handed (Ok net) = acceptance_refusal 0 0 0
    handed (Err v) = acceptance_refusal v.number v.row 0

pub examined_goes : (s : List ℕ) (n b : ℕ) (o : Acceptance) → Examines s (opening n b)
    → Rings Acceptance acceptance_refusal s n (λ x. x ≡ acceptance n b) o → Accepts s o
examined_goes s n b o p q =
    let a = accepted s n b p in
    table.passed_on (λ k r. acceptance_refusal k r 0) s n b p (rw (a.nodes, a.bound) at q)

-- A table of which 1 to 11 refuse nothing: it is a net, since its rows join all nodes
pub record Sound (s : List ℕ) : Type 0 where
  pub good : GoodTable s
  pub forest : Forest (first_end s) (second_end s) (nodes_of s - 1)

pub sound_joined : {s : List ℕ} → Sound s → Whole s (nodes_of s)
sound_joined {s} t =
    all_joined (first_end s) (second_end s) (nodes_of s) t.forest (fitting s (nodes_of s) (bound_of s) t.good).fit

pub sound_net : {s : List ℕ} → Sound s → Net s (nodes_of s)
unfolding first_end second_end length_of weight_of
sound_net {s} t =
    let a = accepted s (nodes_of s) (bound_of s) t.good in
    record {
      some = a.headed.some;
      few = a.headed.few;
      stands = λ r l. a.stands r (omega arith);
      first = λ r l. (a.rows r (omega arith)).first;
      second = λ r l. (a.rows r (omega arith)).second;
      apart = λ r l. (a.rows r (omega arith)).apart;
      short = λ r l. (a.rows r (omega arith)).long;
      within = λ r l. (a.rows r (omega arith)).weight_within;
      forest = t.forest;
      joined = sound_joined t;
    }

-- the numbers of 1 to 11, 22 and 23 among them: a table's own, and 11
abbrev Given : ℕ → Type 0
Given k = Own k ⊎ (k ≡ 11)

beyond : {k : ℕ} → 11 < k → (k < 22) ⊎ (23 < k) → Given k → ⊥
beyond l m (inl (inl own)) = omega (arith, l, own)
beyond l (inl m) (inl (inr own)) = omega (arith, m, own.0)
beyond l (inr m) (inl (inr own)) = omega (arith, m, own.1)
beyond l m (inr e) = omega (arith, l, e)

-- How an operation that begins with 1 to 11 goes on
module _ {A : Type 0} (refuse : ℕ → ℕ → ℕ → A) (s : List ℕ) {rest : A → Type 0} {x : A} where
  -- an outcome that is none of these refusals comes of such a table
  begins_sound : ((k r g : ℕ) → Given k → refuse k r g ≡ x → ⊥) → Begins A refuse s rest x → Sound s × rest x
  begins_sound other p =
      let t = tested_past (λ k r. refuse k r 0) s (λ k r _ own. other k r 0 (inl own)) p in
      let o = past_rows (λ g r _ _. other 11 r g (inr refl)) t.1 in
      (record { good = t.0; forest = rows_open (first_end s) (second_end s) o.0 }, o.1)

  -- one that is no refusal,
  pub begins_past : ((k r g : ℕ) → refuse k r g ≡ x → ⊥) → Begins A refuse s rest x → Net s (nodes_of s) × rest x
  begins_past plain p = let t = begins_sound (λ k r g _. plain k r g) p in (sound_net t.0, t.1)

  -- or one with another number
  pub begins_other : (number : A → ℕ) → ((k r g : ℕ) → number (refuse k r g) ≡ k) → 11 < number x
      → (number x < 22) ⊎ (23 < number x) → Begins A refuse s rest x → rest x
  begins_other number is l m p =
      (begins_sound (λ k r g given e. beyond l m (rw (sym (is k r g) ∙ ap number e) at given)) p).1

  -- of such a table the outcome is as the rest says, both ways
  pub sound_on : Sound s → rest x → Begins A refuse s rest x
  sound_on t r =
      table.passed_on (λ k r. refuse k r 0) s (nodes_of s) (bound_of s) t.good
      (fine (open_rows (first_end s) (second_end s) t.forest) r)

  sound_rest : Sound s → Begins A refuse s rest x → rest x
  sound_rest t p =
      rings_settled (first_end s) (second_end s) t.forest (tested_rest (λ k r. refuse k r 0) s t.good p)

-- a refusal of 1 to 11 stays one when outcomes are seen through a function; what follows is asked of an accepted net
-- alone, and may be said otherwise of it
pub begins_map : {A B : Type 0} (f : A → B) (refuse : ℕ → ℕ → ℕ → A) (s : List ℕ) {rest : A → Type 0}
    {rest' : B → Type 0} {x : A} → (Net s (nodes_of s) → rest x → rest' (f x)) → Begins A refuse s rest x
    → Begins B (λ k r g. f (refuse k r g)) s rest' (f x)
begins_map f refuse s g p =
    tested_map f (λ k r. refuse k r 0) s
    (λ t. first_bad_map f
    (λ rings. g (sound_net (record { good = t; forest = rows_open (first_end s) (second_end s) rings }))))
    p

-- What an accepted table has
accept_sound : (s : List ℕ) (n b : ℕ) → Accepts s (acceptance n b)
    → Sound s × (acceptance n b ≡ acceptance (nodes_of s) (bound_of s))
accept_sound s n b p =
    begins_sound acceptance_refusal s (λ k r g _. nothing_found) p

pub accepted_headed : (s : List ℕ) {n b : ℕ} → Accepts s (acceptance n b) → Headed s
accepted_headed s p = (header_past (λ k r. acceptance_refusal k r 0) {s = s} (λ k r n o. nothing_found) p).0

pub record Admitted (s : List ℕ) (n b : ℕ) : Type 0 where
  pub net : Net s n
  pub nodes : n ≡ nodes_of s
  pub bound : b ≡ bound_of s

pub admitted : (s : List ℕ) (n b : ℕ) → Accepts s (acceptance n b) → Admitted s n b
admitted s n b p =
    let t = accept_sound s n b p in
    let e : n ≡ nodes_of s = ap nodes_in t.1 in
    record { net = rw e (sound_net t.0); nodes = e; bound = ap bound_in t.1 }

-- How an operation that begins with `accept` hands a refusal on, and goes on where there is none
module _ {A : Type 0} (refuse : ℕ → ℕ → ℕ → A) {rest : A → Type 0} (s : List ℕ) where
  pub refused_on : (w : Refusal) → Accepts s (Err w)
      → Begins A refuse s rest (refuse w.number w.row w.ring)
  refused_on w p = begins_map handed acceptance_refusal s (λ n e. absurd (nothing_found e)) p
    where
      handed : Acceptance → A
      handed (Ok net) = refuse 0 0 0
      handed (Err v) = refuse v.number v.row v.ring

  pub passed_on : (n b : ℕ) {x : A} → Accepts s (acceptance n b) → rest x
      → Begins A refuse s rest x
  passed_on n b p r = sound_on refuse s (accept_sound s n b p).0 r

-- an accepted table's outcome is as the rest says
pub begins_rest : {A : Type 0} (refuse : ℕ → ℕ → ℕ → A) (s : List ℕ) {rest : A → Type 0} {x : A}
    → Accepts s (acceptance (nodes_of s) (bound_of s)) → Begins A refuse s rest x → rest x
begins_rest refuse s p = sound_rest refuse s (accept_sound s (nodes_of s) (bound_of s) p).0

-- Two promises that begin alike give related outcomes, where each refusal is related to itself and their rests are, of
-- an accepted net;
pub begins_both : {A : Type 0} (R : A → A → Type 0) (refuse : ℕ → ℕ → ℕ → A) (s : List ℕ) {rest rest' : A → Type 0}
    → ((k r g : ℕ) → R (refuse k r g) (refuse k r g)) → (Net s (nodes_of s) → (x y : A) → rest x → rest' y → R x y)
    → (x y : A) → Begins A refuse s rest x → Begins A refuse s rest' y → R x y
begins_both {A} R refuse s {rest} {rest'} self o x y p q =
    tested_both R (λ k r. refuse k r 0) (λ k r. self k r 0) s
    (rings_both (first_end s) (second_end s) R (λ g r. self 11 r g) of_net) x y
    (begins_map (λ z. z) refuse s (λ n r. (n, r)) p) q
  where
    of_net : (x y : A) → Net s (nodes_of s) × rest x → rest' y → R x y
    of_net x y h = o h.0 x y h.1

-- so equal ones, where their rests do;
pub begins_alike : {A : Type 0} (refuse : ℕ → ℕ → ℕ → A) (s : List ℕ) {rest rest' : A → Type 0}
    → (Net s (nodes_of s) → (x y : A) → rest x → rest' y → x ≡ y) → (x y : A) → Begins A refuse s rest x
    → Begins A refuse s rest' y → x ≡ y
begins_alike refuse s = begins_both (λ x y. x ≡ y) refuse s (λ k r g. refl)

-- so there is one outcome, where the rest allows one, and where it does of an accepted net;
pub begins_only : {A : Type 0} (refuse : ℕ → ℕ → ℕ → A) (s : List ℕ) {rest : A → Type 0} → Only rest
    → Only (Begins A refuse s rest)
begins_only refuse s o = begins_alike refuse s (λ _. o)

pub begins_net_only : {A : Type 0} (refuse : ℕ → ℕ → ℕ → A) (s : List ℕ) {rest : A → Type 0}
    → (Net s (nodes_of s) → Only rest) → Only (Begins A refuse s rest)
begins_net_only refuse s o = begins_alike refuse s o

-- and what acceptance refuses, every operation that begins with it refuses alike
pub refused_alike : {A : Type 0} (refuse : ℕ → ℕ → ℕ → A) (s : List ℕ) {rest : A → Type 0} {x : A} (k r g : ℕ)
    → Accepts s (acceptance_refusal k r g) → Begins A refuse s rest x → x ≡ refuse k r g
refused_alike refuse s {x = x} k r g p q =
    begins_alike refuse s {rest' = λ _. ⊥} (λ _ a b h none. absurd none) x (refuse k r g) q
    (refused_on refuse s (record { number = k; row = r; ring = g }) p)

pub accept_only : (s : List ℕ) → Only (Accepts s)
accept_only s = begins_only acceptance_refusal s (λ x y p q. p ∙ sym q)

-- What the three numbers of a refusal of 1 to 11 are: a row below 4,096, or none; a ring of no more rows than there are
-- up to the row named, and of 11 alone
pub record Told (k r g : ℕ) : Type 0 where
  pub low : r < 4096
  pub few : g ≤ r + 1
  pub alone : k ≢ 11 → g ≡ 0

-- and what holds of each such refusal, and of what follows, holds of the outcome
pub by_beginning : {A : Type 0} (C : A → Type 0) (refuse : ℕ → ℕ → ℕ → A) (s : List ℕ) {rest : A → Type 0}
    → ((k r g : ℕ) → Told k r g → C (refuse k r g)) → ((x : A) → rest x → C x) → {x : A} → Begins A refuse s rest x
    → C x
by_beginning C refuse s h f p =
    by_tested C (λ k r. refuse k r 0) s (λ k r l. h k r 0 (named k r l))
    (λ n _. by_rows C (λ g r l q. h 11 r g (ringed n l (most_rows _ _ q))) f)
    p
  where
    named : (k r : ℕ) → r < 4096 → Told k r 0
    named k r l = record { low = l; few = omega arith; alone = λ _. refl }

    ringed : {n r g : ℕ} → n ≤ 4096 → r < n - 1 → g ≤ r + 1 → Told 11 r g
    ringed few l m = record { low = omega arith; few = m; alone = λ n. absurd (n refl) }

-- where 11 is given, the table is good, and the row named is the first that closes a ring, with its number
pub record Closer (s : List ℕ) (r g : ℕ) : Type 0 where
  pub good : GoodTable s
  pub below : r < nodes_of s - 1
  pub before : Forest (first_end s) (second_end s) r
  pub number : RingRows (first_end s) (second_end s) r g
  pub some : g ≡ 0 → ⊥

module _ (s : List ℕ) where
  eleven : (x : Acceptance) → (why_of x).number ≡ 11 → GoodTable s
      → Rings Acceptance acceptance_refusal s (nodes_of s) (λ x. x ≡ acceptance (nodes_of s) (bound_of s)) x
      → Closer s (why_of x).row (why_of x).ring
  eleven x e t (bad r k l before is not) =
      record { good = t; below = l; before = rows_open (first_end s) (second_end s) before; number = is; some = not }
  eleven x e t (fine all p) = absurd (omega (arith, ap (λ (o : Acceptance). (why_of o).number) p))

  -- 11 is none of the table's own numbers
  other : (k : ℕ) → Own k → k ≢ 11
  other k (inl l) e = omega (arith, l, e)
  other k (inr l) e = omega (arith, l.0, e)

  pub closer : (r g : ℕ) → Accepts s (acceptance_refusal 11 r g) → Closer s r g
  closer r g p =
      let t = tested_past (λ k r. acceptance_refusal k r 0) s
      (λ k q _ own e. other k own (ap (λ (o : Acceptance). (why_of o).number) e)) p in
      eleven (acceptance_refusal 11 r g) refl t.0 t.1
