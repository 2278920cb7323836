-- Block after block: how the list stands is kept, and when the lines are over it is the verdict's.
use Prim.Native.Nat.{ℕ, ◌+◌, ◌-◌, ◌*◌, ◌/◌, ◌≤◌, ◌<◌}
use mathlib.Core.Path.{◌≡◌}
use mathlib.Core.Logic.{◌≢◌}
use mathlib.Core.List.{List}
use native.Mathlib.Omega.{arith}
use native.Mathlib.Nat.{mul-div-le, div-le_self, le-div_iff_mul-le}
use lib.ListN.{length}
use Rattle.std.proofs.Common.{Option, Some, None}
use Rattle.limits.specs.declared.Limit.{Limit}
use Rattle.pages.specs.Listing.{Entry}
use Rattle.figures.specs.work.Bins.{Tables}
use Rattle.vetting.specs.Vets.{Vets}
use Rattle.vetting.specs.declared.Verdict.TheVariants.{Yes, Fault, Missing}
use Rattle.vetting.specs.declared.lacks.Lack.{Lack}
use Rattle.vetting.specs.declared.pairs.Pairs.{Pairs}
use Rattle.vetting.specs.work.Foreign.{FirstForeign}
use Rattle.vetting.specs.work.Lines.{LineDone, Block}
use Rattle.vetting.specs.work.Meant.{Numbers, Ready}
use Rattle.vetting.specs.work.Repeats.{Named, Unrepeated, Repeats, Repeatable}
use Rattle.vetting.specs.work.Lacks.{InSet, FirstOf, FirstLack, BlockLack, open_to}
use Rattle.vetting.specs.work.Screened.{ScreenedTo, RowsAsked, BlocksAsked}
use Rattle.vetting.proofs.Lacking.{lack_none, lack_next, open_within}
use Rattle.vetting.proofs.Screening.{
  Paired,
  belong_pairs,
  screened_none,
  screened_next,
  vets_fault,
  vets_yes,
  vets_missing,
}

-- what the loop keeps: blocks of `height` lines, and how the list stands before line `end`
pub record Blocked (P : Entry → Type 0) (s : List ℕ) (m n height r : ℕ) (k : Option Lack) (end : ℕ) : Type 0 where
  pub room : n * height ≤ 1048576
  pub some : 0 < height
  pub few : height ≤ 1048576
  pub small : end ≤ 1050624
  pub to : ScreenedTo P s m n end r k

-- the numbers that are asked, with the tables made of them
pub numbers_of : {s : List ℕ} {m n : ℕ} {spot above tail front gap far heavy : List ℕ} {limit : Limit}
    → RowsAsked s m n spot above far heavy limit → Tables above tail front gap
    → Numbers n spot above tail front gap far heavy limit
numbers_of A t = record { figurable = A.figurable; tables = t; most = A.most }

pub asked_numbers : {s : List ℕ} {m : ℕ} {p : Pairs} → BlocksAsked s m p → Ready p
asked_numbers A = numbers_of A.rows A.tables

-- the set has room for a line
tall : {n : ℕ} → 0 < n → n ≤ 4096 → 0 < 1048576 / n
tall {n} h l = omega (arith, (le-div_iff_mul-le {k = n} {x = 1} {y = 1048576} h).1 (omega arith))

module _ {P : Entry → Type 0} {n : ℕ} (Q : Paired P n) {s : List ℕ} {m : ℕ} where
  pub blocks_start : {r : ℕ} → 0 < n → n ≤ 4096 → FirstForeign P s m r → Blocked P s m n (1048576 / n) r None 0
  blocks_start h l F = record {
    room = mul-div-le 1048576 n;
    some = tall h l;
    few = div-le_self 1048576 n;
    small = omega arith;
    to = record { rows = screened_none Q s F; lack = λ _. lack_none n };
  }

  module _ {height r from : ℕ} {k : Option Lack} (B : Blocked P s m n height r k from) (more : 2 * from < n)
      (nodes : n ≤ 4096) where
    pub block_of : Block n from (from + height)
    block_of =
        let e : from + height - from ≡ height = omega arith in
        record { nodes = nodes; rises = omega arith; room = rw e B.room }

    pub repeatable : length s ≡ 16 * m → Repeatable s n from (from + height) r
    repeatable l =
        let T = B.to.rows in
        record { block = block_of; named = belong_pairs Q s (omega (arith, T.within)) T.belong }

    module _ {x : ℕ} {bits : List ℕ} (R : Repeats s n from (from + height) r x bits) where
      kept : (k' : Option Lack) → (x ≡ m → FirstLack P (Named s m) n (LineDone n (from + height)) k')
          → Blocked P s m n height x k' (from + height)
      kept k' f = record {
        room = B.room;
        some = B.some;
        few = B.few;
        small = omega (arith, B.few, nodes, more);
        to = record { rows = screened_next Q s B.to.rows R; lack = f };
      }

      -- a row is at fault: no pair is looked for
      pub blocks_skip : x ≢ m → Blocked P s m n height x k (from + height)
      blocks_skip o = kept k (λ e. absurd (o e))

      module _ (e : x ≡ m) where
        full : r ≡ m
        full = omega (arith, R.within, B.to.rows.within)

        pub known_open : open_to n k ≤ n
        known_open = open_within P (Named s m) n (LineDone n from) k (B.to.lack full)

        pub blocks_next : {k' : Option Lack} → length s ≡ 16 * m
            → BlockLack P (InSet n from bits) n from (from + height) k k'
            → Blocked P s m n height x k' (from + height)
        blocks_next {k'} l K =
            kept k'
            (λ _. lack_next (belong_pairs Q s (omega arith) (λ i h. B.to.rows.belong i (omega (arith, full)))) seen
            k (B.to.lack full) K (omega arith))
          where
            seen : Unrepeated s n from (from + height) m bits
            seen = rw e at R.seen

  -- THE VERDICT
  module _ {height r end : ℕ} {k : Option Lack} (h : n ≤ 2 * end) (B : Blocked P s m n height r k end) where
    pub verdict_fault : r < m → Vets P s m (Fault r)
    verdict_fault l = vets_fault Q s h B.to.rows l

    module _ (e : m ≤ r) where
      all : r ≡ m
      all = omega (arith, B.to.rows.within)

      pub verdict_yes : k ≡ None → Vets P s m Yes
      verdict_yes o = vets_yes Q s h B.to.rows all (rw o at (B.to.lack all))

      module _ {l : Lack} (o : k ≡ Some l) where
        first_of : FirstOf P (Named s m) n (LineDone n end) l
        first_of = rw o at (B.to.lack all)

        pub verdict_missing : Vets P s m (Missing l.low l.high)
        verdict_missing = vets_missing Q s h B.to.rows all first_of
