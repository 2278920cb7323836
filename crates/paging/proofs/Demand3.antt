-- DEMAND 3 of every operation that lists: calls from (0, 0) until none is left, each lending 16 bytes or more, each
-- going on after the last row given, write the whole listing: every qualifying pair, lower node first, each once, in
-- order. It is shown once, over what the operation promises of a call and over what its entries must pass; the
-- operations cite it.
use Rattle.paging.specs.Paging.{Listed, listed}
use Prim.Native.Nat.{ℕ, zero, suc, ◌+◌, ◌*◌, ◌≤◌, ◌<◌}
use mathlib.Core.Path.{◌≡◌, sym, ap, ◌∙◌}
use mathlib.Core.List.{List, [], ◌++◌, append-nil}
use native.Mathlib.Omega.{arith}
use native.Mathlib.Decide.{dec_lt}
use lib.IntN.{ℤ}
use lib.ListN.{length, take}
use Rattle.tree.specs.declared.Refusal.{Refusal}
use Rattle.pages.specs.Listing.{Entry, Listing}
use Rattle.pages.specs.Passes.{Passes}
use Rattle.pages.specs.Page.{Following}
use Rattle.pages.specs.Paged.{Paged}
use Rattle.pages.specs.Bytes.{rows, entries}
use Rattle.pages.specs.work.Calls.{Calls, done, again}
use Rattle.pages.specs.work.RowFits.{RowFits}
use Rattle.pages.proofs.Rows.{rows_append}
use Rattle.pages.proofs.Back.{rows_back}
use Rattle.pages.proofs.Calls.{paged_written}
use Rattle.pages.proofs.Demand3 as pages
use Rattle.paging.specs.Asks.{last_low, last_high, Asks, last, next}
use Rattle.std.specs.Prelude.{Ok, Err}

-- what a call that is not refused gives: a page of the entries that pass, of 4,096 nodes at the most, and every such
-- entry fits a row
pub record PageGiven (Value : ℕ → ℕ → ℕ → ℤ → Type 0) (Within : ℕ → Type 0) (Heavy : ℤ → Type 0) (n low high : ℕ)
    (old : List ℕ) (written left : ℕ) (bytes : List ℕ) : Type 0 where
  pub few : n ≤ 4096
  pub page : Paged (Passes Value Within Heavy n) low high old written left bytes
  pub fits : (e : Entry) → Passes Value Within Heavy n e → RowFits e

-- what is asked of an operation that lists; Call is what it promises of a call: its starting pair, the lent bytes, and
-- the outcome
pub record Lists (Call : ℕ → ℕ → List ℕ → Listed × List ℕ → Type 0) (Value : ℕ → ℕ → ℕ → ℤ → Type 0)
    (Within : ℕ → Type 0) (Heavy : ℤ → Type 0) (n : ℕ) : Type 0 where
  pub gives : {low high written left : ℕ} {old bytes : List ℕ} → Call low high old (listed written left, bytes)
      → PageGiven Value Within Heavy n low high old written left bytes

-- where each call has an outcome, as the code's contract gives one, the calls from (0, 0) come to an end, none of them
-- is refused, and what they wrote is the listing
abbrev pub JoinsUp : (ℕ → ℕ → List ℕ → Listed × List ℕ → Type 0) → (Entry → Type 0) → Type 0
JoinsUp Call P =
    (lent : ℕ → List ℕ)
    → ((i : ℕ) → 16 ≤ length (lent i))
    → ((i low high : ℕ) → low < 65536 → high < 65536 → (x : Listed × List ℕ) × Call low high (lent i) x)
    → (joined : List ℕ)
    × (whole : List Entry)
    × Asks Call 0 0 joined
    × Listing P whole
    × (joined ≡ rows whole)

-- a call that gives rows
pub record Given (Call : ℕ → ℕ → List ℕ → Listed × List ℕ → Type 0) (low high : ℕ) (old : List ℕ) : Type 0 where
  pub written : ℕ
  pub left : ℕ
  pub bytes : List ℕ
  pub is : Call low high old (listed written left, bytes)

-- calls from (low, high) that come to the end
abbrev pub AskedFrom : (ℕ → ℕ → List ℕ → Listed × List ℕ → Type 0) → ℕ → ℕ → Type 0
AskedFrom Call low high = (joined : List ℕ) × Asks Call low high joined

module _ {Call : ℕ → ℕ → List ℕ → Listed × List ℕ → Type 0} {Value : ℕ → ℕ → ℕ → ℤ → Type 0} {Within : ℕ → Type 0}
    {Heavy : ℤ → Type 0} {n : ℕ} (lists : Lists Call Value Within Heavy n) where
  -- the calls' bytes are the rows of calls as the pages crate has them
  as_calls : {low high : ℕ} {joined : List ℕ} → Asks Call low high joined
      → (entries : List Entry) × Calls (Passes Value Within Heavy n) low high entries × (joined ≡ rows entries)
  as_calls (last h p) =
      let g = (lists.gives p).page in
      (g.some, done h g, paged_written g)
  as_calls (next h p l r) =
      let g = (lists.gives p).page in
      let t = as_calls r in
      (g.some ++ t.0, again h g l t.1, joins g.some t.0 (paged_written g) t.2)
    where
      joins : {a b : List ℕ} (l m : List Entry) → a ≡ rows l → b ≡ rows m → a ++ b ≡ rows (l ++ m)
      joins l m p q = rw (p, q, rows_append l m)

  -- the nodes are few, and what passes fits a row, wherever there was a call
  asked_few : {low high : ℕ} {joined : List ℕ} → Asks Call low high joined → n ≤ 65536
  asked_few (last h p) = omega (arith, (lists.gives p).few)
  asked_few (next h p l r) = omega (arith, (lists.gives p).few)

  asked_fits : {low high : ℕ} {joined : List ℕ} → Asks Call low high joined → (e : Entry)
      → Passes Value Within Heavy n e → RowFits e
  asked_fits (last h p) = (lists.gives p).fits
  asked_fits (next h p l r) = (lists.gives p).fits

  -- The calls from (0, 0) write the rows of the listing, and of no other list.
  pub join_up : {joined : List ℕ} {whole : List Entry} → Asks Call 0 0 joined
      → Listing (Passes Value Within Heavy n) whole → joined ≡ rows whole
  join_up a w =
      let t = as_calls a in
      t.2 ∙ ap rows (pages.one_listing (pages.calls_join_up (asked_few a) t.1) w)

  -- There is such a list wherever the calls came to their end.
  pub there_is : {joined : List ℕ} → Asks Call 0 0 joined
      → (whole : List Entry) × Listing (Passes Value Within Heavy n) whole
  there_is a = let t = as_calls a in (t.0, pages.calls_join_up (asked_few a) t.1)

  -- What the calls wrote, read 16 bytes at a time, is the listing: a row loses nothing of its entry.
  pub loses_nothing : {joined : List ℕ} {whole : List Entry} → Asks Call 0 0 joined
      → Listing (Passes Value Within Heavy n) whole → entries joined 0 (length whole) ≡ whole
  loses_nothing {joined} {whole} a w =
      let e : joined ≡ rows whole ++ [] = join_up a w ∙ sym (append-nil (rows whole)) in
      rw e (rows_back whole [] (λ x i. asked_fits a x (w.sound x i)))

  -- At each call rows written and rows left add up to what follows its starting pair.
  pub add_up : {low high written left : ℕ} {old bytes : List ℕ} {whole : List Entry}
      → Call low high old (listed written left, bytes) → Listing (Following (Passes Value Within Heavy n) low high)
      whole
      → written + left ≡ length whole
  add_up p w = pages.calls_add_up (lists.gives p).page w

  -- Each call leaves fewer than the one before.
  pub fewer_left : {low high written left written₂ left₂ : ℕ} {old bytes old₂ bytes₂ : List ℕ} → 16 ≤ length old
      → Call low high old (listed written left, bytes) → 0 < left → 16 ≤ length old₂
      → Call (last_low written bytes) (last_high written bytes) old₂ (listed written₂ left₂, bytes₂) → left₂ < left
  fewer_left h p l h₂ q =
      let g = lists.gives p in
      pages.fewer_left (omega (arith, g.few)) h g.page l h₂ (lists.gives q).page

  -- A call writes at least one row where some pair follows its start: no page is empty before the listing's end.
  pub writes_some : {low high written left : ℕ} {old bytes : List ℕ} → 16 ≤ length old
      → Call low high old (listed written left, bytes) → (e : Entry)
      → Following (Passes Value Within Heavy n) low high e → 0 < written
  writes_some h p e f = pages.calls_some h (lists.gives p).page f

  -- nothing left: this call is the last
  ends : {low high written left : ℕ} {old bytes : List ℕ} → 16 ≤ length old → left ≡ 0
      → Call low high old (listed written left, bytes) → AskedFrom Call low high
  ends {written = written} {bytes = bytes} h e p = (take (16 * written) bytes, last h (rw e at p))

  -- Where every call from two 16-bit numbers gives rows, calls from any such start come to the end, whatever each of
  -- them lends.
  module _ (lent : ℕ → List ℕ) (enough : (i : ℕ) → 16 ≤ length (lent i))
      (answer : (i low high : ℕ) → low < 65536 → high < 65536 → Given Call low high (lent i)) where
    from : (k i low high : ℕ) (a : low < 65536) (b : high < 65536) → (answer i low high a b).left ≤ k
        → AskedFrom Call low high
    from zero i low high a b h = ends (enough i) (omega arith) (answer i low high a b).is
    from (suc k) i low high a b h = pick (answer i low high a b) h (from k (i + 1))
      where
        pick : (x : Given Call low high (lent i)) → x.left ≤ suc k
            → ((low high : ℕ) (a : low < 65536) (b : high < 65536) → (answer (i + 1) low high a b).left ≤ k
            → AskedFrom Call low high)
            → AskedFrom Call low high
        pick x h ih = or (dec_lt 0 x.left)
          where
            or : Dec (0 < x.left) → AskedFrom Call low high
            or (no m) = ends (enough i) (omega arith) x.is
            or (yes l) =
                let g = lists.gives x.is in
                let start = pages.next_start (omega (arith, g.few)) (enough i) g.page l in
                let y = answer (i + 1) (last_low x.written x.bytes) (last_high x.written x.bytes) start.0
                start.1 in
                let r = ih (last_low x.written x.bytes) (last_high x.written x.bytes) start.0 start.1
                (omega (arith, fewer_left (enough i) x.is l (enough (i + 1)) y.is)) in
                (take (16 * x.written) x.bytes ++ r.0, next {later = r.0} (enough i) x.is l r.1)

    pub come_to_an_end : (low high : ℕ) → low < 65536 → high < 65536 → AskedFrom Call low high
    come_to_an_end low high a b = from (answer 0 low high a b).left 0 low high a b (omega arith)

  -- WHERE NO CALL that lends room for a row is refused.
  module _ (answered : (low high : ℕ) (old bytes : List ℕ) (why : Refusal) → 16 ≤ length old
      → Call low high old (Err why, bytes) → ⊥) where
    given : {low high : ℕ} {old : List ℕ} (x : Listed × List ℕ) → 16 ≤ length old → Call low high old x
        → Given Call low high old
    given (Ok o, bytes) h p = record { written = o.written; left = o.left; bytes = bytes; is = p }
    given (Err why, bytes) h p = absurd (answered _ _ _ _ _ h p)

    pub demand_3 : JoinsUp Call (Passes Value Within Heavy n)
    demand_3 lent enough call =
        let t = come_to_an_end lent enough
        (λ i low high p q. let x = call i low high p q in given x.0 (enough i) x.1) 0 0 (omega arith)
        (omega arith) in
        let w = there_is t.1 in
        (t.0, w.0, t.1, w.1, join_up t.1 w.1)
