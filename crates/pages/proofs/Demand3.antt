-- DEMAND 3: the pages of a listing join up to the whole.
-- For whatever Value says of a path's length and weight, over any length test, any weight test and n nodes; Passes,
-- Listing, Page, PagesFrom, Paged and Calls are the meanings of specs/.
use Prim.Native.Nat.{ℕ, ◌+◌, ◌-◌, ◌*◌, ◌/◌, ◌≤◌, ◌<◌}
use mathlib.Core.Path.{◌≡◌}
use mathlib.Core.List.{List}
use native.Mathlib.Omega.{arith}
use lib.IntN.{ℤ}
use lib.ListN.{length}
use Rattle.table.specs.Bytes.{u16_at}
use Rattle.pages.specs.Listing.{Entry, Listing}
use Rattle.pages.specs.Passes.{Passes}
use Rattle.pages.specs.Page.{Following, Page}
use Rattle.pages.specs.work.Pages.{PagesFrom}
use Rattle.pages.specs.Paged.{Paged}
use Rattle.pages.specs.work.Calls.{Calls}
use Rattle.pages.proofs.Listings.{listing_only}
use Rattle.pages.proofs.Pages.{pages_listing, whole_follows, page_count, page_some}
use Rattle.pages.proofs.Calls.{calls_pages, calls_fewer, calls_next}

module _ {Value : ℕ → ℕ → ℕ → ℤ → Type 0} {Within : ℕ → Type 0} {Heavy : ℤ → Type 0} {n : ℕ} where
  -- Pages asked for from (0, 0) until none is left, each with room for one row or more, each going on after the last
  -- row given, join up to the listing: every qualifying pair, lower node first, each once, in order.
  pub join_up : {joined : List Entry} → PagesFrom (Passes Value Within Heavy n) 0 0 joined
      → Listing (Passes Value Within Heavy n) joined
  join_up r = whole_follows (λ e p. p.pair) (pages_listing r)

  -- At each page rows given and rows left add up to what follows that page's starting pair.
  pub add_up : {s t room left : ℕ} {given whole : List Entry} → Page (Passes Value Within Heavy n) s t room given left
      → Listing (Following (Passes Value Within Heavy n) s t) whole → length given + left ≡ length whole
  add_up p w = page_count p w

  -- The same over a caller's bytes, each next start read out of the last row written: calls from (0, 0) until none is
  -- left give the listing, and at each call rows given and rows left add up to what follows its start.
  module _ (few : n ≤ 65536) where
    pub calls_join_up : {joined : List Entry} → Calls (Passes Value Within Heavy n) 0 0 joined
        → Listing (Passes Value Within Heavy n) joined
    calls_join_up c = join_up (calls_pages (λ e p. (omega (arith, p.pair, p.node), omega (arith, p.node))) c)

  pub calls_add_up : {s t given left : ℕ} {old now : List ℕ} {whole : List Entry}
      → Paged (Passes Value Within Heavy n) s t old given left now
      → Listing (Following (Passes Value Within Heavy n) s t) whole → given + left ≡ length whole
  calls_add_up c w = rw c.count (add_up c.page w)

  -- Calls come to an end: each begins with fewer to give than the one before.
  module _ (few : n ≤ 65536) where
    pub fewer_left : {s t given left given₂ left₂ : ℕ} {old now old₂ now₂ : List ℕ} → 16 ≤ length old
        → Paged (Passes Value Within Heavy n) s t old given left now → 0 < left → 16 ≤ length old₂
        → Paged (Passes Value Within Heavy n) (u16_at now (16 * (given - 1))) (u16_at now (16 * (given - 1) + 2)) old₂
        given₂ left₂ now₂ → left₂ < left
    fewer_left h c z h₂ d = calls_fewer (λ e p. (omega (arith, p.pair, p.node), omega (arith, p.node))) h c z h₂ d

    -- and where some are left the next start is there, two numbers of 16 bits
    pub next_start : {s t given left : ℕ} {old now : List ℕ} → 16 ≤ length old
        → Paged (Passes Value Within Heavy n) s t old given left now → 0 < left
        → (u16_at now (16 * (given - 1)) < 65536) × (u16_at now (16 * (given - 1) + 2) < 65536)
    next_start h c z = calls_next (λ e p. (omega (arith, p.pair, p.node), omega (arith, p.node))) h c z

  -- A call gives some where some follow its start.
  pub calls_some : {s t given left : ℕ} {old now : List ℕ} {e : Entry} → 16 ≤ length old
      → Paged (Passes Value Within Heavy n) s t old given left now → Following (Passes Value Within Heavy n) s t e
      → 0 < given
  calls_some {old = old} h c f = omega (arith, c.count, page_some {room = length old / 16} (omega arith) c.page f)

  -- There is one such list.
  pub one_listing : {joined whole : List Entry} → Listing (Passes Value Within Heavy n) joined
      → Listing (Passes Value Within Heavy n) whole → joined ≡ whole
  one_listing a b = listing_only a b
