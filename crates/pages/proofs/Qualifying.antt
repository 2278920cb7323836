-- An entry that passes some tests passes those that follow from them.
use Prim.Native.Nat.{ℕ}
use lib.IntN.{ℤ}
use Rattle.pages.specs.Listing.{Entry}
use Rattle.pages.specs.Passes.{Passes}

pub passes_map : {Value Value' : ℕ → ℕ → ℕ → ℤ → Type 0} {Within Within' : ℕ → Type 0} {Heavy Heavy' : ℤ → Type 0}
    {n : ℕ} {e : Entry}
    → (Value e.low e.high e.length e.weight → Value' e.low e.high e.length e.weight)
    → (Within e.length → Within' e.length) → (Heavy e.weight → Heavy' e.weight)
    → Passes Value Within Heavy n e → Passes Value' Within' Heavy' n e
passes_map path short heavy p =
    record {
      pair = p.pair;
      node = p.node;
      path = path p.path;
      short = short p.short;
      heavy = heavy p.heavy;
    }
