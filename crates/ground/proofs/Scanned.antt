-- What a scan over first nodes asks of a net that it stands on: its sweeps hold the values of paths, and each pair has
-- one. The key that it goes by is a length, in the same net or in one with the same walk whose branches are otherwise
-- long; in the same net what passes by the key passes by the length.
use Prim.Native.Nat.{ℕ}
use mathlib.Core.List.{List}
use lib.IntN.{ℤ}
use Rattle.pages.specs.Listing.{Entry}
use Rattle.pages.specs.Passes.{Passes}
use Rattle.pages.specs.work.Keyed.{Keyed}
use Rattle.pages.specs.work.Lowered.{lower}
use Rattle.pages.proofs.Lift.{lower_is}
use Rattle.pages.proofs.Firsts.{Single, Valued}
use Rattle.paths.specs.work.Ground.{Ground}
use Rattle.paths.specs.work.Paths.{Paths}
use Rattle.paths.proofs.Single.{one_value}
use Rattle.ground.specs.work.Grounded.{ValueIn, LengthIn}
use Rattle.arrays.specs.At.{at}

module _ {n : ℕ} {parent order place kl kw bl bw : List ℕ} (k : Ground n parent order place kl kw)
    (g : Ground n parent order place bl bw) where
  -- one path, one value
  pub single : Single (ValueIn g) (LengthIn k)
  single = record {
    one_length = λ a b l w l₁ w₁ p q. (one_value g p q).0;
    one_weight = λ a b l w l₁ w₁ p q. (one_value g p q).1;
    one_key = λ a b l l₁ p q. (one_value k p.1 q.1).0;
  }

  -- a sweep for the keys, and one for lengths and weights
  pub valued : {u : ℕ} {key kt len wt : List ℕ} → Paths k u key kt → Paths g u len wt
      → Valued (ValueIn g) (LengthIn k) u n key len wt
  valued {kt = kt} p q =
      record {
        value = q.value;
        keyed = λ v b. (lower (at kt v), p.value v b (lower (at kt v)) (lower_is (at kt v)));
        light = q.small;
      }

-- THE KEY IS THE LENGTH
module _ {n : ℕ} {parent order place bl bw : List ℕ} (g : Ground n parent order place bl bw) {Within : ℕ → Type 0}
    {Heavy : ℤ → Type 0} where
  pub by_length : (e : Entry) → Keyed (ValueIn g) (LengthIn g) Within Heavy n e → Passes (ValueIn g) Within Heavy n e
  by_length e p =
      record {
        pair = p.pair;
        node = p.node;
        path = p.path.0;
        short = rw (one_value g p.path.0 p.path.1.is.1).0 p.path.1.within;
        heavy = p.heavy;
      }

  pub by_key : (e : Entry) → Passes (ValueIn g) Within Heavy n e → Keyed (ValueIn g) (LengthIn g) Within Heavy n e
  by_key e p =
      record {
        pair = p.pair;
        node = p.node;
        path = (p.path, record { key = e.length; is = (e.weight, p.path); within = p.short });
        short = tt;
        heavy = p.heavy;
      }
