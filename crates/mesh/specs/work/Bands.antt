-- The rows that are no node's own, and the nodes that each of them passes over: the bands. A band is called by one of
-- its nodes, the end of its row that was hung up later; a node that no row passes over is a band by itself.
use Rattle.std.specs.Prelude.{ℕ, ◌+◌, ◌≤◌, ◌<◌, ◌≡◌, ◌⊎◌, ◌≢◌, List, Bool, true, false, length}
use Rattle.arrays.specs.At.{at}
use Rattle.net.specs.Graph.{Ends}
use Rattle.net.specs.Count.{Count}
use Rattle.mesh.specs.Mesh.{RepeatsPair, OneRing}
use Rattle.mesh.specs.work.Hung.{AboveIn, HungAt}

-- no row repeats a pair
abbrev pub NoRepeat : (ℕ → ℕ) → (ℕ → ℕ) → ℕ → Type 0
NoRepeat u v k = (r : ℕ) → r < k → ¬ RepeatsPair u v r

-- row r leads out from below t: p is below, q is not
pub record LeadsOut (u v : ℕ → ℕ) (a : ℕ) (par : ℕ → ℕ) (t r : ℕ) : Type 0 where
  pub p : ℕ
  pub q : ℕ
  pub joins : Ends u v r p q
  pub below : AboveIn a par t p
  pub beside : ¬ AboveIn a par t q

-- row r joins no node to its parent
pub record Extra (u v : ℕ → ℕ) (par : List ℕ) (r : ℕ) : Type 0 where
  pub first : at par (u r) ≢ v r
  pub second : at par (v r) ≢ u r

-- of two nodes the one of the later place
abbrev pub Later : List ℕ → ℕ → ℕ → ℕ → Type 0
Later place x y z = ((z ≡ y) × (at place x < at place y)) ⊎ ((z ≡ x) × (at place y ≤ at place x))

-- of the first i rows one, beside x's own, leads out from below x, and w is its later end; or none, and w is none's
-- sign
pub data PassedOver (u v : ℕ → ℕ) (a : ℕ) (par place : List ℕ) (none i x w : ℕ) : Type 0 where
  clear : w ≡ none → ((r : ℕ) → r < i → Extra u v par r → ¬ LeadsOut u v a (at par) x r)
      → PassedOver u v a par place none i x w
  by : (f : ℕ) → f < i → Extra u v par f → LeadsOut u v a (at par) x f
      → ((r : ℕ) → r < i → Extra u v par r → LeadsOut u v a (at par) x r → r ≡ f) → Later place (u f) (v f) w
      → PassedOver u v a par place none i x w

-- so of each node, 256 where there is none
pub record AllPassed (u v : ℕ → ℕ) (n a : ℕ) (par place : List ℕ) (i : ℕ) (over : List ℕ) : Type 0 where
  pub long : length over ≡ 256
  pub each : (x : ℕ) → x < n → PassedOver u v a par place 256 i x (at over x)

-- so named: a node that no row passes over gets its own number
abbrev pub NamedFrom : ℕ → List ℕ → List ℕ → Type 0
NamedFrom n over named =
    (x : ℕ) → x < n → (at over x ≡ 256 → at named x ≡ x) × (at over x ≢ 256 → at named x ≡ at over x)

-- how many of the first i nodes each band has
pub record BandSizes (i : ℕ) (over size : List ℕ) : Type 0 where
  pub long : length size ≡ 256
  pub fits : (x : ℕ) → x < i → at over x < 256
  pub each : (g : ℕ) → g < 256 → Count (λ x. (x < i) × (at over x ≡ g)) (at size g)

-- what is asked of the climb from the two ends of row r: the first r rows are done, and row r is no node's own
pub record Round (u v : ℕ → ℕ) (k n a : ℕ) (par order place : List ℕ) (r p q : ℕ) (over : List ℕ) : Type 0 where
  pub hung : HungAt u v k n a par order place
  pub row : r < k
  pub ends : (p ≡ u r) × (q ≡ v r)
  pub extra : Extra u v par r
  pub done : AllPassed u v n a par place r over

-- some row is climbed so
pub record SomeRound (par place : List ℕ) (p q : ℕ) (over : List ℕ) : Type 0 where
  pub u : ℕ → ℕ
  pub v : ℕ → ℕ
  pub k : ℕ
  pub n : ℕ
  pub a : ℕ
  pub order : List ℕ
  pub r : ℕ
  pub round : Round u v k n a par order place r p q over

-- and then it is done, or lies on two rings: whichever row it is
abbrev pub RoundEnd : List ℕ → List ℕ → ℕ → ℕ → List ℕ → List ℕ → Bool → Type 0
RoundEnd par place p q over after fine =
    (u v : ℕ → ℕ) (k n a : ℕ) (order : List ℕ) (r : ℕ) → Round u v k n a par order place r p q over
    → (fine ≡ true → AllPassed u v n a par place (r + 1) after) × (fine ≡ false → ¬ OneRing u v k)

-- the rows u, v make some tree with these parents and places
pub record SomeHung (u v : ℕ → ℕ) (k : ℕ) (par place : List ℕ) : Type 0 where
  pub n : ℕ
  pub a : ℕ
  pub order : List ℕ
  pub hung : HungAt u v k n a par order place

-- all rows are done, or some row lies on two rings: whichever tree it is
abbrev pub PassesEnd : (ℕ → ℕ) → (ℕ → ℕ) → ℕ → List ℕ → List ℕ → List ℕ → Bool → Type 0
PassesEnd u v k par place after fine =
    (n a : ℕ) (order : List ℕ) → HungAt u v k n a par order place
    → (fine ≡ true → AllPassed u v n a par place k after) × (fine ≡ false → ¬ OneRing u v k)
