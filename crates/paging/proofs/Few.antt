-- What a page gives and leaves over is bounded. Together they are at most 4,096 × 4,096, for pairs of nodes below 4,096
-- rise; and the rows given stand in the lent bytes.
use Prim.Native.Nat.{ℕ, ◌+◌, ◌*◌, ◌≤◌, ◌<◌}
use mathlib.Core.Path.{refl, ap}
use mathlib.Core.List.{List, [], ◌∷◌}
use native.Mathlib.Omega.{arith}
use lib.IntN.{ℤ}
use lib.ListN.{length, length-append}
use Rattle.arrays.specs.Members.{In, at, past}
use Rattle.pages.specs.Listing.{Entry, first, second, Before, Rising, more}
use Rattle.pages.specs.Passes.{Passes}
use Rattle.pages.specs.Paged.{Paged}
use Rattle.pages.proofs.Rows.{rows_length}

-- a pair's place among all pairs of nodes below 4,096
abbrev place : Entry → ℕ
place e = 4096 * e.low + e.high

later : (x y : Entry) → x.high < 4096 → Before x y → place x < place y
later x y h (first l) = omega arith
later x y h (second e l) = omega arith

rising_few : (l : List Entry) (b m : ℕ) → b ≤ m → Rising l
    → ((e : Entry) → In e l → (e.high < 4096) × (b ≤ place e) × (place e < m)) → b + length l ≤ m
rising_few [] b m h r p = omega arith
rising_few (x ∷ l) b m h (more before r) p =
    let here = p x (at refl) in
    let rest = rising_few l (place x + 1) m (omega (arith, here.2)) r
    (λ e i. ((p e (past i)).0, omega (arith, later x e here.0 (before e i)), (p e (past i)).2)) in
    omega (arith, here.1, rest)

pub paged_few : {Value : ℕ → ℕ → ℕ → ℤ → Type 0} {Within : ℕ → Type 0} {Heavy : ℤ → Type 0}
    {n low high written left : ℕ} {old bytes : List ℕ} → n ≤ 4096
    → Paged (Passes Value Within Heavy n) low high old written left bytes → written + left ≤ 16777216
paged_few nodes p =
    let g = p.page in
    let few = rising_few g.rows 0 16777216 (omega arith) g.all.rising
    (λ e i. let q = (g.all.sound e i).0 in (omega (arith, q.node), omega arith, omega (arith, q.pair, q.node))) in
    omega (arith, p.count, g.rest, few)

pub paged_room : {P : Entry → Type 0} {low high written left : ℕ} {old bytes : List ℕ}
    → Paged P low high old written left bytes → 16 * written ≤ length bytes
paged_room p = omega (arith, p.count, simp (length-append, rows_length) at (ap length p.bytes))
