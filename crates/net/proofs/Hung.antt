-- Every accepted net hangs from node 0 without any walk: a node's parent and row are the first on its simple path to
-- node 0, and its place how many rows that path has.
use Prim.Native.Nat.{ℕ, ◌-◌, ◌<◌}
use mathlib.Core.Path.{◌≡◌, refl, ap}
use mathlib.Core.Logic.{inl, inr, ◌≢◌}
use mathlib.Core.List.{List, [], ◌∷◌}
use native.Mathlib.Omega.{arith}
use native.Mathlib.Decide.{dec_lt}
use lib.ListN.{length}
use Rattle.arrays.specs.Members.{Distinct}
use Rattle.net.specs.Graph.{First, Ends, Walk, stop, go, Joined}
use Rattle.net.specs.work.Simple.{Simple}
use Rattle.net.specs.work.Forest.{Forest}
use Rattle.net.specs.work.Rooted.{Rooted}
use Rattle.net.specs.Net.{first_end, second_end}
use Rattle.net.specs.work.Net.{Net}
use Rattle.net.proofs.Joined.{joined_trans, joined_sym}
use Rattle.net.proofs.Erase.{simple}
use Rattle.net.proofs.OnePath.{unique}
use Rattle.net.proofs.Above.{Tree}
use Rattle.net.proofs.Short.{path_rows}

-- some parents, rows and places
pub record Hangs (u v : ℕ → ℕ) (k n : ℕ) : Type 0 where
  pub par : ℕ → ℕ
  pub row : ℕ → ℕ
  pub place : ℕ → ℕ
  pub rooted : Rooted u v k n par row place
  pub tree : Tree n par place

first : List ℕ → ℕ
first [] = 0
first (y ∷ l) = y

module _ {u v : ℕ → ℕ} {k n : ℕ} (F : Forest u v k) (fit : (r : ℕ) → r < k → (u r < n) × (v r < n))
    (all : (x : ℕ) → x < n → Joined u v (First k) 0 x) where
  home : (x : ℕ) → x < n → Simple u v (First k) x 0
  home x b = simple u v (joined_sym u v (all x b))

  rows_home : (x : ℕ) → Dec (x < n) → List ℕ
  rows_home x (yes b) = (home x b).0
  rows_home x (no m) = []

  nodes_home : (x : ℕ) → Dec (x < n) → List ℕ
  nodes_home x (yes b) = (home x b).1
  nodes_home x (no m) = []

  par : ℕ → ℕ
  par x = first (nodes_home x (dec_lt x n))

  row : ℕ → ℕ
  row x = first (rows_home x (dec_lt x n))

  place : ℕ → ℕ
  place x = length (rows_home x (dec_lt x n))

  -- by whatever simple path
  home_is : (x : ℕ) (d : Dec (x < n)) → x < n → {rs ns : List ℕ} → Walk u v (First k) x rs ns 0 → Distinct (x ∷ ns)
      → (rows_home x d ≡ rs) × (nodes_home x d ≡ ns)
  unfolding rows_home nodes_home
  home_is x (yes b) c w d = unique u v F (home x b).2 w (home x b).3 d
  home_is x (no m) c w d = absurd (m c)

  record Step (x : ℕ) : Type 0 where
    low : row x < k
    ends : Ends u v (row x) x (par x)
    fits : par x < n
    less : place (par x) < place x

  step_of : {x y : ℕ} {rs ns : List ℕ} → x < n → x ≢ 0 → y ≡ 0 → Walk u v (First k) x rs ns y → Distinct (x ∷ ns)
      → Step x
  unfolding par row place first
  step_of b z q stop d = absurd (z q)
  step_of {x} b z q (go {r} {c = c} {rs = rs} {ns = ns} h e w) d =
      let all_of = home_is x (dec_lt x n) b (rw q at (go {r = r} {c = c} h e w)) d in
      let er : row x ≡ r = ap first all_of.0 in
      let ec : par x ≡ c = ap first all_of.1 in
      let fc : c < n = side e in
      let ep : place c ≡ length rs = ap length (home_is c (dec_lt c n) fc (rw q at w) d.1).0 in
      record {
        low = rw er h;
        ends = rw (er, ec) e;
        fits = rw ec fc;
        less = omega (arith, ap place ec, ep, ap length all_of.0);
      }
    where
      side : {a : ℕ} → Ends u v r a c → c < n
      side (inl p) = rw p.1 at (fit r h).1
      side (inr p) = rw p.0 at (fit r h).0

  steps : (x : ℕ) → x < n → x ≢ 0 → Step x
  steps x b z = let p = home x b in step_of b z refl p.2 p.3

  short : (x : ℕ) → x < n → place x < n
  unfolding place
  short x b =
      let p = home x b in
      omega (arith, path_rows fit b p.2 p.3, ap length (home_is x (dec_lt x n) b p.2 p.3).0)

  pub hangs : Hangs u v k n
  hangs = record {
    par = par;
    row = row;
    place = place;
    rooted = record {
      forest = F;
      fits = fit;
      all = λ a b h k. joined_trans u v (joined_sym u v (all a h)) (all b k);
      row_fits = λ x b z. (steps x b z).low;
      par_fits = λ x b z. (steps x b z).fits;
      ends = λ x b z. (steps x b z).ends;
      earlier = λ x b z. (steps x b z).less;
    };
    tree = record { fits = λ x b z. (steps x b z).fits; earlier = λ x b z. (steps x b z).less; within = short };
  }

pub net_hangs : {s : List ℕ} {n : ℕ} → Net s n → Hangs (first_end s) (second_end s) (n - 1) n
net_hangs t = hangs t.forest (λ r h. (t.first r h, t.second r h)) t.joined
