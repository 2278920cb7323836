-- The walk of an accepted net, for the crates above: it reaches all nodes, so it makes an order (Grown) and a rooted
-- tree (Rooted); and it allows one outcome.
use Prim.Native.Nat.{ℕ, ◌-◌, ◌<◌}
use mathlib.Core.Path.{◌≡◌}
use mathlib.Core.Logic.{inl, ◌↔◌, ⊎_elim}
use mathlib.Core.List.{List, ◌∷◌}
use Rattle.arrays.specs.At.{at}
use Rattle.arrays.specs.Members.{In, Distinct}
use Rattle.net.specs.Graph.{First, Walk}
use Rattle.net.specs.work.Simple.{Simple}
use Rattle.net.specs.Net.{first_end, second_end}
use Rattle.net.specs.work.Net.{Net}
use Rattle.net.specs.work.Rooted.{Above, self, Rooted}
use Rattle.net.specs.work.Rise.{row_of, WalkClimb}
use Rattle.reach.specs.work.Walked.{Walked}
use Rattle.reach.specs.work.Grown.{Grown}
use Rattle.net.specs.work.Rows.{RowsFit, Fitting}
use Rattle.net.proofs.Joined.{joined_trans, joined_sym}
use Rattle.net.proofs.OnePath.{unique}
use Rattle.net.proofs.Erase.{simple}
use Rattle.net.proofs.Above.{Tree, above_anti, fits_up}
use Rattle.net.proofs.Climbs.{root_above, none_passed}
use Rattle.net.proofs.Route.{route}
use Rattle.net.proofs.Rises.{above_rise}
use Rattle.reach.proofs.Grown.{reached_all, walked_grown, walked_rooted, grown_tree}
use Rattle.reach.proofs.WalkOnly.{walked_only}

pub net_fitting : {s : List ℕ} {n : ℕ} → Net s n → Fitting s n
net_fitting t =
    record { some = t.some; few = t.few; stands = t.stands; fit = record { first = t.first; second = t.second } }

module _ {s : List ℕ} {n : ℕ} (t : Net s n) where
  fit : RowsFit (first_end s) (second_end s) (n - 1) n
  fit = (net_fitting t).fit

  pub walk_all : {m : ℕ} {parent half order place : List ℕ}
      → Walked (first_end s) (second_end s) (n - 1) m parent half order place → m ≡ n
  walk_all w = reached_all (first_end s) (second_end s) (n - 1) n _ _ _ _ _ t.few t.some fit w t.joined

  -- each two nodes have a simple path
  pub net_simple : {a b : ℕ} → a < n → b < n → Simple (first_end s) (second_end s) (First (n - 1)) a b
  net_simple {a} {b} ha hb =
      simple (first_end s) (second_end s)
      (joined_trans (first_end s) (second_end s) (joined_sym (first_end s) (second_end s) (t.joined a ha))
      (t.joined b hb))

  module _ {parent half order place : List ℕ}
      (w : Walked (first_end s) (second_end s) (n - 1) n parent half order place) where
    pub walk_grown : Grown n parent order place
    walk_grown =
        walked_grown (first_end s) (second_end s) (n - 1) n parent half order place t.few t.some fit t.joined w

    pub walk_rooted : Rooted (first_end s) (second_end s) (n - 1) n (at parent) (row_of half) (at place)
    walk_rooted =
        walked_rooted (first_end s) (second_end s) (n - 1) n parent half order place t.few t.some fit t.joined w
        t.forest

    -- the climb from x to a node above it
    pub walk_climb : {k x y : ℕ} → k ≡ n - 1 → x < n → Above (at parent) y x
        → (c : WalkClimb k parent half place x y) × Net s c.nodes
    walk_climb {x = x} e b h =
        let q = above_rise h in (
          record {
            nodes = n;
            few = t.few;
            many = e;
            first = first_end s;
            second = second_end s;
            rooted = walk_rooted;
            fits = b;
            low = (walk_grown.here x b).0;
            rows = q.0;
            rise = q.1;
          },
          t,
        )

    pub walk_only : {parent' half' order' place' : List ℕ}
        → Walked (first_end s) (second_end s) (n - 1) n parent' half' order' place'
        → (parent ≡ parent') × (half ≡ half') × (order ≡ order') × (place ≡ place')
    walk_only w' = let e = walked_only (first_end s) (second_end s) (n - 1) t.forest w w' in (e.1, e.2, e.3, e.4)

    -- the climb from x is the path to the root: its nodes are those above x
    pub climb_path : {x : ℕ} {rs ns : List ℕ} → x < n → Walk (first_end s) (second_end s) (First (n - 1)) x rs ns 0
        → Distinct (x ∷ ns) → (z : ℕ) → In z (x ∷ ns) ↔ Above (at parent) z x
    climb_path {x} {rs} {ns} b p d z =
        let T : Tree n (at parent) (at place) = grown_tree walk_grown in
        let r = route walk_rooted T b t.some (root_above T x b) self (λ y h k. none_passed T t.some k) in
        let e : ns ≡ r.nodes = (unique (first_end s) (second_end s) t.forest p r.walk d r.once).1 in
        rw e (
          λ i. ⊎_elim (λ h. h) (λ h. over_root T h) (r.only z i).1,
          λ h. r.all z (root_above T z (fits_up T b h)) (inl h),
        )
      where
        over_root : Tree n (at parent) (at place) → Above (at parent) z 0 → Above (at parent) z x
        over_root T h = rw (above_anti T t.some h (root_above T z (fits_up T t.some h))) (root_above T x b)
