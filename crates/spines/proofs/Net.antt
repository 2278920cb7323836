-- The children by the walk's parents are the children of the net. So a node's head by the walk's arrays is its head;
-- and each node has one.
use Prim.Native.Nat.{ℕ, ◌+◌, ◌<◌}
use mathlib.Core.Path.{◌≡◌, refl, sym, ap, ◌∙◌}
use mathlib.Core.Logic.{◌⊎◌, inl, inr, ◌≢◌, ⊎_elim}
use mathlib.Core.List.{List, [], ◌∷◌, ◌++◌}
use native.Mathlib.Omega.{arith}
use Rattle.arrays.specs.Members.{In}
use Rattle.net.specs.Graph.{Ends}
use Rattle.net.specs.work.Forest.{Forest}
use Rattle.net.specs.work.Rooted.{Above, self, up, Rooted}
use Rattle.arrays.proofs.Members.{distinct_snoc}
use Rattle.net.proofs.Rows.{ends_flip, other}
use Rattle.net.proofs.Joined.{walk_snoc}
use lib.ListN.{length, get_or, length-append}
use lib.Seq.{get_or-append-add}
use Rattle.net.proofs.OnePath.{unique}
use Rattle.net.proofs.Rooted.{above_inv, owner}
use Rattle.net.proofs.Above.{Tree, above_trans, fits_up, place_up}
use Rattle.net.proofs.Climbs.{root_above}
use Rattle.net.proofs.Route.{Route, route}
use Rattle.spines.specs.Spine.{ChildOf, Head}
use Rattle.spines.specs.work.Parents.{Child}
use Rattle.spines.proofs.Head.{head_only}
use Rattle.spines.proofs.Same.{same_head}

snoc_last : (l m : List ℕ) (a b : ℕ) → l ++ (a ∷ []) ≡ m ++ (b ∷ []) → a ≡ b
snoc_last l m a b e =
    let h : length l ≡ length m = omega (arith, simp length-append at (ap length e)) in
    sym (get_or-append-add l (a ∷ []) 0 0) ∙ ap (λ k. get_or k (length l + 0) 0) e
    ∙ ap (λ i. get_or (m ++ (b ∷ [])) (i + 0) 0) h ∙ get_or-append-add m (b ∷ []) 0 0

-- a child has one parent, since the path from the root to it is one
pub parent_only : {u v : ℕ → ℕ} {k n : ℕ} → Forest u v k → (p q c : ℕ) → ChildOf u v k n p c → ChildOf u v k n q c
    → p ≡ q
parent_only {u} {v} F p q c i j =
    let e = unique u v F (walk_snoc u v i.path.1 i.low i.ends) (walk_snoc u v j.path.1 j.low j.ends)
    (distinct_snoc (0 ∷ i.path.0) c i.path.2 i.new) (distinct_snoc (0 ∷ j.path.0) c j.path.2 j.new) in
    let r : i.row ≡ j.row = snoc_last i.rows j.rows i.row j.row e.0 in
    other u v (ends_flip u v (rw r at i.ends)) (ends_flip u v j.ends)

-- each node has one head
pub net_head_only : {u v : ℕ → ℕ} {k n : ℕ} → Forest u v k → {h g x : ℕ} → Head (ChildOf u v k n) n h x
    → Head (ChildOf u v k n) n g x → h ≡ g
net_head_only F p q = head_only (parent_only F) p q

module _ {u v : ℕ → ℕ} {k n : ℕ} {par row place : ℕ → ℕ} (R : Rooted u v k n par row place) (T : Tree n par place)
    (some : 0 < n) where
  -- the path from the root to x, whose nodes are those above x
  root_route : (x : ℕ) → x < n → Route R T 0 0 x
  root_route x b = route R T some b self (root_above T x b) (λ z h g. h.not (top_is z h.above))
    where
      top_is : (z : ℕ) → Above par z 0 → z ≡ 0
      top_is z a = ⊎_elim (λ e. e) (λ s. absurd (s.0 refl)) (above_inv a)

  path_above : (x z : ℕ) → (b : x < n) → In z (0 ∷ (root_route x b).nodes) → Above par z x
  path_above x z b i = ⊎_elim (λ a. above_trans a (root_above T x b)) (λ a. a) ((root_route x b).only z i).1

  above_path : (x z : ℕ) → (b : x < n) → Above par z x → In z (0 ∷ (root_route x b).nodes)
  above_path x z b a = (root_route x b).all z (root_above T z (fits_up T b a)) (inr a)

  pub child_net : (p c : ℕ) → Child n par p c → ChildOf u v k n p c
  child_net p c i =
      let bp : p < n = rw i.of at (T.fits c i.fits i.low) in
      let r = root_route p bp in
      record {
        fits = i.fits;
        rows = r.rows;
        path = (r.nodes, r.walk, r.once);
        row = row c;
        low = R.row_fits c i.fits i.low;
        ends = ends_flip u v (rw i.of at (R.ends c i.fits i.low));
        new = λ m. omega (arith, place_up T bp (path_above p c bp m), rw i.of at (T.earlier c i.fits i.low));
      }

  pub net_child : (p c : ℕ) → ChildOf u v k n p c → Child n par p c
  net_child p c i = pick (owner u v R i.row p c i.low bp i.fits i.ends)
    where
      side : Ends u v i.row p c → p < n
      side (inl e) = rw e.0 at (R.fits i.row i.low).0
      side (inr e) = rw e.1 at (R.fits i.row i.low).1

      bp : p < n
      bp = side i.ends

      same : (root_route p bp).nodes ≡ i.path.0
      same = (unique u v R.forest (root_route p bp).walk i.path.1 (root_route p bp).once i.path.2).1

      pick : ((p ≢ 0) × (row p ≡ i.row) × (par p ≡ c)) ⊎ ((c ≢ 0) × (row c ≡ i.row) × (par c ≡ p)) → Child n par p c
      pick (inl o) = absurd (i.new (rw same at (above_path p c bp (up o.0 o.2 self))))
      pick (inr o) = record { fits = i.fits; low = o.0; of = o.2 }

  -- heads by the walk's parents are heads
  pub head_net : {h x : ℕ} → Head (Child n par) n h x → Head (ChildOf u v k n) n h x
  head_net k = same_head child_net net_child k
