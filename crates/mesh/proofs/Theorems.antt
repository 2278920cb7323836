-- What mesh's answer tells. Its two ends are nodes, the low one first, and a path has fewer branches than there are
-- nodes. A table is for trees or for meshes: one of version 3 is refused by 3 by every operation over trees and by the
-- row reader, and one of any other version by 3 by mesh.
use Prim.Native.Nat.{ℕ, ◌≤◌, ◌<◌}
use mathlib.Core.Path.{◌≡◌, refl, ap, ◌∙◌}
use mathlib.Core.Logic.{◌⊎◌, inl, inr, ◌≢◌, ⊎_elim}
use mathlib.Core.List.{List}
use native.Mathlib.Omega.{arith}
use lib.ListN.{length}
use Rattle.table.specs.Refuse.{Unless, refused, passed}
use Rattle.table.specs.Header.{Lettered, Header, version_of, nodes_of}
use Rattle.table.specs.Opens.{opening_refusal, Opens, Opening}
use Rattle.table.proofs.Refusals as refusals
use Rattle.net.specs.Graph.{First, Ends, Walk, stop, go}
use Rattle.net.specs.Net.{first_end, second_end}
use Rattle.net.proofs.Flip.{flip}
use Rattle.net.proofs.OneRing.{sum_one}
use Rattle.net.proofs.Short.{path_rows}
use Rattle.tree.specs.Accept.{Begins}
use Rattle.tree.specs.declared.Refusal.{Refusal}
use Rattle.mesh.specs.Table.{rows_of}
use Rattle.mesh.specs.Mesh.{Connected, OneRing, PathWith, Longest}
use Rattle.mesh.specs.Answer.{MeshAnswer, mesh_refusal, MeshOf, most}
use Rattle.std.specs.Prelude.{Ok, Err}
use Rattle.mesh.specs.work.Rows.{EndsApart}
use Rattle.mesh.specs.work.Bands.{NoRepeat}
use Rattle.mesh.proofs.Front.{Headed, header_past, good_rows}

-- a refusal where the good condition fails
told : {A : Type 0} {no : A} {Ok : Type 0} {rest : A → Type 0} {x : A} → ¬ Ok → Unless A no Ok rest x → x ≡ no
told n (refused c) = refl
told n (passed k p) = absurd (n k)

-- FOR TREES OR FOR MESHES. A table of version 3, good up to there, is refused by 3 by whatever begins with the header
-- of the other versions: every operation over trees, whatever it is, and the row reader's opening
module _ (s : List ℕ) (long : 12 ≤ length s) (letters : Lettered s) where
  three : version_of s ≡ 3 → (version_of s ≡ 1) ⊎ (version_of s ≡ 2) → ⊥
  three e = ⊎_elim (λ f. omega (arith, e, f)) (λ f. omega (arith, e, f))

  by_header : {A : Type 0} (refuse : ℕ → ℕ → A) {rest : A → Type 0} {x : A} → version_of s ≡ 3
      → Header A refuse s rest x → x ≡ refuse 3 0
  by_header refuse e p = told (three e) (refusals.settled letters (refusals.settled long p))

  pub by_trees : {A : Type 0} (refuse : ℕ → ℕ → ℕ → A) {rest : A → Type 0} {x : A} → version_of s ≡ 3
      → Begins A refuse s rest x → x ≡ refuse 3 0 0
  by_trees refuse e p = by_header (λ k r. refuse k r 0) e p

  pub by_the_reader : (x : Opening) → version_of s ≡ 3 → Opens s x → x ≡ opening_refusal 3 0
  by_the_reader x e p = by_header opening_refusal e p

  -- and one of any other version by mesh
  pub by_mesh : (x : MeshAnswer) → version_of s ≢ 3 → MeshOf s x → x ≡ mesh_refusal 3 0
  by_mesh x n p = told n (refusals.settled letters (refusals.settled long p))

-- WHAT AN ANSWER HAS
pub record Answer (s : List ℕ) (l a b : ℕ) : Type 0 where
  pub headed : Headed s
  pub rows : EndsApart (first_end s) (second_end s) (rows_of s) (nodes_of s)
  pub once : NoRepeat (first_end s) (second_end s) (rows_of s)
  pub joined : Connected (first_end s) (second_end s) (rows_of s) (nodes_of s)
  pub one : OneRing (first_end s) (second_end s) (rows_of s)
  pub longest : Longest (first_end s) (second_end s) (rows_of s) (nodes_of s) l a b

not_refused : {w : Refusal} {l a b : ℕ} → Err w ≡ most l a b → ⊥
not_refused e = omega (arith, ap refusals e)
  where
    refusals : MeshAnswer → ℕ
    refusals (Ok o) = 0
    refusals (Err w) = 1

pub answered : (s : List ℕ) {l a b : ℕ} → MeshOf s (most l a b) → Answer s l a b
answered s p =
    let h = header_past mesh_refusal {s = s} (λ k n. not_refused) p in
    let r = refusals.past_rows (λ k r z is. not_refused) h.1 in
    let t = refusals.past_rows (λ k r z is. not_refused) r.1 in
    let j = refusals.past not_refused t.1 in
    let o = refusals.past not_refused j.1 in
    record {
      headed = h.0;
      rows = good_rows s (nodes_of s) (rows_of s) r.0;
      once = λ i l. (refusals.past (λ e. omega arith) (t.0 i l)).0;
      joined = j.0;
      one = o.0;
      longest = o.1;
    }

-- a simple path, of rows whose ends are nodes below n
module _ {u v : ℕ → ℕ} {k n : ℕ} (R : EndsApart u v k n) where
  next_below : {r a c : ℕ} → r < k → Ends u v r a c → c < n
  next_below h (inl e) = rw e.1 at (R.second _ h)
  next_below h (inr e) = rw e.0 at (R.first _ h)

  end_below : {x y : ℕ} {rs ns : List ℕ} → x < n → Walk u v (First k) x rs ns y → y < n
  end_below l stop = l
  end_below l (go h e w) = end_below (next_below h e) w

  pub few_branches : {x y l : ℕ} → x < n → PathWith u v k x y l → l < n
  few_branches b p =
      omega (arith, p.2, path_rows (λ r h. (R.first r h, R.second r h)) b p.1.1 p.1.2)

-- the other way round it has as many branches
pub path_flip : (u v : ℕ → ℕ) {k x y l : ℕ} → PathWith u v k x y l → PathWith u v k y x l
path_flip u v p =
    let f = flip u v p.1.1 in
    let e : length f.rows ≡ length p.0 = omega (
      arith,
      f.sum (λ _. 1),
      sum_one f.rows,
      sum_one p.0,
    ) in
    (f.rows, (f.nodes, f.walk, f.once p.1.2), e ∙ p.2)

pub longest_order : {u v : ℕ → ℕ} {k n l a b : ℕ} → EndsApart u v k n → Longest u v k n l a b → (a ≤ b) × (b < n)
longest_order {u} {v} {k} {n} {l} {a} {b} R p =
    let c : b < n = end_below R p.within p.some.1.1 in
    (⊎_elim (λ h. omega (arith, h)) (λ h. omega (arith, h.0)) (p.first b a c (path_flip u v p.some)), c)

-- THE ENDS IN ORDER, both of them nodes, and FEWER BRANCHES THAN NODES
pub in_order : (s : List ℕ) {l a b : ℕ} → MeshOf s (most l a b) → (a ≤ b) × (b < nodes_of s)
in_order s p = let t = answered s p in longest_order t.rows t.longest

pub fewer_than_nodes : (s : List ℕ) {l a b : ℕ} → MeshOf s (most l a b) → l < nodes_of s
fewer_than_nodes s p = let t = answered s p in few_branches t.rows t.longest.within t.longest.some
