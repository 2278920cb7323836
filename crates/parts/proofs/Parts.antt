-- Parts of a spine: they join end to end, and begin with the item whose end the code finds.
use Prim.Native.Nat.{ℕ, ◌+◌, ◌≤◌, ◌<◌}
use mathlib.Core.Path.{◌≡◌, sym, ◌∙◌}
use mathlib.Core.List.{List}
use native.Mathlib.Omega.{arith}
use Rattle.arrays.specs.At.{at}
use Rattle.parts.specs.work.Parts.{Part, none, node, hung, Item, tree}
use Rattle.parts.specs.work.Searched.{Hangs}
use Rattle.parts.specs.work.Items.{ItemEnd, Tree}

module _ (stop head parent : List ℕ) where
  pub part_le : {h s e : ℕ} → Part stop head parent h s e → s ≤ e
  part_le none = omega arith
  part_le (node q p) = omega (arith, part_le p)
  part_le (hung n q o b c l t p) = omega (arith, part_le p)

  pub part_append : {h s m e : ℕ} → Part stop head parent h s m → Part stop head parent h m e
      → Part stop head parent h s e
  part_append none r = r
  part_append (node q p) r = node q (part_append p r)
  part_append (hung n q o b c l t p) r = hung n q o b c l t (part_append p r)

  -- the first item of a part, whose end the code finds
  pub record First (h s e r : ℕ) : Type 0 where
    pub some : s < r
    pub item : Part stop head parent h s r
    pub rest : Part stop head parent h r e

  pub first_of : {h s e : ℕ} (r : ℕ) → Part stop head parent h s e → s < e → ItemEnd stop head h s r → First h s e r
  first_of r none b i = absurd (omega arith)
  first_of r (node {s} q p) b i =
      let k : r ≡ s + 1 = i.alone q in
      rw k (record { some = omega arith; item = node q none; rest = p })
  first_of r (hung {t} n q o f g l u p) b i =
      let k : r ≡ t = i.tree n ∙ q in
      rw k (record { some = l; item = hung n q o f g l u none; rest = p })

  pub hangs_left : {h s m e p t : ℕ} → Hangs stop head parent h s m p t → Part stop head parent h m e
      → Hangs stop head parent h s e p t
  hangs_left a r =
      record {
        start = a.start;
        end = a.end;
        before = a.before;
        item = a.item;
        after = part_append a.after r;
        low = a.low;
        high = a.high;
      }

  pub hangs_right : {h s m e p t : ℕ} → Part stop head parent h s m → Hangs stop head parent h m e p t
      → Hangs stop head parent h s e p t
  hangs_right r a =
      record {
        start = a.start;
        end = a.end;
        before = part_append r a.before;
        item = a.item;
        after = a.after;
        low = a.low;
        high = a.high;
      }

  -- a part that is one hanging tree
  pub record LoneTree (h s e : ℕ) : Type 0 where
    pub tree_of : Tree stop head parent s e
    pub item : Item stop head parent h s e (at parent s)

  pub lone_tree : {h s e : ℕ} (r : ℕ) → Part stop head parent h s e → s < e → (at head s ≡ h → ⊥)
      → ItemEnd stop head h s r → r ≡ e → LoneTree h s e
  lone_tree r none b n i q = absurd (omega arith)
  lone_tree r (node o p) b n i q = absurd (n o)
  lone_tree {e} r (hung {s} {t} m o k f g l u p) b n i q =
      let v : t ≡ e = sym o ∙ sym (i.tree n) ∙ q in
      let u' : Part stop head parent s s e = rw (← v) u in
      record { tree_of = record { own_head = k; parent_in = f; inside = u' }; item = tree n (o ∙ v) f g b u' }
