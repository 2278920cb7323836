-- The tree grows by one node at a time: the new node is hung up below one that hangs already, by a row that joins the
-- two. Where no row leads on, it has every node that is joined to the root, and no other; where every node hangs in it,
-- the order is one of all n nodes with parents first.
use Prim.Native.Nat.{ℕ, suc, ◌+◌, ◌-◌, ◌≤◌, ◌<◌}
use mathlib.Core.Path.{◌≡◌, refl, sym, ap, ◌∙◌}
use mathlib.Core.Logic.{inl, inr, ◌≢◌}
use mathlib.Core.List.{List}
use native.Mathlib.Omega.{arith}
use native.Mathlib.Decide.{ℕ_discrete, dec_le}
use lib.ListN.{length, set, length-set}
use lib.Seq.{get_or-set_same, get_or-set_other}
use Rattle.arrays.specs.At.{at}
use Rattle.arrays.specs.work.Filled.{Filled}
use Rattle.arrays.specs.Members.{In}
use Rattle.net.specs.Graph.{First, Ends, Walk, stop, go, Joined}
use Rattle.net.proofs.Counts.{upto, upto_length, upto_in, Without, without}
use Rattle.mesh.proofs.Pigeon.{pigeon}
use Rattle.mesh.specs.work.Rows.{EndsApart}
use Rattle.mesh.specs.Mesh.{Connected}
use Rattle.mesh.specs.work.Hung.{RootAlone, OneTaken, Alike, Closed, Leads, HungAt}

-- some row joins them
abbrev pub SomeRow : (ℕ → ℕ) → (ℕ → ℕ) → ℕ → ℕ → ℕ → Type 0
SomeRow u v k c d = (r : ℕ) × (r < k) × Ends u v r c d

-- a node that hangs in it: its parent's place is earlier
pub record HangsBelow (u v : ℕ → ℕ) (k n : ℕ) (par place : List ℕ) (x : ℕ) : Type 0 where
  pub fits : at par x < n
  pub earlier : at place (at par x) < at place x
  pub joins : SomeRow u v k x (at par x)

-- m nodes hang in the tree so far
pub record HungSoFar (u v : ℕ → ℕ) (k n a m : ℕ) (par order place : List ℕ) : Type 0 where
  pub few : n ≤ 256
  pub root : a < n
  pub long : (length par ≡ 256) × (length order ≡ 256) × (length place ≡ 256)
  pub free : (l : List ℕ) × (length l + m ≡ 256) × ((x : ℕ) → x < 256 → at place x ≡ 256 → In x l)
  pub some : 0 < m
  pub top : (at order 0 ≡ a) × (at place a ≡ 0) × (at par a ≡ a)
  pub within : (i : ℕ) → i < m → (at order i < n) × (at place (at order i) ≡ i)
  pub here : (x : ℕ) → x < 256 → at place x ≢ 256 → (at place x < m) × (at order (at place x) ≡ x)
  pub hangs : (x : ℕ) → x < 256 → at place x ≢ 256 → x ≢ a → HangsBelow u v k n par place x

-- c is to be hung up below d, in which order the m-th
pub record Ready (u v : ℕ → ℕ) (k n a m : ℕ) (par order place : List ℕ) (c d : ℕ) : Type 0 where
  pub grown : HungSoFar u v k n a m par order place
  pub joins : SomeRow u v k c d
  pub new : (c < n) × (at place c ≡ 256)
  pub old : (d < n) × (at place d ≢ 256)

-- all that is joined to node a hangs in the tree
pub record Spread (u v : ℕ → ℕ) (k n a m : ℕ) (par order place : List ℕ) : Type 0 where
  pub grown : HungSoFar u v k n a m par order place
  pub closed : (r : ℕ) → r < k → Alike (at place (u r)) (at place (v r))

-- m numbers with an inverse into n numbers
turned : (f g : ℕ → ℕ) (m n : ℕ) → ((x : ℕ) → x < m → f x < n) → ((x : ℕ) → x < m → g (f x) ≡ x) → m ≤ n
turned f g m n into back = pigeon f m n into (λ x y i j e. sym (back x i) ∙ ap g e ∙ back y j)

-- what `start` leaves
pub root_alone : {a : ℕ} {P O S : List ℕ} → a < 256 → Filled 256 0 P → Filled 256 0 O → Filled 256 256 S
    → RootAlone a (set P a a) (set O 0 a) (set S a 0)
root_alone {a} {P} {O} {S} b fp fo fs =
    record {
      long = (length-set P a a ∙ fp.long, length-set O 0 a ∙ fo.long, length-set S a 0 ∙ fs.long);
      top = (
        get_or-set_same O 0 a 0 (omega (arith, fo.long)),
        get_or-set_same S a 0 0 (omega (arith, fs.long)),
        get_or-set_same P a a 0 (omega (arith, fp.long)),
      );
      rest = λ x h m. get_or-set_other S a x 0 0 m ∙ fs.each x h;
    }

module _ {u v : ℕ → ℕ} {k n a : ℕ} where
  -- the root alone
  pub grown_start : {P O S : List ℕ} → n ≤ 256 → a < n → RootAlone a P O S → HungSoFar u v k n a 1 P O S
  grown_start {P} {O} {S} l b r =
      record {
        few = l;
        root = b;
        long = r.long;
        free = (
          w.0,
          omega (arith, w.1, upto_length 256),
          λ x h e. w.2 x (upto_in 256 x h) (λ q. omega (arith, r.top.1, rw q at e)),
        );
        some = omega arith;
        top = r.top;
        within = λ i h. let z : i ≡ 0 = omega arith in (rw (z, r.top.0) b, rw (z, r.top.0) r.top.1);
        here = λ x h e. here x (only x h e (ℕ_discrete x a));
        hangs = λ x h e m. absurd (m (only x h e (ℕ_discrete x a)));
      }
    where
      w : Without a (upto 256)
      w = without a (upto 256) (upto_in 256 a (omega arith))

      only : (x : ℕ) → x < 256 → at S x ≢ 256 → Dec (x ≡ a) → x ≡ a
      only x h e (yes q) = q
      only x h e (no m) = absurd (e (r.rest x h m))

      here : (x : ℕ) → x ≡ a → (at S x < 1) × (at O (at S x) ≡ x)
      here x q = let z : at S x ≡ 0 = rw q r.top.1 in (omega arith, rw z (r.top.0 ∙ sym q))

  -- one node more
  module _ {m c d : ℕ} {par order place : List ℕ} (t : Ready u v k n a m par order place c d) where
    abbrev g : HungSoFar u v k n a m par order place
    g = t.grown

    c_low : c < 256
    c_low = omega (arith, t.new.0, g.few)

    w : Without c g.free.0
    w = without c g.free.0 (g.free.2 c c_low t.new.1)

    pub room : m < 256
    room = omega (arith, g.free.1, w.1)

    pub c_fits : (c < 256) × (d < 256)
    c_fits = (c_low, omega (arith, t.old.0, g.few))

    abbrev Par : List ℕ
    Par = set par c d

    abbrev Ord : List ℕ
    Ord = set order m c

    abbrev Pla : List ℕ
    Pla = set place c m

    pc : at Pla c ≡ m
    pc = get_or-set_same place c m 0 (omega (arith, c_low, g.long.2))

    po : (x : ℕ) → x ≢ c → at Pla x ≡ at place x
    po x q = get_or-set_other place c x m 0 q

    on : at Ord m ≡ c
    on = get_or-set_same order m c 0 (omega (arith, room, g.long.1))

    oo : (i : ℕ) → i < m → at Ord i ≡ at order i
    oo i h = get_or-set_other order m i c 0 (omega arith)

    -- what hangs is not c
    not_c : (x : ℕ) → at place x ≢ 256 → x ≢ c
    not_c x h q = h (rw q t.new.1)

    -- nor is what has a place below m
    low_c : (x : ℕ) → at place x < m → x ≢ c
    low_c x h = not_c x (λ e. omega (arith, room))

    pub grown_push : HungSoFar u v k n a (m + 1) Par Ord Pla
    grown_push =
        record {
          few = g.few;
          root = g.root;
          long =
              (length-set par c d ∙ g.long.0, length-set order m c ∙ g.long.1, length-set place c m ∙ g.long.2);
          free = (w.0, omega (arith, g.free.1, w.1), λ x h z. free x h z (ℕ_discrete x c));
          some = omega arith;
          top = (oo 0 g.some ∙ g.top.0, po a a_c ∙ g.top.1, get_or-set_other par c a d 0 a_c ∙ g.top.2);
          within = λ i h. within i h (ℕ_discrete i m);
          here = λ x h z. here x h z (ℕ_discrete x c);
          hangs = λ x h z q. hangs x h z q (ℕ_discrete x c);
        }
      where
        a_c : a ≢ c
        a_c = not_c a (λ e. omega (arith, g.top.1))

        free : (x : ℕ) → x < 256 → at Pla x ≡ 256 → Dec (x ≡ c) → In x w.0
        free x h z (yes q) = absurd (omega (arith, pc, room, rw q at z))
        free x h z (no q) = w.2 x (g.free.2 x h (sym (po x q) ∙ z)) q

        within : (i : ℕ) → i < m + 1 → Dec (i ≡ m) → (at Ord i < n) × (at Pla (at Ord i) ≡ i)
        within i h (yes q) = (rw (q, on) t.new.0, rw (q, on) pc)
        within i h (no q) =
            let f = g.within i (omega arith) in
            let e : at order i ≢ c = low_c (at order i) (omega (arith, f.1)) in
            (rw (oo i (omega arith)) f.0, rw (oo i (omega arith)) (po (at order i) e ∙ f.1))

        here : (x : ℕ) → x < 256 → at Pla x ≢ 256 → Dec (x ≡ c) → (at Pla x < m + 1) × (at Ord (at Pla x) ≡ x)
        here x h z (yes q) = let p : at Pla x ≡ m = rw q pc in (omega arith, rw p (on ∙ sym q))
        here x h z (no q) =
            let p : at Pla x ≡ at place x = po x q in
            let f = g.here x h (rw p at z) in
            (omega (arith, f.0), rw p (oo _ f.0 ∙ f.1))

        hangs : (x : ℕ) → x < 256 → at Pla x ≢ 256 → x ≢ a → Dec (x ≡ c) → HangsBelow u v k n Par Pla x
        hangs x h z q (yes e) =
            let pp : at Par c ≡ d = get_or-set_same par c d 0 (omega (arith, c_low, g.long.0)) in
            let pd : at Pla d ≡ at place d = po d (not_c d t.old.1) in
            rw e
            (record {
              fits = rw pp t.old.0;
              earlier = rw (pp, pd, pc) (g.here d c_fits.1 t.old.1).0;
              joins = rw pp t.joins;
            })
        hangs x h z q (no e) =
            let px : at Pla x ≡ at place x = po x e in
            let f = g.hangs x h (rw px at z) q in
            let pp : at Par x ≡ at par x = get_or-set_other par c x d 0 e in
            let pd : at Pla (at par x) ≡ at place (at par x) =
            po (at par x) (low_c _ (omega (arith, f.earlier, (g.here x h (rw px at z)).0))) in
            record { fits = rw pp f.fits; earlier = rw (pp, pd, px) f.earlier; joins = rw pp f.joins }

-- the loop of `spread`: r is the next row that leads on
pub record Spreading (u v : ℕ → ℕ) (k n m : ℕ) (par order place : List ℕ) : Type 0 where
  pub rows : EndsApart u v k n
  pub grown : HungSoFar u v k n 0 m par order place

module _ {u v : ℕ → ℕ} {k n m r : ℕ} {par order place : List ℕ} (s : Spreading u v k n m par order place)
    (next : Leads u v k place r) where
  -- which end is new
  first_new : at place (u r) ≡ 256 → Ready u v k n 0 m par order place (u r) (v r)
  first_new e =
      record {
        grown = s.grown;
        joins = (r, next.within, inl (refl, refl));
        new = (s.rows.first r next.within, e);
        old = (s.rows.second r next.within, pick next.here);
      }
    where
      pick : OneTaken (at place (u r)) (at place (v r)) → at place (v r) ≢ 256
      pick (inl t) = t.1
      pick (inr t) = absurd (t.0 e)

  second_new : at place (u r) ≢ 256 → Ready u v k n 0 m par order place (v r) (u r)
  second_new e =
      record {
        grown = s.grown;
        joins = (r, next.within, inr (refl, refl));
        new = (s.rows.second r next.within, pick next.here);
        old = (s.rows.first r next.within, e);
      }
    where
      pick : OneTaken (at place (u r)) (at place (v r)) → at place (v r) ≡ 256
      pick (inl t) = absurd (e t.0)
      pick (inr t) = t.1

  module _ (p q c : ℕ) (ep : p ≡ u r) (eq : q ≡ v r)
      (h : (at place p ≡ 256 → c ≡ p) × ((at place p ≡ 256 → ⊥) → c ≡ q)) where
    pub new_low : c ≤ p + q
    new_low = pick (ℕ_discrete (at place p) 256)
      where
        pick : Dec (at place p ≡ 256) → c ≤ p + q
        pick (yes z) = omega (arith, h.0 z)
        pick (no z) = omega (arith, h.1 z)

    pub end_new : Ready u v k n 0 m par order place c (p + q - c)
    end_new = pick (ℕ_discrete (at place p) 256)
      where
        pick : Dec (at place p ≡ 256) → Ready u v k n 0 m par order place c (p + q - c)
        pick (yes z) =
            let ec : c ≡ u r = h.0 z ∙ ep in
            let ed : p + q - c ≡ v r = omega arith in
            rw (ed, ec) (first_new (rw ep at z))
        pick (no z) =
            let ec : c ≡ v r = h.1 z ∙ eq in
            let ed : p + q - c ≡ u r = omega arith in
            rw (ed, ec) (second_new (rw ep at z))

pub spread_end : {u v : ℕ → ℕ} {k n m : ℕ} {par order place : List ℕ} → Spreading u v k n m par order place
    → Closed u v k place → Spread u v k n 0 m par order place
spread_end s c = record { grown = s.grown; closed = c }

-- what is joined to the root hangs in the tree
module _ {u v : ℕ → ℕ} {k n a m : ℕ} {par order place : List ℕ} (s : Spread u v k n a m par order place) where
  along : {x y : ℕ} {rs ns : List ℕ} → Walk u v (First k) x rs ns y → at place x ≢ 256 → at place y ≢ 256
  along stop h = h
  along (go {r} {a = x} {c} l e w) h = along w (side e (s.closed r l))
    where
      side : Ends u v r x c → Alike (at place (u r)) (at place (v r)) → at place c ≢ 256
      side (inl q) f z = h (rw (q.0, q.1) at f.1 z)
      side (inr q) f z = h (rw (q.0, q.1) at f.0 z)

  not_joined : (x : ℕ) → at place x ≡ 256 → ¬ Joined u v (First k) a x
  not_joined x z w = along w.2 (λ e. omega (arith, s.grown.top.1)) z

-- all are in it
module _ {u v : ℕ → ℕ} {k n a m : ℕ} {par order place : List ℕ} (g : HungSoFar u v k n a m par order place)
    (R : EndsApart u v k n) (all : (x : ℕ) → x < n → at place x ≢ 256) where
  low : {x : ℕ} → x < n → x < 256
  low h = omega (arith, g.few)

  hung : (y : ℕ) → y < n → y ≢ a → HangsBelow u v k n par place y
  hung y h z = g.hangs y (low h) (all y h) z

  -- the row by which a node hangs; 0 for the root
  row_if : (x : ℕ) → Dec (x < n) → Dec (x ≡ a) → ℕ
  row_if x (yes h) (no z) = (hung x h z).joins.0
  row_if x (yes h) (yes z) = 0
  row_if x (no h) z = 0

  row_of : ℕ → ℕ
  row_of x = row_if x (dec_le (suc x) n) (ℕ_discrete x a)

  row_if_lem : (x : ℕ) (p : Dec (x < n)) (q : Dec (x ≡ a)) → x < n → x ≢ a
      → (row_if x p q < k) × Ends u v (row_if x p q) x (at par x)
  unfolding row_if
  row_if_lem x (yes p) (no q) h z = ((hung x p q).joins.1, (hung x p q).joins.2)
  row_if_lem x (yes p) (yes q) h z = absurd (z q)
  row_if_lem x (no p) q h z = absurd (p h)

  row_is : (x : ℕ) → x < n → x ≢ a → (row_of x < k) × Ends u v (row_of x) x (at par x)
  unfolding row_of
  row_is x h z = row_if_lem x (dec_le (suc x) n) (ℕ_discrete x a) h z

  many : n ≤ m
  many =
      turned (at place) (at order) n m (λ y h. (g.here y (low h) (all y h)).0) (λ y h. (g.here y (low h) (all y h)).1)

  most : m ≤ n
  most = turned (at order) (at place) m n (λ i h. (g.within i h).0) (λ i h. (g.within i h).1)

  pub all_hung : HungAt u v k n a par order place
  all_hung =
      record {
        rows = R;
        few = g.few;
        long = g.long;
        row = row_of;
        tree =
            record {
              root = g.root;
              good = λ r h. (R.first r h, R.second r h, R.apart r h);
              fits = λ y h z. (hung y h z).fits;
              row_fits = λ y h z. (row_is y h z).0;
              ends = λ y h z. (row_is y h z).1;
              earlier = λ y h z. (hung y h z).earlier;
            };
        top = (g.top.0, g.top.2);
        within = λ i h. (g.within i (omega (arith, many))).0;
        back = λ i h. (g.within i (omega (arith, many))).1;
        here = λ y h. let f = g.here y (low h) (all y h) in (omega (arith, f.0, most), f.1);
      }

module _ {u v : ℕ → ℕ} {k n m : ℕ} {par order place : List ℕ} (s : Spread u v k n 0 m par order place) where
  pub spread_hung : EndsApart u v k n → ((x : ℕ) → x < n → at place x ≢ 256) → HungAt u v k n 0 par order place
  spread_hung R all = all_hung s.grown R all

  pub spread_apart : (x : ℕ) × (x < n) × (at place x ≡ 256) → ¬ Connected u v k n
  spread_apart t c = not_joined s t.0 t.2 (c t.0 t.1)
