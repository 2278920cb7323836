-- Walks: put together, cut at a row or at a node; a simple path follows another whose rows it has.
use Prim.Native.Nat.{ℕ}
use mathlib.Core.Path.{◌≡◌, refl, sym, ap, ◌∙◌}
use mathlib.Core.Logic.{◌⊎◌, inl, inr}
use mathlib.Core.List.{List, [], ◌∷◌, ◌++◌}
use Rattle.arrays.specs.Members.{In, at, past, Distinct}
use Rattle.net.specs.Graph.{Ends, Walk, stop, go}
use Rattle.arrays.proofs.Members.{not_nil}
use Rattle.net.proofs.Rows.{End, ends_left, ends_one, other}
use Rattle.net.proofs.OnePath.{last_in}

module _ (u v : ℕ → ℕ) where
  -- a walk meets both ends of its rows
  pub touch : {P : ℕ → Type 0} {a b r x : ℕ} {rs ns : List ℕ} → Walk u v P a rs ns b → In r rs → End u v r x
      → In x (a ∷ ns)
  touch stop i f = absurd (not_nil i)
  touch {x} (go {a} {c} {ns} h e w) (at q) f = pick (ends_one u v e (rw q at f))
    where
      pick : (a ≡ x) ⊎ (c ≡ x) → In x (a ∷ (c ∷ ns))
      pick (inl t) = at (sym t)
      pick (inr t) = past (at (sym t))
  touch (go h e w) (past i) f = past (touch w i f)

  -- the walk before a row, and the walk after it
  pub record Split (P : ℕ → Type 0) (a b r : ℕ) (rs ns : List ℕ) : Type 0 where
    pub x : ℕ
    pub y : ℕ
    pub rs1 : List ℕ
    pub ns1 : List ℕ
    pub rs2 : List ℕ
    pub ns2 : List ℕ
    pub before : Walk u v P a rs1 ns1 x
    pub across : Ends u v r x y
    pub after : Walk u v P y rs2 ns2 b
    pub rows : rs ≡ rs1 ++ (r ∷ rs2)
    pub nodes : ns ≡ ns1 ++ (y ∷ ns2)

  pub split : {P : ℕ → Type 0} {a b r : ℕ} {rs ns : List ℕ} → Walk u v P a rs ns b → In r rs → Split P a b r rs ns
  split stop i = absurd (not_nil i)
  split {r} (go {r = s} {a} {c} {rs = rs} {ns = ns} h e w) (at q) =
      record {
        x = a;
        y = c;
        rs1 = [];
        ns1 = [];
        rs2 = rs;
        ns2 = ns;
        before = stop;
        across = rw q e;
        after = w;
        rows = rw q refl;
        nodes = refl;
      }
  split {r} (go {r = s} {a} {c} h e w) (past i) =
      let t = split w i in
      record {
        x = t.x;
        y = t.y;
        rs1 = s ∷ t.rs1;
        ns1 = c ∷ t.ns1;
        rs2 = t.rs2;
        ns2 = t.ns2;
        before = go h e t.before;
        across = t.across;
        after = t.after;
        rows = ap (λ l. s ∷ l) t.rows;
        nodes = ap (λ l. c ∷ l) t.nodes;
      }

  -- the walk up to a node that it meets
  pub record Prefix (P : ℕ → Type 0) (a y : ℕ) (rs : List ℕ) : Type 0 where
    pub part : List ℕ
    pub nodes : List ℕ
    pub walk : Walk u v P a part nodes y
    pub within : (r : ℕ) → In r part → In r rs
    pub once : Distinct rs → Distinct part

  pub prefix : {P : ℕ → Type 0} {y a b : ℕ} {rs ns : List ℕ} → Walk u v P a rs ns b → In y (a ∷ ns) → Prefix P a y rs
  prefix w (at q) =
      record { part = []; nodes = []; walk = rw q stop; within = λ r i. absurd (not_nil i); once = λ d. tt }
  prefix stop (past i) = absurd (not_nil i)
  prefix {P} {y} (go {r = s} {a} {c} {rs = rs} h e w) (past i) = more (prefix w i)
    where
      inside : (t : Prefix P c y rs) (r : ℕ) → In r (s ∷ t.part) → In r (s ∷ rs)
      inside t r (at q) = at q
      inside t r (past j) = past (t.within r j)

      more : Prefix P c y rs → Prefix P a y (s ∷ rs)
      more t =
          record {
            part = s ∷ t.part;
            nodes = c ∷ t.nodes;
            walk = go h e t.walk;
            within = inside t;
            once = λ d. (λ j. d.0 (t.within s j), t.once d.1);
          }

  -- W has every row of T that ends at a node of W: then it follows T to its end
  abbrev pub Followed : ℕ → List ℕ → List ℕ → List ℕ → ℕ → ℕ → Type 0
  Followed c ns ws ts p b = In p (c ∷ ns) × (p ≡ b → (r : ℕ) → In r ws → In r ts)

  pub follow : {P Q : ℕ → Type 0} {c b p : ℕ} {ws ns ts ms : List ℕ} → Walk u v Q c ts ms p → Walk u v P c ws ns b
      → Distinct (c ∷ ns) → Distinct ts → ((r x : ℕ) → In r ts → End u v r x → In x (c ∷ ns) → In r ws)
      → Followed c ns ws ts p b
  follow {c} {b} {ws} {ns} stop w d f h = (at refl, λ q r i. shut w d q r i)
    where
      shut : {P : ℕ → Type 0} {c b : ℕ} {ws ns : List ℕ} → Walk u v P c ws ns b → Distinct (c ∷ ns) → c ≡ b → (r : ℕ)
          → In r ws → In r []
      shut stop d q r i = i
      shut (go h e w) d q r i = absurd (d.0 (rw q (last_in u v (go h e w))))
  follow {c} (go {r} {c = d} {rs = ts} k e t) stop i f h =
      absurd (not_nil (h r c (at refl) (ends_left u v e) (at refl)))
  follow {P} {Q} {c} {b} {p} (go {r} {c = d} {rs = ts} {ns = ms} k e t) (go {r = s} {c = g} {rs = ws} {ns = ns} m l w) i
      f h =
      pick (h r c (at refl) (ends_left u v e) (at refl)) (λ q. follow t (rw (sym q) at w))
    where
      IH : Type 0
      IH =
          (q : d ≡ g) → Distinct (d ∷ ns) → Distinct ts → ((r x : ℕ) → In r ts → End u v r x → In x (d ∷ ns) → In r ws)
          → Followed d ns ws ts p b

      more : s ≡ r → (o x : ℕ) → In o ts → In o (s ∷ ws) → In o ws
      more q o x j (at z) = absurd (f.0 (rw (z ∙ q) at j))
      more q o x j (past z) = z

      all : s ≡ r → ((o : ℕ) → In o ws → In o ts) → (o : ℕ) → In o (s ∷ ws) → In o (r ∷ ts)
      all q z o (at y) = at (y ∙ q)
      all q z o (past y) = past (z o y)

      pick : In r (s ∷ ws) → IH → Followed c (g ∷ ns) (s ∷ ws) (r ∷ ts) p b
      pick (at q) ih =
          let z : d ≡ g = other u v e (rw (sym q) at l) in
          let y = ih z (rw z i.1) f.1 (λ o x j a b. more (sym q) o x j (h o x (past j) a (past (rw z at b)))) in
          (past (rw z at y.0), λ a. all (sym q) (y.1 a))
      pick (past j) ih = absurd (i.0 (touch w j (ends_left u v e)))
