-- Loop erasure: joined nodes have a simple path. At each step it is decided whether the node comes again.
use Prim.Native.Nat.{ℕ}
use mathlib.Core.List.{List, [], ◌∷◌}
use Rattle.arrays.specs.Members.{In, at, past, Distinct}
use Rattle.net.specs.Graph.{Walk, stop, go, Joined}
use Rattle.net.specs.work.Simple.{Simple}
use Rattle.arrays.proofs.Members.{in?, not_nil}

module _ (u v : ℕ → ℕ) where
  -- the rest of a simple path from a node that it meets
  pub rest : {P : ℕ → Type 0} {a b x : ℕ} {rs ns : List ℕ} → Walk u v P a rs ns b → Distinct (a ∷ ns) → In x (a ∷ ns)
      → Simple u v P x b
  rest {x} stop d (at e) = ([], [], rw e stop, (not_nil, tt))
  rest (go {r} {c} {rs} {ns} h e w) d (at q) = (r ∷ rs, c ∷ ns, rw q (go h e w), rw q d)
  rest stop d (past m) = absurd (not_nil m)
  rest (go h e w) d (past m) = rest w d.1 m

  pub erase : {P : ℕ → Type 0} {a b : ℕ} {rs ns : List ℕ} → Walk u v P a rs ns b → Simple u v P a b
  erase stop = ([], [], stop, (not_nil, tt))
  erase {P} {b} (go {r} {a} {c} h e w) = pick (erase w)
    where
      put : (t : Simple u v P c b) → Dec (In a (c ∷ t.1)) → Simple u v P a b
      put t (yes m) = rest t.2 t.3 m
      put t (no n) = (_, _, go h e t.2, (n, t.3))

      pick : Simple u v P c b → Simple u v P a b
      pick t = put t (in? a (c ∷ t.1))

  pub simple : {P : ℕ → Type 0} {a b : ℕ} → Joined u v P a b → Simple u v P a b
  simple w = erase w.2
