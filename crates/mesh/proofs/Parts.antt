-- Lists of nodes or rows: parted by a decided property, and taken through a function; and the count of what is left
-- when a part is taken away. A ring's nodes are counted so, and a table's rows.
use Prim.Native.Nat.{ℕ, suc, ◌+◌}
use mathlib.Core.Path.{◌≡◌, refl, sym, ap}
use mathlib.Core.List.{List, [], ◌∷◌}
use native.Mathlib.Omega.{arith}
use lib.ListN.{length}
use Rattle.arrays.specs.Members.{In, at, past, Distinct}
use Rattle.net.specs.Count.{Count}
use Rattle.arrays.proofs.Members.{not_nil}
use Rattle.net.proofs.Counts.{count_unique}

-- those with Q and those without
pub record Parted (Q : ℕ → Type 0) (l : List ℕ) : Type 0 where
  pub ins : List ℕ
  pub outs : List ℕ
  pub ins_once : Distinct l → Distinct ins
  pub outs_once : Distinct l → Distinct outs
  pub ins_only : (x : ℕ) → In x ins → In x l × Q x
  pub outs_only : (x : ℕ) → In x outs → In x l × ¬ Q x
  pub ins_all : (x : ℕ) → In x l → Q x → In x ins
  pub outs_all : (x : ℕ) → In x l → ¬ Q x → In x outs
  pub long : length ins + length outs ≡ length l

pub parted : {Q : ℕ → Type 0} → ((x : ℕ) → Dec (Q x)) → (l : List ℕ) → Parted Q l
parted d [] =
    record {
      ins = [];
      outs = [];
      ins_once = λ e. tt;
      outs_once = λ e. tt;
      ins_only = λ x i. absurd (not_nil i);
      outs_only = λ x i. absurd (not_nil i);
      ins_all = λ x i q. i;
      outs_all = λ x i q. i;
      long = refl;
    }
parted {Q} d (y ∷ l) = pick (d y) (parted d l)
  where
    put_in : Q y → (t : Parted Q l) (x : ℕ) → In x (y ∷ t.ins) → In x (y ∷ l) × Q x
    put_in q t x (at e) = (at e, rw e q)
    put_in q t x (past i) = (past (t.ins_only x i).0, (t.ins_only x i).1)

    put_out : ¬ Q y → (t : Parted Q l) (x : ℕ) → In x (y ∷ t.outs) → In x (y ∷ l) × ¬ Q x
    put_out q t x (at e) = (at e, rw e q)
    put_out q t x (past i) = (past (t.outs_only x i).0, (t.outs_only x i).1)

    get_in : (t : Parted Q l) (x : ℕ) → In x (y ∷ l) → Q x → In x (y ∷ t.ins)
    get_in t x (at e) q = at e
    get_in t x (past i) q = past (t.ins_all x i q)

    get_out : (t : Parted Q l) (x : ℕ) → In x (y ∷ l) → ¬ Q x → In x (y ∷ t.outs)
    get_out t x (at e) q = at e
    get_out t x (past i) q = past (t.outs_all x i q)

    skip_in : ¬ Q y → (t : Parted Q l) (x : ℕ) → In x (y ∷ l) → Q x → In x t.ins
    skip_in n t x (at e) q = absurd (n (rw e at q))
    skip_in n t x (past i) q = t.ins_all x i q

    skip_out : Q y → (t : Parted Q l) (x : ℕ) → In x (y ∷ l) → ¬ Q x → In x t.outs
    skip_out n t x (at e) q = absurd (q (rw e n))
    skip_out n t x (past i) q = t.outs_all x i q

    pick : Dec (Q y) → Parted Q l → Parted Q (y ∷ l)
    pick (yes q) t =
        record {
          ins = y ∷ t.ins;
          outs = t.outs;
          ins_once = λ e. (λ i. e.0 (t.ins_only y i).0, t.ins_once e.1);
          outs_once = λ e. t.outs_once e.1;
          ins_only = put_in q t;
          outs_only = λ x i. (past (t.outs_only x i).0, (t.outs_only x i).1);
          ins_all = get_in t;
          outs_all = skip_out q t;
          long = omega (arith, t.long);
        }
    pick (no q) t =
        record {
          ins = t.ins;
          outs = y ∷ t.outs;
          ins_once = λ e. t.ins_once e.1;
          outs_once = λ e. (λ i. e.0 (t.outs_only y i).0, t.outs_once e.1);
          ins_only = λ x i. (past (t.ins_only x i).0, (t.ins_only x i).1);
          outs_only = put_out q t;
          ins_all = skip_in q t;
          outs_all = get_out t;
          long = omega (arith, t.long);
        }

-- each member through f
unfoldable pub each : (ℕ → ℕ) → List ℕ → List ℕ
each f [] = []
each f (x ∷ l) = f x ∷ each f l

pub each_length : (f : ℕ → ℕ) (l : List ℕ) → length (each f l) ≡ length l
unfolding each
each_length f [] = refl
each_length f (x ∷ l) = ap suc (each_length f l)

pub in_each : (f : ℕ → ℕ) {x : ℕ} (l : List ℕ) → In x l → In (f x) (each f l)
unfolding each
in_each f [] i = absurd (not_nil i)
in_each f (y ∷ l) (at e) = at (ap f e)
in_each f (y ∷ l) (past i) = past (in_each f l i)

pub each_in : (f : ℕ → ℕ) {r : ℕ} (l : List ℕ) → In r (each f l) → (x : ℕ) × In x l × (f x ≡ r)
unfolding each
each_in f [] i = absurd (not_nil i)
each_in f (y ∷ l) (at e) = (y, at refl, sym e)
each_in f (y ∷ l) (past i) = let t = each_in f l i in (t.0, past t.1, t.2)

pub each_once : (f : ℕ → ℕ) (l : List ℕ) → ((x y : ℕ) → In x l → In y l → f x ≡ f y → x ≡ y) → Distinct l
    → Distinct (each f l)
unfolding each
each_once f [] inj d = tt
each_once f (x ∷ l) inj d = (
  λ i. let t = each_in f l i in d.0 (rw (inj x t.0 (at refl) (past t.1) (sym t.2)) t.1),
  each_once f l (λ y z i j. inj y z (past i) (past j)) d.1,
)

-- what is left of a count
pub count_rest : {P Q : ℕ → Type 0} {m i : ℕ} → ((x : ℕ) → Dec (Q x)) → Count P m → Count (λ x. P x × Q x) i
    → (j : ℕ) × Count (λ x. P x × ¬ Q x) j × (i + j ≡ m)
count_rest {P} {Q} d p q =
    let t = parted d p.list in
    let a : Count (λ x. P x × Q x) (length t.ins) = record {
      list = t.ins;
      once = t.ins_once p.once;
      only = λ x i. (p.only x (t.ins_only x i).0, (t.ins_only x i).1);
      all = λ x h. t.ins_all x (p.all x h.0) h.1;
      long = refl;
    } in
    let b : Count (λ x. P x × ¬ Q x) (length t.outs) = record {
      list = t.outs;
      once = t.outs_once p.once;
      only = λ x i. (p.only x (t.outs_only x i).0, (t.outs_only x i).1);
      all = λ x h. t.outs_all x (p.all x h.0) h.1;
      long = refl;
    } in
    (length t.outs, b, omega (arith, count_unique q a, t.long, p.long))
