-- The rows of a list of entries cut into pieces of whole rows: each piece is the rows of a part of the list, so the
-- pieces in any order, joined, are the rows of the list in some order.
use Prim.Native.Nat.{ℕ, ◌/◌, ◌%◌, ◌≤◌}
use mathlib.Core.Path.{◌≡◌, refl, sym, ap, ◌∙◌}
use mathlib.Core.List.{List, [], ◌∷◌, ◌++◌, flatten, append_assoc}
use native.Mathlib.Omega.{arith}
use lib.ListN.{length, take, drop, take-append-drop, length-append}
use lib.Seq.{length-take-le, take_at, drop_at}
use Rattle.arrays.specs.Members.{In, at, past}
use Rattle.pages.specs.Listing.{Entry}
use Rattle.pages.specs.Bytes.{row, rows}
use Rattle.pages.proofs.Rows.{row_length, rows_length, rows_append}
use Rattle.vetting.specs.Shuffled.{Inserted, front, later, Shuffled, none, more}
use Rattle.vetting.proofs.Shuffles.{shuffled_from, shuffled_behind}

-- a cut at a row's end
record Cut (l : List Entry) (a b : List ℕ) : Type 0 where
  left : List Entry
  right : List Entry
  whole : l ≡ left ++ right
  left_rows : a ≡ rows left
  right_rows : b ≡ rows right

cut : (l : List Entry) (a b : List ℕ) → rows l ≡ a ++ b → length a % 16 ≡ 0 → Cut l a b
cut l a b e w = record {
  left = take i l;
  right = drop i l;
  whole = sym (take-append-drop i l);
  left_rows = sym (take_at a b (length a) refl) ∙ ap (take (length a)) both
      ∙ take_at (rows (take i l)) (rows (drop i l)) (length a) (sym long);
  right_rows = sym (drop_at a b (length a) refl) ∙ ap (drop (length a)) both
      ∙ drop_at (rows (take i l)) (rows (drop i l)) (length a) (sym long);
}
  where
    i : ℕ
    i = length a / 16

    both : a ++ b ≡ rows (take i l) ++ rows (drop i l)
    both = sym e ∙ ap rows (sym (take-append-drop i l)) ∙ rows_append (take i l) (drop i l)

    few : i ≤ length l
    few = omega (arith, rows_length l, ap length e, length-append a b)

    long : length a ≡ length (rows (take i l))
    long = omega (arith, rows_length (take i l), length-take-le i l few)

-- where one piece more is put in among others: behind b and before c
record Behind (a k : List Entry) (joined : List ℕ) : Type 0 where
  b : List Entry
  c : List Entry
  whole : k ≡ b ++ c
  shows : joined ≡ rows (b ++ (a ++ c))

put_in : {x : List ℕ} {pages more : List (List ℕ)} → Inserted x pages more → (a k : List Entry) → x ≡ rows a
    → rows k ≡ flatten pages → ((page : List ℕ) → In page pages → length page % 16 ≡ 0) → Behind a k (flatten more)
unfolding flatten
put_in front a k e f w = record { b = []; c = k; whole = refl; shows = cc (e, f, rows_append a k) }
put_in {x} (later {y = y} {l = l} p) a k e f w = on (cut k y (flatten l) f (w y (at refl))) (put_in p a)
  where
    on : {m : List ℕ} → Cut k y (flatten l)
        → ((k : List Entry) → x ≡ rows a → rows k ≡ flatten l → ((page : List ℕ) → In page l → length page % 16 ≡ 0)
        → Behind a k m)
        → Behind a k (y ++ m)
    on t ih =
        let u = ih t.right e (sym t.right_rows) (λ q h. w q (past h)) in
        record {
          b = t.left ++ u.b;
          c = u.c;
          whole = t.whole ∙ ap (λ m. t.left ++ m) u.whole ∙ sym (append_assoc t.left u.b u.c);
          shows = cc (
            t.left_rows,
            u.shows,
            rows_append t.left (u.b ++ (a ++ u.c)),
            append_assoc t.left u.b (a ++ u.c),
          );
        }

behind : {l m k : List Entry} (a b c : List Entry) → l ≡ a ++ m → k ≡ b ++ c → Shuffled m k
    → Shuffled l (b ++ (a ++ c))
behind a b c e f s = rw e (shuffled_behind a b c (rw f at s))

pub in_any_order : {pages others : List (List ℕ)} → Shuffled pages others → (l : List Entry) → rows l ≡ flatten pages
    → ((page : List ℕ) → In page pages → length page % 16 ≡ 0)
    → (k : List Entry) × Shuffled l k × (flatten others ≡ rows k)
unfolding flatten rows
in_any_order none [] e w = ([], none, refl)
in_any_order none (x ∷ l) e w =
    absurd (omega (arith, ap length e, length-append (row x) (rows l), row_length x))
in_any_order (more {x = x} {l = pages} s p) l e w =
    let t = cut l x (flatten pages) e (w x (at refl)) in
    let u = in_any_order s t.right (sym t.right_rows) (λ q h. w q (past h)) in
    let v = put_in p t.left u.0 t.left_rows (sym u.2) (λ q h. w q (past (shuffled_from s h))) in (
      v.b ++ (t.left ++ v.c),
      behind t.left v.b v.c t.whole v.whole u.1,
      v.shows,
    )
