-- From the outcomes of acceptance, heaviest and the first page to the whole report: it is there, and it is short.
use Prim.Native.Nat.{ℕ, zero, suc, ◌+◌, ◌-◌, ◌≤◌, ◌<◌}
use mathlib.Core.Path.{◌≡◌, refl, ap, ◌∙◌}
use mathlib.Core.List.{List, ◌∷◌, ◌++◌}
use native.Mathlib.Omega.{arith}
use lib.IntN.{ℤ}
use lib.ListN.{length, take, replicate, length-append, length-replicate}
use mir.Syntax.{w64}
use mir.Val.{SFits, to_z, of_z}
use mir.ValLaws.{to_z-of_z}
use Rattle.std.specs.Prelude.{Some}
use Rattle.table.specs.Header.{nodes_of, bound_of}
use Rattle.tree.specs.Accept.{acceptance, acceptance_refusal, Accepts}
use Rattle.tree.proofs.Begins.{admitted}
use Rattle.pages.specs.Listing.{Entry, entry, Listing}
use Rattle.pages.specs.Passes.{Passes}
use Rattle.pages.proofs.Pages.{whole_follows}
use Rattle.ground.specs.PathOf.{PathOf}
use Rattle.heaviest.specs.Heaviest.{HeaviestAnswer, heaviest_refusal, HeaviestOf}
use Rattle.heaviest.specs.Heaviest as heaviest
use Rattle.ground.proofs.Bounds.{passes_fits}
use Rattle.heaviest.proofs.Demand2.{found_best}
use Rattle.text.specs.work.Put.{Put}
use Rattle.lines.specs.Lines.{refused_text, net_text, best_text, pairs_text, total_text}
use Rattle.reporting.specs.Report.{all_free, Weighing, refused, none, lines, Rest}
use Rattle.reporting.specs.work.Asked.{ListingReady, Asked}
use Rattle.reporting.specs.work.Pieces.{Shown}
use Rattle.lines.proofs.Lengths.{refused_few, net_few, total_few, best_few, pairs_few, net_some}
use Rattle.reporting.proofs.Level.{same_weight}
use Rattle.reporting.proofs.Coming.{rest_all, rest_as, comes_before, out_before}
use Rattle.reporting.proofs.Paging.{paging_begin}

-- one line: a refusal
module _ (s : List ℕ) (k r g : ℕ) (kf : k < 18446744073709551616) (rf : r < 18446744073709551616)
    (gf : g < 18446744073709551616) where
  pub refused_rest : Accepts s (acceptance_refusal k r g) → Rest s 0 (refused_text k r g)
  refused_rest p = rest_all (refused p) (omega (arith, refused_few k r g kf rf gf))

  pub none_rest : (marks : List ℕ) (n b : ℕ) → Accepts s (acceptance n b) → marks ≡ all_free n
      → HeaviestOf s marks (heaviest_refusal k r g) → Rest s 0 (refused_text k r g)
  none_rest marks n b a e p =
      rest_all (none {n = n} {b = b} a (rw e at p)) (omega (arith, refused_few k r g kf rf gf))

as_weighing : (s marks : List ℕ) (n b n₂ b₂ : ℕ) (e : Entry) {l : List Entry} → n ≡ n₂ → b ≡ b₂ → marks ≡ all_free n
    → Listing (Passes (PathOf s marks n₂) (λ l. l ≤ b₂) (λ w. w ≡ e.weight) n₂) l → Listing (Weighing s n b e) l
as_weighing s marks n b n₂ b₂ e h k f w = let g : marks ≡ all_free n₂ = rw h at f in rw (h, k) (rw g at w)

-- the answer that gives an entry
abbrev pub between : Entry → HeaviestAnswer
between e = heaviest.between e.low e.high e.length e.weight

-- the lines of a net that has a heaviest run, once the first page is asked for
module _ (s marks : List ℕ) (n b : ℕ) (e : Entry) {rows : List ℕ} {written left : ℕ} (a : Accepts s (acceptance n b))
    (f : marks ≡ all_free n) (p : HeaviestOf s marks (between e))
    (q : Asked s marks e.weight 0 0 rows written left) where
  listed : Listing (Weighing s n b e) q.page.page.rows
  listed =
      let t = admitted s n b a in
      as_weighing s marks n b (nodes_of s) (bound_of s) e t.nodes t.bound f
      (same_weight s marks e (found_best s marks p) (whole_follows (λ x g. g.pair) q.page.page.all))

  number : length q.page.page.rows ≡ written + left
  number = omega (arith, q.page.count, q.page.page.rest)

  short : b < 18446744073709551616
      → length
      ((net_text n b ++ best_text e) ++ (pairs_text q.page.page.rows ++ total_text (length q.page.page.rows)))
      < 9223372036854775808
  short h =
      let t = admitted s n b a in
      omega (
        arith,
        length-append (net_text n b ++ best_text e)
            (pairs_text q.page.page.rows ++ total_text (length q.page.page.rows)),
        length-append (net_text n b) (best_text e),
        length-append (pairs_text q.page.page.rows) (total_text (length q.page.page.rows)),
        net_few n b (omega (arith, t.net.few)) h,
        best_few e (passes_fits s marks q.net (found_best s marks p).one),
        pairs_few q.page.page.rows (λ x m. passes_fits s marks q.net (q.page.page.all.sound x m).0),
        total_few (length q.page.page.rows) (omega (arith, number, q.few)),
        number,
        q.few,
      )

  pub whole_rest : b < 18446744073709551616
      → Rest s 0 ((net_text n b ++ best_text e) ++ (pairs_text q.page.page.rows ++ total_text (written + left)))
  whole_rest h =
      rest_as (ap (λ (k : ℕ). (net_text n b ++ best_text e) ++ (pairs_text q.page.page.rows ++ total_text k)) number)
      (rest_all (lines {n = n} {b = b} a (rw f at p) listed) (short h))

-- as many free branches as the net has
pub free_part : (n m : ℕ) → n ≤ m → take {A = ℕ} n (replicate m 0) ≡ replicate n 0
free_part zero m h = refl
free_part (suc n) zero h = absurd (omega arith)
free_part (suc n) (suc m) h = ap (λ (l : List ℕ). 0 ∷ l) (free_part n m (omega arith))

pub marks_free : {branches : List ℕ} {n m : ℕ} → branches ≡ replicate 4095 0 → n ≤ 4096 → m ≡ n - 1
    → take m branches ≡ all_free n
marks_free {n = n} e h k = rw (e, k) (free_part (n - 1) 4095 (omega arith))

pub ready_free : {s marks rows : List ℕ} {n b : ℕ} → Accepts s (acceptance n b) → marks ≡ all_free n → 16 ≤ length rows
    → ListingReady s marks rows
ready_free {s} {n = n} {b = b} a e h =
    let t = admitted s n b a in
    record {
      accepted = rw (t.nodes, t.bound) at a;
      marked = ap length e ∙ length-replicate (n - 1) 0 ∙ ap (λ (k : ℕ). k - 1) t.nodes;
      room = h;
    }

pub bits_say : {b : ℕ} (z : ℤ) → b ≡ of_z w64 (to_z w64 (of_z w64 z)) → SFits w64 z → to_z w64 b ≡ z
bits_say {b} z e f = let g = to_z-of_z w64 z f in ap (to_z w64) e ∙ ap (λ (y : ℤ). to_z w64 (of_z w64 y)) g ∙ g

-- the first two lines come next, and then those of the first page; the weight by its bits, as the code carries it
module _ {s : List ℕ} (n b low high len bits : ℕ) (w : ℤ) {rows o out : List ℕ} {written left m : ℕ}
    (a : Accepts s (acceptance n b)) (p : HeaviestOf s (all_free n) (between (entry low high len w)))
    (q : Asked s (all_free n) w 0 0 rows written left) (small : b < 18446744073709551616) (small-weight : SFits w64 w)
    (e : to_z w64 bits ≡ w) (put : Put o 0 (net_text n b ++ best_text (entry low high len (to_z w64 bits))) out m) where
  abbrev best : Entry
  best = entry low high len w

  abbrev follow : List ℕ
  follow = pairs_text q.page.page.rows ++ total_text (written + left)

  whole : Rest s 0 ((net_text n b ++ best_text best) ++ follow)
  whole = whole_rest s (all_free n) n b best a refl p q small

  put_best : Put o 0 (net_text n b ++ best_text best) out m
  put_best = rw e at put

  some : 0 < length (net_text n b ++ best_text best)
  some = omega (arith, length-append (net_text n b) (best_text best), net_some n b)

  pub lined_shown : Shown s rows out
      (record {
        n = m;
        place = 0;
        pairs = Some (record {
          nodes = n;
          floor = w;
          total = written + left;
          page = record { written = written; left = left };
          row = 0;
        });
      })
  lined_shown =
      let t = admitted s n b a in
      record {
        comes = comes_before follow whole put_best some;
        goes = record {
          accepted = rw (t.nodes, t.bound) at a;
          nodes = t.nodes;
          fits = small-weight;
          paging = paging_begin q (out_before follow whole put_best refl);
        };
      }
