-- A table has one report.
use Prim.Native.Nat.{ℕ}
use mathlib.Core.Path.{◌≡◌, refl, sym, ap, ◌∙◌}
use mathlib.Core.List.{List, [], ◌++◌, append-nil}
use native.Mathlib.Omega.{arith}
use lib.ListN.{length, take, drop}
use lib.Seq.{take_at, drop_at}
use Rattle.std.specs.Prelude.{Ok, Err}
use Rattle.tree.specs.Accept.{acceptance, acceptance_refusal, Accepts}
use Rattle.tree.specs.work.Why.{why_of}
use Rattle.tree.specs.declared.Refusal.{Refusal}
use Rattle.tree.proofs.Begins.{admitted, accept_only, nothing_found}
use Rattle.pages.specs.Listing.{Entry, Listing}
use Rattle.pages.proofs.Listings.{listing_only}
use Rattle.heaviest.specs.Heaviest.{HeaviestAnswer, heaviest_refusal, HeaviestOf}
use Rattle.heaviest.proofs.Only.{heaviest_only, heaviest_run_only}
use Rattle.heaviest.proofs.Demand2.{found_best}
use Rattle.lines.specs.Lines.{refused_text, net_text, best_text, pairs_text, total_text}
use Rattle.reporting.specs.Report.{all_free, Weighing, ReportOf, refused, none, lines, Rest, Next}
use Rattle.reporting.proofs.Whole.{between}

-- why heaviest refuses, and zeros where it does not
abbrev why_not : HeaviestAnswer → Refusal
why_not (Ok o) = record { number = 0; row = 0; ring = 0 }
why_not (Err why) = why

module _ (s : List ℕ) where
  not_both : {n b k r g : ℕ} → Accepts s (acceptance n b) → Accepts s (acceptance_refusal k r g) → ⊥
  not_both a p = nothing_found (accept_only s _ _ p a)

  same_net : {n b m c : ℕ} → Accepts s (acceptance n b) → Accepts s (acceptance m c) → (n ≡ m) × (b ≡ c)
  same_net {n} {b} a p =
      let d = admitted s n b a in
      let e = admitted s _ _ p in
      (d.nodes ∙ sym e.nodes, d.bound ∙ sym e.bound)

  no_run : (marks : List ℕ) {e : Entry} {k r g : ℕ} → HeaviestOf s marks (between e)
      → HeaviestOf s marks (heaviest_refusal k r g) → ⊥
  no_run marks p q = omega (arith, ap taken (heaviest_only s marks _ _ p q))
    where
      taken : HeaviestAnswer → ℕ
      taken (Ok o) = 1
      taken (Err why) = 0

  one_refusal : {k r g j q i : ℕ} → k ≡ j → r ≡ q → g ≡ i → refused_text k r g ≡ refused_text j q i
  one_refusal e f h = rw (e, f, h)

  with_marks : {n m : ℕ} {o : HeaviestAnswer} → n ≡ m → HeaviestOf s (all_free m) o
      → HeaviestOf s (all_free n) o
  with_marks e p = rw e p

  same_run : (n : ℕ) {e f : Entry} → HeaviestOf s (all_free n) (between e)
      → HeaviestOf s (all_free n) (between f) → e ≡ f
  same_run n {e} {f} p q = heaviest_run_only _ e f (found_best s (all_free n) p) (found_best s (all_free n) q)

  same_pairs : {n b m c : ℕ} {e f : Entry} {l k : List Entry} → n ≡ m → b ≡ c → e ≡ f → Listing (Weighing s n b e) l
      → Listing (Weighing s m c f) k → l ≡ k
  same_pairs h i j v w = listing_only (rw (h, i, j) at v) w

  same_text : {n b m c : ℕ} {e f : Entry} {l k : List Entry} → n ≡ m → b ≡ c → e ≡ f → l ≡ k
      → (net_text n b ++ best_text e) ++ (pairs_text l ++ total_text (length l))
      ≡ (net_text m c ++ best_text f) ++ (pairs_text k ++ total_text (length k))
  same_text h i j g = rw (h, i, j, g)

  pub report_only : {t u : List ℕ} → ReportOf s t → ReportOf s u → t ≡ u
  report_only (refused p) (refused q) =
      let e = accept_only s _ _ p q in
      one_refusal (ap (λ o. (why_of o).number) e) (ap (λ o. (why_of o).row) e) (ap (λ o. (why_of o).ring) e)
  report_only (refused p) (none a h) = absurd (not_both a p)
  report_only (refused p) (lines a h w) = absurd (not_both a p)
  report_only (none a h) (refused p) = absurd (not_both a p)
  report_only (none {n} a h) (none d k) =
      let e = heaviest_only s (all_free n) _ _ h (with_marks (same_net a d).0 k) in
      one_refusal (ap (λ o. (why_not o).number) e) (ap (λ o. (why_not o).row) e) (ap (λ o. (why_not o).ring) e)
  report_only (none {n} a h) (lines d k w) = absurd (no_run (all_free n) (with_marks (same_net a d).0 k) h)
  report_only (lines a h w) (refused p) = absurd (not_both a p)
  report_only (lines {n} a h w) (none d k) = absurd (no_run (all_free n) h (with_marks (same_net a d).0 k))
  report_only (lines {n} a h v) (lines d k w) =
      let m = same_net a d in
      let e = same_run n h (with_marks m.0 k) in
      same_text m.0 m.1 e (same_pairs m.0 m.1 e v w)

  -- what comes next at a place is what the report has there; and where nothing is to come, as many bytes as it has went
  -- before
  pub next_is : {t bytes : List ℕ} {gone : ℕ} → ReportOf s t → Next s gone bytes
      → take (length bytes) (drop gone t) ≡ bytes
  next_is {t} {bytes} {gone} r n =
      let e : t ≡ n.rest.before ++ (bytes ++ n.later) = report_only r n.rest.report in
      rw (e, drop_at n.rest.before (bytes ++ n.later) gone n.rest.place)
      (take_at bytes n.later (length bytes) refl)

  pub ended_whole : {t : List ℕ} {gone : ℕ} → ReportOf s t → Rest s gone [] → gone ≡ length t
  ended_whole {t} {gone} r n = sym n.place ∙ ap length (sym (append-nil n.before) ∙ report_only n.report r)
