-- The report of a table with a change set. There is one, by the law of every promise with a set. A set of 6 bytes
-- changes nothing: the report of the table itself, both ways, since 1 to 6 are said of it the same. And from what
-- `write_in` gave: a refusal's line is the whole of it, and so is the report of the table in the buffer.
use Prim.Native.Nat.{ℕ}
use mathlib.Core.Path.{◌≡◌, sym, ap, ◌∙◌}
use mathlib.Core.List.{List, [], ◌++◌, append-nil}
use lib.ListN.{length, take}
use Rattle.std.specs.Prelude.{Ok, Err}
use Rattle.table.specs.Refuse.{Only, passed}
use Rattle.table.specs.Refuse as unless
use Rattle.table.specs.Header.{Header}
use Rattle.table.specs.declared.Refusal.{Refusal}
use Rattle.table.proofs.Accepted.{past_header, header_map}
use Rattle.tree.specs.Accept.{Acceptance, acceptance_refusal}
use Rattle.tree.proofs.Begins.{accepted_headed}
use Rattle.text.specs.work.Put.{Put}
use Rattle.text.proofs.Puts.{put_front}
use Rattle.lines.specs.Lines.{refused_text}
use Rattle.changeset.specs.Entries.{Formed}
use Rattle.changeset.specs.work.Buffer.{WritesIn}
use Rattle.changeset.proofs.Withs.{with_only, with_none, none_with, refused_with, passed_with}
use Rattle.reporting.specs.Report.{ReportOf, none, lines, Rest}
use Rattle.reporting.specs.Report as report
use Rattle.reporting.specs.With.{ReportWith, WholeWith}
use Rattle.reporting.proofs.Only.{report_only}

-- ONE REPORT WITH A SET
pub report_with_only : (s c : List ℕ) → Only (ReportWith s c)
report_with_only s c = with_only refused_text s c (λ t x y p q. report_only t p q)

-- so also how many bytes it has
pub whole_with_only : (s c : List ℕ) → Only (WholeWith s c)
whole_with_only s c x y p q =
    sym p.all ∙ ap length (report_with_only s c _ _ p.report q.report) ∙ q.all

-- a report says 1 to 6 of its table by itself: both ways
module _ (s : List ℕ) where
  abbrev handed : Acceptance → List ℕ
  handed (Ok net) = []
  handed (Err why) = refused_text why.number why.row why.ring

  said_twice : {t : List ℕ} → ReportOf s t → Header (List ℕ) (λ k r. refused_text k r 0) s (ReportOf s) t
  said_twice (report.refused p) =
      header_map handed (λ k r. acceptance_refusal k r 0) s (λ h e. report.refused p) p
  said_twice (none a h) = past_header (λ k r. refused_text k r 0) {s = s} (accepted_headed s a) (none a h)
  said_twice (lines a h l) = past_header (λ k r. refused_text k r 0) {s = s} (accepted_headed s a) (lines a h l)

  said_once : {t : List ℕ} → Header (List ℕ) (λ k r. refused_text k r 0) s (ReportOf s) t → ReportOf s t
  said_once (unless.refused n) = report.refused (unless.refused n)
  said_once (passed a (unless.refused n)) = report.refused (passed a (unless.refused n))
  said_once (passed a (passed b (unless.refused n))) = report.refused (passed a (passed b (unless.refused n)))
  said_once (passed a (passed b (passed d (unless.refused n)))) =
      report.refused (passed a (passed b (passed d (unless.refused n))))
  said_once (passed a (passed b (passed d (passed e (unless.refused n))))) =
      report.refused (passed a (passed b (passed d (passed e (unless.refused n)))))
  said_once (passed a (passed b (passed d (passed e (passed f (unless.refused n)))))) =
      report.refused (passed a (passed b (passed d (passed e (passed f (unless.refused n))))))
  said_once (passed a (passed b (passed d (passed e (passed f (passed g r)))))) = r

-- A SET OF 6 BYTES CHANGES NOTHING
module _ (s c : List ℕ) (f : Formed c) (six : length c ≡ 6) {t : List ℕ} where
  pub with_nothing : ReportWith s c t → ReportOf s t
  with_nothing p = said_once s (with_none refused_text s c f six p)

  pub nothing_with : ReportOf s t → ReportWith s c t
  nothing_with p = none_with refused_text s c f six (said_twice s p)

-- From what `write_in` gave, and this buffer
module _ (s c buffer : List ℕ) where
  pub line_with : {o out : List ℕ} {n : ℕ} (why : Refusal) → WritesIn s c buffer (Err why)
      → Put o 0 (refused_text why.number why.row 0) out n → ReportWith s c (take n out)
  line_with why w p = rw (put_front p) (refused_with s c buffer refused_text why w)

  pub whole_with : {gone : ℕ} → WritesIn s c buffer (Ok tt) → Rest (take (length s) buffer) gone [] → WholeWith s c gone
  whole_with w r =
      record {
        text = r.before ++ [];
        report = passed_with s c buffer refused_text w r.report;
        all = ap length (append-nil r.before) ∙ r.place;
      }
