-- How far a report has been printed: what the writer took so far is the front of the one report that the table has.
use Rattle.std.proofs.Common.{
  ℕ,
  List,
  Option,
  Result,
  Ok,
  Err,
  OnErr,
  sym,
  ap,
  subst,
  arith,
  append_assoc,
  append-nil,
  ◌≡◌,
  ◌+◌,
  [],
  ◌++◌,
  ◌∙◌,
  length,
  take,
}
use Rattle.std.proofs.lemmas.List.{length-append}
use Rattle.std.proofs.Math.Seq.{take-append_seam}
use Rattle.std.proofs.KnownBytes.{Appends-nil, Appends-trans}
use Rattle.std.specs.Io.KnownBytes.{Appends}
use Rattle.streams.specs.Front.{HasWritten}
use Rattle.streams.proofs.Fronts.{front_of_both, front_behind}
use Rattle.lines.specs.Lines.{refused_text}
use Rattle.changeset.specs.work.Buffer.{WritesIn}
use Rattle.changeset.proofs.Withs.{passed_with}
use Rattle.reporting.specs.Report.{ReportOf, Rest, Next}
use Rattle.reporting.proofs.Only.{report_only}
use Rattle.printing.specs.Printed.{Prints, PrintsFront, PrintsWith, PrintsFrontWith}

-- of the report so many bytes are with the writer
abbrev pub Gone : List ℕ → ℕ → Option (List ℕ) → Option (List ℕ) → Type 0
Gone s place old new =
    (front : List ℕ) × (later : List ℕ) × ReportOf s (front ++ later) × (length front ≡ place) × Appends old new front

-- two fronts of one text that are as long as one another
same_front : (a b c d : List ℕ) → a ++ b ≡ c ++ d → length a ≡ length c → a ≡ c
same_front a b c d e same =
    sym (take-append_seam a b) ∙ ap (take (length a)) e ∙ ap (λ n. take n (c ++ d)) same ∙ take-append_seam c d

no_bytes : (l : List ℕ) → length l ≡ 0 → [] ≡ l
no_bytes l e = same_front [] l l [] (sym (append-nil l)) (sym e)

module _ (s : List ℕ) where
  -- nothing yet
  pub gone_nothing : (place : ℕ) (a : Option (List ℕ)) (piece : List ℕ) → place ≡ 0 → Next s place piece
      → Gone s place a a
  gone_nothing place a piece none next =
      let rest = next.rest in (
        rest.before,
        piece ++ next.later,
        rest.report,
        rest.place,
        subst (Appends a a) (no_bytes rest.before (rest.place ∙ none)) (Appends-nil a),
      )

  -- the front that is with the writer is what went before this place
  before_is : (place : ℕ) (a b : Option (List ℕ)) (rest : List ℕ) (gone : Gone s place a b) (r : Rest s place rest)
      → gone.0 ≡ r.before
  before_is place a b rest (front, later, report, long, put) r =
      same_front front later r.before rest (report_only s report r.report) (long ∙ sym r.place)

  -- so the report goes on with the piece behind that front
  report_from : (place : ℕ) (a b : Option (List ℕ)) (piece : List ℕ) (gone : Gone s place a b)
      (next : Next s place piece) → ReportOf s ((gone.0 ++ piece) ++ next.later)
  report_from place a b piece gone next =
      let same = before_is place a b (piece ++ next.later) gone next.rest in
      let joined = append_assoc gone.0 piece next.later in
      subst (ReportOf s) (ap (λ l. l ++ (piece ++ next.later)) (sym same) ∙ sym joined) next.rest.report

  -- a piece more
  pub gone_more : (place to : ℕ) (a b c : Option (List ℕ)) (piece : List ℕ) → to ≡ place + length piece
      → Gone s place a b → Next s place piece → Appends b c piece → Gone s to a c
  gone_more place to a b c piece e gone next put = (
    gone.0 ++ piece,
    next.later,
    report_from place a b piece gone next,
    omega (arith, e, length-append gone.0 piece, gone.3),
    Appends-trans a b c _ _ gone.4 put,
  )

  -- a front of a piece more
  pub front_more : (place : ℕ) (a b c : Option (List ℕ)) (piece : List ℕ) → Gone s place a b → Next s place piece
      → HasWritten b c piece → PrintsFront s a c
  front_more place a b c piece gone next put = (
    (gone.0 ++ piece) ++ next.later,
    report_from place a b piece gone next,
    front_of_both a c _ _ (front_behind a b c _ _ gone.4 put),
  )

  -- an error came, and so much was written
  pub front_told : {T E : Type 0} (r : Result T E) (a b : Option (List ℕ)) → PrintsFront s a b
      → OnErr r (PrintsFront s a b)
  front_told (Ok x) a b p = tt
  front_told (Err e) a b p = p

  -- all of it
  pub gone_all : (place : ℕ) (a b : Option (List ℕ)) → Gone s place a b → Rest s place [] → Prints s a b
  gone_all place a b gone rest = (
    gone.0,
    subst (ReportOf s) (append-nil rest.before ∙ sym (before_is place a b [] gone rest)) rest.report,
    gone.4,
  )

-- the report of the changed table, which stands in the buffer, is the report with the set
module _ (s c buffer : List ℕ) (w : WritesIn s c buffer (Ok tt)) (a b : Option (List ℕ)) where
  pub printed_with : Prints (take (length s) buffer) a b → PrintsWith s c a b
  printed_with (text, report, put) = (text, passed_with s c buffer refused_text w report, put)

  pub front_with : PrintsFront (take (length s) buffer) a b → PrintsFrontWith s c a b
  front_with (text, report, put) = (text, passed_with s c buffer refused_text w report, put)
