-- What went before and what is still to come: a text at the front of the lent bytes comes next, and then what follows
-- it.
use Prim.Native.Nat.{ℕ, ◌+◌, ◌<◌}
use mathlib.Core.Path.{◌≡◌, refl, sym}
use mathlib.Core.List.{List, [], ◌∷◌, ◌++◌, append_assoc, append-nil}
use native.Mathlib.Omega.{arith}
use lib.ListN.{length, length-append}
use Rattle.std.specs.Prelude.{None}
use Rattle.text.specs.work.Put.{Put}
use Rattle.text.proofs.Puts.{put_front}
use Rattle.reporting.specs.declared.Piece.{Piece}
use Rattle.reporting.specs.Report.{ReportOf, Rest, Next}
use Rattle.reporting.specs.work.Pieces.{Comes, Shown}

-- the whole is to come
pub rest_all : {s t : List ℕ} → ReportOf s t → length t < 9223372036854775808 → Rest s 0 t
rest_all r h = record { before = []; report = r; place = refl; few = h }

-- the first of what is to come, and what then is
pub rest_next : {s : List ℕ} {gone : ℕ} (a b : List ℕ) → Rest s gone (a ++ b) → Next s gone a
rest_next a b r = record { later = b; rest = r }

pub rest_after : {s : List ℕ} {gone : ℕ} (a b : List ℕ) → Rest s gone (a ++ b) → Rest s (gone + length a) b
rest_after a b r = record {
  before = r.before ++ a;
  report = rw (append_assoc r.before a b) r.report;
  place = omega (arith, length-append r.before a, r.place);
  few = rw (append_assoc r.before a b) r.few;
}

pub rest_as : {s a b : List ℕ} {gone : ℕ} → a ≡ b → Rest s gone a → Rest s gone b
rest_as e r = rw e at r

pub next_as : {s a b : List ℕ} {gone : ℕ} → a ≡ b → Next s gone a → Next s gone b
next_as e r = rw e at r

-- all of it
pub rest_end : {s : List ℕ} {gone : ℕ} (a : List ℕ) → Rest s gone a → Next s gone a
rest_end a r = record { later = []; rest = rest_as (sym (append-nil a)) r }

-- places in the report are small
pub next_fits : {s : List ℕ} {gone : ℕ} (a : List ℕ) → Next s gone a → gone + length a < 9223372036854775808
next_fits a n =
    omega (
      arith,
      n.rest.few,
      n.rest.place,
      length-append n.rest.before (a ++ n.later),
      length-append a n.later,
    )

-- nothing but the end
nothing_in : (t : List ℕ) → length t ≡ 0 → t ≡ []
nothing_in [] h = refl
nothing_in (x ∷ t) h = absurd (omega arith)

-- a text in the front of the lent bytes comes next: with more after it, as the last, or none at all
pub comes_before : {s o t out : List ℕ} {n place : ℕ} (u : List ℕ) → Rest s place (t ++ u) → Put o 0 t out n
    → 0 < length t → Comes s out n place
comes_before {t = t} u r p h = record {
  room = omega (arith, p.room, p.same);
  next = next_as (sym (put_front p)) (rest_next t u r);
  ends = λ z. absurd (omega (arith, p.after));
}

pub comes_last : {s o t out : List ℕ} {n place : ℕ} → Rest s place t → Put o 0 t out n → Comes s out n place
comes_last {t = t} r p = record {
  room = omega (arith, p.room, p.same);
  next = next_as (sym (put_front p)) (rest_end t r);
  ends = λ z. rest_as (nothing_in t (omega (arith, p.after))) r;
}

pub comes_none : {s out : List ℕ} {place : ℕ} → Rest s place [] → Comes s out 0 place
comes_none r = record { room = omega arith; next = rest_end [] r; ends = λ z. r }

-- and after it
pub out_before : {s o t out : List ℕ} {n place next : ℕ} (u : List ℕ) → Rest s place (t ++ u) → Put o 0 t out n
    → next ≡ place + n → Rest s next u
out_before {t = t} {n = n} {place = place} u r p e =
    let f : place + n ≡ place + length t = omega (arith, p.after) in
    rw (e, f) (rest_after t u r)

pub out_last : {s o t out : List ℕ} {n place next : ℕ} → Rest s place t → Put o 0 t out n → next ≡ place + n
    → Rest s next []
out_last {t = t} r p e = out_before [] (rest_as (sym (append-nil t)) r) p e

-- a piece that nothing follows: a text that is all that is to come, or none where it has ended
last_shown : {s rows out : List ℕ} {p : Piece} {n place : ℕ} → (p.n ≡ n) × (p.place ≡ place) × (p.pairs ≡ None)
    → Comes s out n place → Rest s (place + n) [] → Shown s rows out p
last_shown e c r = record {
  comes = rw (e.0, e.1) c;
  goes = rw (e.2, e.0, e.1) r;
}

pub put_shown : {s rows o t out : List ℕ} {p : Piece} {n place : ℕ}
    → (p.n ≡ n) × (p.place ≡ place) × (p.pairs ≡ None) → Rest s place t → Put o 0 t out n → Shown s rows out p
put_shown e r put = last_shown e (comes_last r put) (out_last r put refl)

pub none_shown : {s rows out : List ℕ} {p : Piece} {place : ℕ}
    → (p.n ≡ 0) × (p.place ≡ place) × (p.pairs ≡ None) → Rest s place [] → Shown s rows out p
none_shown {place = place} e r = let z : place + 0 ≡ place = omega arith in last_shown e (comes_none r) (rw z r)
