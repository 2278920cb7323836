-- From what was written to writing's promise: 1 to 3 as they were tested, and the two texts of an accepted table, with
-- room for both or not.
use Prim.Native.Nat.{ℕ, ◌-◌, ◌≤◌, ◌<◌}
use mathlib.Core.Path.{◌≡◌, ap, ◌∙◌}
use mathlib.Core.List.{List, ◌++◌}
use native.Mathlib.Omega.{arith}
use lib.ListN.{length, drop}
use Rattle.table.specs.Refuse.{Unless, refused, passed}
use Rattle.table.proofs.Refusals.{unless_map, past}
use Rattle.numbers.specs.Bytes.{EachByte}
use Rattle.net.specs.Net.{first_end, second_end}
use Rattle.net.specs.work.Net.{Net}
use Rattle.text.specs.work.Put.{Put}
use Rattle.written.specs.work.Rows.{row_arc, RowsThere}
use Rattle.written.specs.work.Texts.{text_of}
use Rattle.written.proofs.Spelt.{lengths_written, weights_written}
use Rattle.dimacs.specs.Write.{Wrote, write_refusal, text_in, GivesTexts, version_refusal, VersionOne, both_texts}
use Rattle.std.specs.Prelude.{Result, Ok, Err}
use Rattle.tree.specs.declared.Refusal.{Refusal}

-- 1, 2, and 3 for any version but 1: how what begins with them hands a refusal on, and goes on
module _ {A : Type 0} (refuse : ℕ → ℕ → ℕ → A) (s : List ℕ) {rest : A → Type 0} where
  pub version_refused : {w : Refusal} → VersionOne (Result Unit Refusal) version_refusal s (λ x. x ≡ Ok tt) (Err w)
      → VersionOne A refuse s rest (refuse w.number w.row w.ring)
  version_refused p =
      unless_map handed (λ _. unless_map handed (λ _. unless_map handed (λ _ e. absurd (grind (arith, e))))) p
    where
      handed : Result Unit Refusal → A
      handed (Ok _) = refuse 0 0 0
      handed (Err v) = refuse v.number v.row v.ring

  pub version_on : VersionOne (Result Unit Refusal) version_refusal s (λ x. x ≡ Ok tt) (Ok tt) → {o : A} → rest o
      → VersionOne A refuse s rest o
  version_on p r =
      let a = past (λ e. grind (arith, e)) p in
      let b = past (λ e. grind (arith, e)) a.1 in
      let c = past (λ e. grind (arith, e)) b.1 in
      passed a.0 (passed b.0 (passed c.0 r))

-- the rows of an accepted table stand
pub rows_there : {s : List ℕ} {n : ℕ} → Net s n → (place : ℕ) → place ≤ 8 → RowsThere s (n - 1) place
rows_there net place h = record { few = omega (arith, net.few); stands = net.stands; within = h }

-- a text in lent bytes
text_in_lem : {old t new : List ℕ} {i : ℕ} → Put old 0 t new i → new ≡ text_in t old
text_in_lem {old} {t} {new} {i} p =
    let e : i ≡ length t = omega (arith, p.after) in p.bytes ∙ ap (λ (k : ℕ). t ++ drop k old) e

module _ (s : List ℕ) (n : ℕ) (net : Net s n) (all : EachByte s) (lengths weights : List ℕ) where
  abbrev long : List ℕ
  long = text_of 4294967295 n (row_arc 4 s) (n - 1)

  abbrev heavy : List ℕ
  heavy = text_of 2147483647 n (row_arc 8 s) (n - 1)

  gives : {o : Wrote} → Unless Wrote (write_refusal lengths weights 29 0 0)
      ((length long ≤ length lengths) × (length heavy ≤ length weights))
      (λ x. x ≡ (both_texts (length long) (length heavy), text_in long lengths, text_in heavy weights)) o
      → GivesTexts s n lengths weights o
  unfolding first_end second_end
  gives u = record {
    long = long;
    heavy = heavy;
    long_is = lengths_written s n (omega (arith, net.few)) all net.first net.second;
    heavy_is = weights_written s n (omega (arith, net.few)) all net.first net.second;
    outcome = u;
  }

  pub no_long_room : length lengths < length long
      → GivesTexts s n lengths weights (write_refusal lengths weights 29 0 0)
  no_long_room h = gives (refused (λ g. omega (arith, g.0, h)))

  pub no_heavy_room : length weights < length heavy
      → GivesTexts s n lengths weights (write_refusal lengths weights 29 0 0)
  no_heavy_room h = gives (refused (λ g. omega (arith, g.1, h)))

  pub both_given : {a b i j : ℕ} {l w : List ℕ} → a ≡ length long
      → b ≡ length heavy
      → Put lengths 0 long l i
      → Put weights 0 heavy w j
      → GivesTexts s n lengths weights (both_texts a b, l, w)
  both_given e f p q =
      gives
      (passed (omega (arith, p.after, p.room), omega (arith, q.after, q.room))
      (λ i. (both_texts (e i) (f i), text_in_lem p i, text_in_lem q i)))
