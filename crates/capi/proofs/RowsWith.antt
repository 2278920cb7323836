-- What a call with a change set leaves fits the eight numbers of an answer: its own refusals, 1 to 6, 33 and 34, name
-- no row, and everything else is an outcome of the operation, of the changed table.
use Prim.Native.Nat.{ℕ, ◌<◌}
use mathlib.Core.List.{List}
use lib.IntN.{ℤ}
use lib.ListN.{length}
use Rattle.vetting.specs.Vets.{Vetted}
use Rattle.accept.specs.Accept.{accept_refusal, AcceptAnswer}
use Rattle.table.proofs.Refusals.{by_unless}
use Rattle.spines.specs.Heads.{heads_refusal, HeadsAnswer}
use Rattle.changes.specs.Change.{change_refusal, Change}
use Rattle.convert.specs.Convert.{conversion_refusal, Conversion}
use Rattle.pair.specs.Pair.{pair_refusal, PairAnswer}
use Rattle.heaviest.specs.Heaviest.{heaviest_refusal, HeaviestAnswer}
use Rattle.paging.specs.Paging.{listing_refusal, Listed}
use Rattle.window.specs.Window.{Window, window_refusal, WindowAnswer}
use Rattle.vet.specs.Vet.{vet_refusal}
use Rattle.dimacs.specs.Write.{Wrote, write_refusal}
use Rattle.changeset.proofs.Withs.{by_with}
use Rattle.frozen.specs.Calls.{
  AcceptWith,
  PairWith,
  HeaviestWith,
  HeaviestExactWith,
  HeadsWith,
  ListingWith,
  ListingExactWith,
  WindowWith,
  WindowListWith,
  VetWith,
  ClaimsWith,
  CommitsWith,
  AbortsWith,
  ConvertsWith,
  WriteWith,
}
use Rattle.eight.specs.work.Room.{
  AcceptRoom,
  PairRoom,
  HeaviestRoom,
  WindowRoom,
  HeadsRoom,
  PageRoom,
  VetRoom,
  ChangeRoom,
  ConversionRoom,
  WriteRoom,
}
use Rattle.capi.proofs.Rows.{
  nowhere,
  accept_low,
  pair_low,
  heaviest_low,
  window_low,
  heads_low,
  listing_low,
  window_list_low,
  vet_low,
  settle_low,
  claim_low,
  convert_low,
  write_low,
}

pub accept_with_low : (s c : List ℕ) (x : AcceptAnswer) → AcceptWith s c x → AcceptRoom x
accept_with_low s c x p = by_with accept_refusal s c AcceptRoom (λ _. nowhere) (λ t x q. accept_low t x q) p

pub pair_with_low : (s c : List ℕ) (marks : List ℕ) (a : ℕ) (b : ℕ) (x : PairAnswer) → PairWith s c marks a b x
    → PairRoom x
pair_with_low s c marks a b x p = by_with pair_refusal s c PairRoom (λ _. nowhere) (λ t x q. pair_low t marks a b x q) p

pub heaviest_with_low : (s c : List ℕ) (marks : List ℕ) (x : HeaviestAnswer) → HeaviestWith s c marks x → HeaviestRoom x
heaviest_with_low s c marks x p =
    by_with heaviest_refusal s c HeaviestRoom (λ _. nowhere) (λ t x q. heaviest_low _ _ t marks x q) p

pub heaviest_exact_with_low : (s c : List ℕ) (marks : List ℕ) (x : HeaviestAnswer) → HeaviestExactWith s c marks x
    → HeaviestRoom x
heaviest_exact_with_low s c marks x p =
    by_with heaviest_refusal s c HeaviestRoom (λ _. nowhere) (λ t x q. heaviest_low _ _ t marks x q) p

pub heads_with_low : (s c : List ℕ) (before : List ℕ) (x : HeadsAnswer × List ℕ) → HeadsWith s c before x
    → HeadsRoom x.0
heads_with_low s c before x p =
    by_with (heads_refusal before) s c (λ o. HeadsRoom o.0) (λ _. nowhere) (λ t x q. heads_low t before x q) p

pub listing_with_low :
    (s c : List ℕ) (marks : List ℕ) (floor : ℤ) (low : ℕ) (high : ℕ) (old : List ℕ) (x : Listed × List ℕ)
    → ListingWith s c marks floor low high old x → PageRoom x.0
listing_with_low s c marks floor low high old x p =
    by_with (listing_refusal old) s c (λ o. PageRoom o.0) (λ _. nowhere)
    (λ t x q. listing_low _ t marks floor low high old x q) p

pub listing_exact_with_low :
    (s c : List ℕ) (marks : List ℕ) (floor : ℤ) (low : ℕ) (high : ℕ) (old : List ℕ) (x : Listed × List ℕ)
    → ListingExactWith s c marks floor low high old x → PageRoom x.0
listing_exact_with_low s c marks floor low high old x p =
    by_with (listing_refusal old) s c (λ o. PageRoom o.0) (λ _. nowhere)
    (λ t x q. listing_low _ t marks floor low high old x q) p

pub window_with_low : (s c : List ℕ) (marks : List ℕ) (w : Window) (x : WindowAnswer) → WindowWith s c marks w x
    → WindowRoom x
window_with_low s c marks w x p =
    by_with window_refusal s c WindowRoom (λ _. nowhere) (λ t x q. window_low t marks w x q) p

pub window_list_with_low :
    (s c : List ℕ) (marks : List ℕ) (w : Window) (low : ℕ) (high : ℕ) (old : List ℕ) (x : Listed × List ℕ)
    → WindowListWith s c marks w low high old x → PageRoom x.0
window_list_with_low s c marks w low high old x p =
    by_with (listing_refusal old) s c (λ o. PageRoom o.0) (λ _. nowhere)
    (λ t x q. window_list_low t marks w low high old x q) p

pub vet_with_low : (s c : List ℕ) (marks : List ℕ) (floor : ℤ) (list : List ℕ) (x : Vetted)
    → length list < 9223372036854775808 → VetWith s c marks floor list x → VetRoom x
vet_with_low s c marks floor list x h p =
    by_with vet_refusal s c VetRoom (λ _. nowhere) (λ t x q. vet_low t marks floor list x h q) p

pub claim_with_low : (s c : List ℕ) (before : List ℕ) (run : ℕ) (a : ℕ) (b : ℕ) (x : Change × List ℕ)
    → ClaimsWith s c before run a b x → ChangeRoom x.0
claim_with_low s c before run a b x p =
    by_with (change_refusal before) s c (λ o. ChangeRoom o.0) (λ _. nowhere) (λ t x q. claim_low t before run a b x q)
    p

pub commit_with_low : (s c : List ℕ) (before : List ℕ) (run : ℕ) (x : Change × List ℕ) → CommitsWith s c before run x
    → ChangeRoom x.0
commit_with_low s c before run x p =
    by_with (change_refusal before) s c (λ o. ChangeRoom o.0) (λ _. nowhere) (λ t x q. settle_low _ t before run x q)
    p

pub abort_with_low : (s c : List ℕ) (before : List ℕ) (run : ℕ) (x : Change × List ℕ) → AbortsWith s c before run x
    → ChangeRoom x.0
abort_with_low s c before run x p =
    by_with (change_refusal before) s c (λ o. ChangeRoom o.0) (λ _. nowhere) (λ t x q. settle_low _ t before run x q)
    p

pub convert_with_low : (s c : List ℕ) (marks : List ℕ) (x : Conversion) → ConvertsWith s c marks x → ConversionRoom x
convert_with_low s c marks x p =
    by_with conversion_refusal s c ConversionRoom (λ _. nowhere) (λ t x q. convert_low t marks x q) p

pub write_with_low : (s c lengths weights : List ℕ) (x : Wrote) → length lengths < 9223372036854775808
    → length weights < 9223372036854775808 → WriteWith s c lengths weights x → WriteRoom x.0
write_with_low s c lengths weights x h g p =
    by_unless C nowhere
    (λ _ _. by_unless C nowhere
    (λ _ _. by_unless C nowhere
    (λ _ x. by_with (write_refusal lengths weights) s c C (λ _. nowhere)
    (λ t x q. write_low t lengths weights x h g q))))
    p
  where
    C : Wrote → Type 0
    C o = WriteRoom o.0
