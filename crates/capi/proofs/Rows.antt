-- The row that a refusal names fits a signed number, and its ring has 4,096 rows at the most: a refusal of 1 to 11
-- names a row of the table, below 4,096, or 0, and a ring has rows up to the row named alone; of an operation's own
-- refusals, from 13 on, 24 alone names one, which has a mark; and of a mesh's the row is one of the rows that stand in
-- the table.
use Prim.Native.Nat.{ℕ, ◌/◌, ◌≤◌, ◌<◌}
use mathlib.Core.List.{List}
use native.Mathlib.Omega.{arith}
use lib.IntN.{ℤ}
use lib.ListN.{length}
use Rattle.std.specs.Prelude.{Ok, Err}
use Rattle.table.specs.Header.{nodes_of}
use Rattle.table.specs.Refuse.{Unless, FirstBad}
use Rattle.tree.specs.Accept.{Begins}
use Rattle.accept.specs.Accept.{GivesNet, AcceptOf, accept_refusal, AcceptAnswer}
use Rattle.table.proofs.Refusals.{by_unless, by_rows}
use Rattle.tree.proofs.Begins.{Told, begins_map, by_beginning}
use Rattle.spines.specs.Heads.{Heads, Headings, heads_refusal, HeadsAnswer}
use Rattle.changes.specs.Change.{Done, Settles, change_refusal, Change}
use Rattle.changes.specs.Claim.{Claims}
use Rattle.convert.specs.Convert.{GivesMarks, Converting, Converts, conversion_refusal, Conversion}
use Rattle.pair.specs.Pair.{ShowsPath, PairOf, pair_refusal, PairAnswer}
use Rattle.heaviest.specs.Heaviest.{GivesHeaviest, HeaviestWithin, heaviest_refusal, HeaviestAnswer}
use Rattle.pages.specs.Passes.{Passes}
use Rattle.paging.specs.Paging.{listing_refusal, GivesPage, Listed}
use Rattle.paging.proofs.Few.{paged_few}
use Rattle.listing.specs.Listing.{ListingWithin}
use Rattle.window.specs.Window.{Window, GivesMost, WindowOf, window_refusal, WindowAnswer}
use Rattle.window.specs.List.{WindowListOf}
use Rattle.vetting.specs.Vets.{GivesVerdict, Vetted}
use Rattle.vetting.specs.declared.Verdict.TheVariants.{Yes, Fault, Missing}
use Rattle.vet.specs.Vet.{VetOf, vet_refusal}
use Rattle.writer.specs.WriteRow.{WritesRow, RowAnswer}
use Rattle.mesh.specs.Table.{rows_of}
use Rattle.mesh.specs.Answer.{mesh_refusal, MeshOf, MeshAnswer}
use Rattle.mesh.specs.Answer as answer
use Rattle.dimacs.specs.Read.{ReadOf, ReadAnswer}
use Rattle.dimacs.specs.Write.{Wrote, WriteOf}
use Rattle.dimacs.proofs.Cases.{by_reading, by_writing}
use Rattle.eight.specs.work.Room.{
  Room,
  WideRoom,
  AcceptRoom,
  PairRoom,
  HeaviestRoom,
  WindowRoom,
  HeadsRoom,
  PageRoom,
  VetRoom,
  ChangeRoom,
  ConversionRoom,
  ReadRoom,
  WriteRoom,
  RowRoom,
  MeshRoom,
}

pub nowhere : Room 0 0
nowhere = record { low = omega arith; few = omega arith }

-- a refusal of 1 to 11
told : (k r g : ℕ) → Told k r g → Room r g
told k r g t = record { low = t.low; few = omega (arith, t.low, t.few) }

-- one of an operation's own, and then as the rest says
own : {A : Type 0} (C : A → Type 0) {no : A} {Good : Type 0} {rest : A → Type 0} → C no → ((x : A) → rest x → C x)
    → (x : A) → Unless A no Good rest x → C x
own C n f x p = by_unless C n (λ _. f) p

-- what comes after 1 to 11 knows that an accepted net has 4,096 nodes at the most
few_nodes : {A : Type 0} (C : A → Type 0) (refuse : ℕ → ℕ → ℕ → A) (s : List ℕ) {rest : A → Type 0} {x : A}
    → ((k r g : ℕ) → Told k r g → C (refuse k r g)) → (nodes_of s ≤ 4096 → (y : A) → rest y → C y)
    → Begins A refuse s rest x → C x
few_nodes {A} C refuse s {rest} h f p =
    by_beginning C refuse s {rest = known} h (λ y q. f q.0 y q.1)
    (begins_map (λ o. o) refuse s {rest' = known} (λ N q. (N.few, q)) p)
  where
    known : A → Type 0
    known o = (nodes_of s ≤ 4096) × rest o

pub accept_low : (s : List ℕ) (x : AcceptAnswer) → AcceptOf s x → AcceptRoom x
accept_low s x p = by_beginning AcceptRoom accept_refusal s told given p
  where
    given : (x : AcceptAnswer) → GivesNet s x → AcceptRoom x
    given (Ok _) q = tt
    given (Err why) q = absurd q

pub pair_low : (s marks : List ℕ) (a b : ℕ) (x : PairAnswer) → PairOf s marks a b x → PairRoom x
pair_low s marks a b x p =
    by_beginning PairRoom pair_refusal s told (own PairRoom nowhere (own PairRoom nowhere (found _))) p
  where
    found : (n : ℕ) (x : PairAnswer) → ShowsPath s marks n a b x → PairRoom x
    found n (Ok _) q = tt
    found n (Err why) q = absurd q

pub heaviest_low : (none : ℕ) (Within : ℕ → Type 0) (s marks : List ℕ) (x : HeaviestAnswer)
    → HeaviestWithin none Within s marks x → HeaviestRoom x
heaviest_low none Within s marks x p =
    by_beginning HeaviestRoom heaviest_refusal s told
    (own HeaviestRoom nowhere (own HeaviestRoom nowhere (found _))) p
  where
    found : (P : _) (x : HeaviestAnswer) → GivesHeaviest P x → HeaviestRoom x
    found P (Ok _) q = tt
    found P (Err why) q = absurd q

pub window_low : (s marks : List ℕ) (w : Window) (x : WindowAnswer) → WindowOf s marks w x → WindowRoom x
window_low s marks w x p =
    by_beginning WindowRoom window_refusal s told
    (own WindowRoom nowhere (own WindowRoom nowhere (own WindowRoom nowhere (found _)))) p
  where
    found : (P : _) (x : WindowAnswer) → GivesMost P x → WindowRoom x
    found P (Ok _) q = tt
    found P (Err why) q = absurd q

pub heads_low : (s before : List ℕ) (x : HeadsAnswer × List ℕ) → Headings s before x → HeadsRoom x.0
heads_low s before x p =
    let C : HeadsAnswer × List ℕ → Type 0 = λ o. HeadsRoom o.0 in
    by_beginning C (heads_refusal before) s told (own C nowhere (written _)) p
  where
    written : (n : ℕ) (x : HeadsAnswer × List ℕ) → Heads s n x → HeadsRoom x.0
    written n (Ok _, list) q = tt
    written n (Err why, list) q = absurd q

-- of a page the counts fit too, for its net has 4,096 nodes at the most
page_low : (Value : ℕ → ℕ → ℕ → ℤ → Type 0) (Within : ℕ → Type 0) (Heavy : ℤ → Type 0) {n : ℕ} (low high : ℕ)
    (old : List ℕ) → n ≤ 4096 → (x : Listed × List ℕ) → GivesPage (Passes Value Within Heavy n) low high old x
    → PageRoom x.0
page_low Value Within Heavy low high old few (Ok _, now) q = omega (arith, paged_few few q)
page_low Value Within Heavy low high old few (Err why, now) q = absurd q

pub listing_low :
    (Within : ℕ → Type 0) (s marks : List ℕ) (floor : ℤ) (low high : ℕ) (old : List ℕ) (x : Listed × List ℕ)
    → ListingWithin Within s marks floor low high old x → PageRoom x.0
listing_low Within s marks floor low high old x p =
    let C : Listed × List ℕ → Type 0 = λ o. PageRoom o.0 in
    few_nodes C (listing_refusal old) s told
    (λ few. own C nowhere (own C nowhere (page_low _ _ _ low high old few))) p

pub window_list_low : (s marks : List ℕ) (w : Window) (low high : ℕ) (old : List ℕ) (x : Listed × List ℕ)
    → WindowListOf s marks w low high old x → PageRoom x.0
window_list_low s marks w low high old x p =
    let C : Listed × List ℕ → Type 0 = λ o. PageRoom o.0 in
    few_nodes C (listing_refusal old) s told
    (λ few. own C nowhere (own C nowhere (own C nowhere (page_low _ _ _ low high old few)))) p

-- a row at fault is one of the list's
pub vet_low : (s marks : List ℕ) (floor : ℤ) (list : List ℕ) (x : Vetted) → length list < 9223372036854775808
    → VetOf s marks floor list x → VetRoom x
vet_low s marks floor list x h p =
    by_beginning VetRoom vet_refusal s told (own VetRoom nowhere (own VetRoom nowhere (given _))) p
  where
    given : (P : _) (x : Vetted) → GivesVerdict P list (length list / 16) x → VetRoom x
    given P (Ok Yes) q = tt
    given P (Ok (Fault i)) q = omega (arith, h, q.0)
    given P (Ok (Missing a b)) q = tt
    given P (Err why) q = absurd q

-- commit and abort
changed : (P : ℕ → Type 0) (m : ℕ) (before : List ℕ) (x : Change × List ℕ) → Done P m before x → ChangeRoom x.0
changed P m before (Ok k, after) q = tt
changed P m before (Err why, after) q = absurd q

pub settle_low : (m : ℕ) (s before : List ℕ) (run : ℕ) (x : Change × List ℕ) → Settles m s before run x
    → ChangeRoom x.0
settle_low m s before run x p =
    let C : Change × List ℕ → Type 0 = λ o. ChangeRoom o.0 in
    by_beginning C (change_refusal before) s told (own C nowhere (own C nowhere (changed _ m before))) p

pub claim_low : (s before : List ℕ) (run a b : ℕ) (x : Change × List ℕ) → Claims s before run a b x
    → ChangeRoom x.0
claim_low s before run a b x p =
    let C : Change × List ℕ → Type 0 = λ o. ChangeRoom o.0 in
    by_beginning C (change_refusal before) s told
    (own C nowhere (own C nowhere (own C nowhere (own C nowhere (own C nowhere (changed _ run before)))))) p

-- 24 names a row that has a mark, of which an accepted net has fewer than 4,096
pub convert_low : (s marks : List ℕ) (x : Conversion) → Converts s marks x → ConversionRoom x
convert_low s marks x p = few_nodes ConversionRoom conversion_refusal s told after p
  where
    given : (x : Conversion) → GivesMarks marks x → ConversionRoom x
    given (Ok _) q = tt
    given (Err why) q = absurd q

    after : nodes_of s ≤ 4096 → (x : Conversion) → Converting (nodes_of s) marks x → ConversionRoom x
    after few x =
        by_unless ConversionRoom nowhere
        (λ e y. by_rows ConversionRoom (λ k r l _. record { low = omega (arith, few, e, l); few = omega arith }) given)

-- the sizes of a table made and of texts written are those of a part of what was lent
pub read_low : (lengths weights : List ℕ) (bound : ℕ) (old : List ℕ) (x : ReadAnswer × List ℕ)
    → length old < 9223372036854775808 → ReadOf lengths weights bound old x → ReadRoom x.0
read_low lengths weights bound old x h p =
    by_reading (λ o. ReadRoom o.0) old told (λ t room. omega (arith, room, h)) p

pub write_low : (s lengths weights : List ℕ) (x : Wrote) → length lengths < 9223372036854775808
    → length weights < 9223372036854775808 → WriteOf s lengths weights x → WriteRoom x.0
write_low s lengths weights x h g p =
    by_writing (λ o. WriteRoom o.0) lengths weights told
    (λ l w long heavy. (omega (arith, long, h), omega (arith, heavy, g))) p

-- a row that is not written is no row of a table: row 0 is named
pub row_low : (a b wire kind count : ℕ) (before : List ℕ) (x : RowAnswer × List ℕ)
    → WritesRow a b wire kind count before x → RowRoom x.0
row_low a b wire kind count before =
    let C : RowAnswer × List ℕ → Type 0 = λ o. RowRoom o.0 in
    let zero : 0 < 4096 = omega arith in
    own C zero (own C zero (own C zero (own C zero (own C zero (own C zero (own C zero (λ x e. rw e tt)))))))

-- a mesh's refusal that names no row
anywhere : WideRoom 0 0
anywhere = record { low = omega arith; few = omega arith }

-- a row that is refused is one of the mesh's, each of which has 12 bytes of the table
pub mesh_low : (s : List ℕ) (x : MeshAnswer) → length s < 9223372036854775808 → MeshOf s x → MeshRoom x
mesh_low s x h p =
    own C anywhere
    (own C anywhere (own C anywhere (own C anywhere (own C anywhere
    (own C anywhere (by_row (by_row (after _ _ _ _)))))))) x
    p
  where
    C : MeshAnswer → Type 0
    C = MeshRoom

    by_row : {Number : ℕ → ℕ → Type 0} {rest : MeshAnswer → Type 0} → ((y : MeshAnswer) → rest y → MeshRoom y)
        → (y : MeshAnswer) → FirstBad MeshAnswer mesh_refusal (rows_of s) Number rest y → MeshRoom y
    by_row f y = by_rows MeshRoom (λ k r l _. record { low = omega (arith, h, l); few = omega arith }) f

    given : (u v : ℕ → ℕ) (k n : ℕ) (y : MeshAnswer) → answer.GivesLongest u v k n y → MeshRoom y
    given u v k n (Ok _) q = tt
    given u v k n (Err why) q = absurd q

    after : (u v : ℕ → ℕ) (k n : ℕ) (y : MeshAnswer) → answer.MeshJoined u v k n y → MeshRoom y
    after u v k n = own C anywhere (own C anywhere (given u v k n))
