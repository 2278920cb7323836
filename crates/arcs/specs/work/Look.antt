-- One look through the arcs of B for the opposites of the arcs of A, chunk by chunk; numbers count where it is strict.
use Rattle.std.specs.Prelude.{ℕ, ◌+◌, ◌<◌, ◌≡◌, Bool, true, false, ◌≢◌, List, length, Result, Ok, Err}
use Rattle.arrays.specs.At.{at}
use Rattle.table.specs.Refuse.{Unless}
use Rattle.arcs.specs.Arcs.{Arcs, Paired, SameBranches}
use Rattle.arcs.specs.work.Chunk.{arc_key, back_key, key_at, number_at, LastAt, ChunkOf}

-- what it asks
pub record Matches (strict : Bool) (A B : Arcs) : Type 0 where
  pub once : (i j : ℕ) → i < A.count → j < A.count → arc_key A i ≡ arc_key A j → i ≡ j
  pub apart : (j : ℕ) → j < B.count → arc_key B j ≢ back_key B j
  pub each : (i : ℕ) → i < A.count → (j : ℕ) × (j < B.count) × (back_key B j ≡ arc_key A i)
  pub lone : (i g h : ℕ) → i < A.count → g < B.count → h < B.count → back_key B g ≡ arc_key A i
      → back_key B h ≡ arc_key A i → g ≡ h
  pub numbers : strict ≡ true → (i j : ℕ) → i < A.count → j < B.count → back_key B j ≡ arc_key A i
      → B.number j ≡ A.number i

-- what it has shown of the arcs of A below e
pub record MatchedBelow (strict : Bool) (A B : Arcs) (e : ℕ) : Type 0 where
  pub apart : 0 < e → (j : ℕ) → j < B.count → arc_key B j ≢ back_key B j
  pub each : (i : ℕ) → i < e → (j : ℕ) × (j < B.count) × (back_key B j ≡ arc_key A i)
  pub lone : (i g h : ℕ) → i < e → g < B.count → h < B.count → back_key B g ≡ arc_key A i → back_key B h ≡ arc_key A i
      → g ≡ h
  pub numbers : strict ≡ true → (i j : ℕ) → i < e → j < B.count → back_key B j ≡ arc_key A i → B.number j ≡ A.number i

-- the arcs of B below j have been looked up in a chunk: a place is marked where one of them found it
pub record LookedUp (strict : Bool) (B : Arcs) (k : ℕ) (chunk : List ℕ) (j : ℕ) (seen : List ℕ) : Type 0 where
  pub long : length seen ≡ 8192
  pub apart : (h : ℕ) → h < j → arc_key B h ≢ back_key B h
  pub marked : (i : ℕ) → i < k → at seen i ≢ 0 → (h : ℕ) × (h < j) × LastAt (key_at chunk) (back_key B h) k (i + 1)
  pub every : (h i : ℕ) → h < j → i < k → LastAt (key_at chunk) (back_key B h) k (i + 1) → at seen i ≢ 0
  pub lone : (i g h : ℕ) → i < k → g < j → h < j → back_key B g ≡ key_at chunk i → back_key B h ≡ key_at chunk i → g ≡ h
  pub numbers : strict ≡ true → (h i : ℕ) → h < j → i < k → LastAt (key_at chunk) (back_key B h) k (i + 1)
      → B.number h ≡ number_at chunk i

-- many arcs of one chunk have been looked up in another: all went well, or no text that has the other matches
pub record ChunkIn (strict : Bool) (many : ℕ) (others : List ℕ) (k : ℕ) (chunk old seen : List ℕ) (r : Bool)
    : Type 0 where
  pub there : r ≡ true → (B : Arcs) (start : ℕ) → ChunkOf B start many others
      → LookedUp strict B k chunk start old → LookedUp strict B k chunk (start + many) seen
  pub fault : r ≡ false → (B : Arcs) (start : ℕ) → ChunkOf B start many others
      → LookedUp strict B k chunk start old → (A : Arcs) (from : ℕ) → ChunkOf A from k chunk
      → ¬ Matches strict A B

-- all arcs of B have been looked up in a chunk
pub record ArcsIn (strict : Bool) (B : Arcs) (k : ℕ) (chunk : List ℕ) (r : Bool) : Type 0 where
  pub there : r ≡ true → (A : Arcs) (start : ℕ) → ChunkOf A start k chunk → MatchedBelow strict A B start
      → MatchedBelow strict A B (start + k)
  pub fault : r ≡ false → (A : Arcs) (start : ℕ) → ChunkOf A start k chunk → ¬ Matches strict A B

-- what is refused, or nothing
abbrev pub Verdict : Type 0
Verdict = Result Unit ℕ

-- the whole look
pub record Looked (strict : Bool) (A B : Arcs) (r : Bool) : Type 0 where
  pub there : r ≡ true → MatchedBelow strict A B A.count
  pub fault : r ≡ false → ¬ Matches strict A B

-- 27 over both, 28, or neither
abbrev pub Decided : Arcs → Arcs → Verdict → Type 0
Decided L M =
    Unless Verdict (Err 27) (Paired L × Paired M) (Unless Verdict (Err 28) (SameBranches L M) (λ r. r ≡ Ok tt))
