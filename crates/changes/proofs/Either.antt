-- A path taken the other way round has the same rows: so what a claim asks of two nodes, and what it takes, is the same
-- in either order.
use mathlib.Core.Path.{◌≡◌}
use mathlib.Core.List.{List, [], ◌∷◌}
use Prim.Native.Nat.{ℕ, ◌+◌, ◌-◌, ◌<◌}
use native.Mathlib.Decide.{ℕ_discrete}
use native.Mathlib.Omega.{arith}
use Rattle.table.proofs.Refusals.{unless_alike}
use Rattle.arrays.specs.Members.{In, at, past}
use Rattle.net.specs.Path.{Sum}
use Rattle.net.specs.Net.{first_end, second_end, length_of}
use Rattle.net.proofs.Flip.{flip}
use Rattle.net.proofs.Counts.{count_same}
use Rattle.changes.specs.Change.{Change, Done}
use Rattle.std.specs.Prelude.{Ok, Err}
use Rattle.changes.specs.Claim.{PathBetween, InReach, Taken, Ended}

-- 1 at r, and 0 elsewhere: a list's sum of it tells whether r is in it
abbrev one_at : ℕ → ℕ → ℕ
one_at r q = 1 - ((q - r) + (r - q))

in_sum : {r : ℕ} {rs : List ℕ} → In r rs → 0 < Sum (one_at r) rs
in_sum (at e) = omega (arith, e)
in_sum (past i) = omega (arith, in_sum i)

sum_in : (r : ℕ) (rs : List ℕ) → 0 < Sum (one_at r) rs → In r rs
sum_in r [] l = absurd (omega arith)
sum_in r (q ∷ rs) l = pick (ℕ_discrete r q) (sum_in r rs)
  where
    pick : Dec (r ≡ q) → (0 < Sum (one_at r) rs → In r rs) → In r (q ∷ rs)
    pick (yes e) ih = at e
    pick (no n) ih = past (ih (omega (arith, n, l)))

-- the path from b to a, of the one from a to b
back : (s : List ℕ) (n : ℕ) {a b : ℕ} {rs : List ℕ} → PathBetween s n a rs b
    → (qs : List ℕ) × PathBetween s n b qs a × ((f : ℕ → ℕ) → Sum f qs ≡ Sum f rs)
back s n p = let f = flip (first_end s) (second_end s) p.1 in (f.rows, (f.nodes, f.walk, f.once p.2), f.sum)

module _ {s : List ℕ} {n a b : ℕ} where
  reach_flip : {bound : ℕ} → InReach s n bound a b → InReach s n bound b a
  reach_flip i =
      let q = back s n i.path in
      record { rows = q.0; path = q.1; short = omega (arith, q.2 (length_of s), i.short) }

  taken_flip : {before : List ℕ} (r : ℕ) → Taken s before n a b r → Taken s before n b a r
  taken_flip r t =
      let q = back s n t.path in
      record {
        rows = q.0;
        path = q.1;
        on = sum_in r q.0 (omega (arith, q.2 (one_at r), in_sum t.on));
        free = t.free;
      }

  some_flip : {before : List ℕ} → (r : ℕ) × Taken s before n a b r → (r : ℕ) × Taken s before n b a r
  some_flip h = (h.0, taken_flip h.0 h.1)

done_alike : {P Q : ℕ → Type 0} (m : ℕ) (before : List ℕ) → ((r : ℕ) → P r → Q r) → ((r : ℕ) → Q r → P r)
    → (o : Change × List ℕ) → Done P m before o → Done Q m before o
done_alike m before to fro (Ok k, after) d = record {
  same_many = d.same_many;
  becomes = λ r q. d.becomes r (fro r q);
  stays = λ r q. d.stays r (λ p. q (to r p));
  count = count_same to fro d.count;
}
done_alike m before to fro (Err w, after) d = d

pub ended_flip : {s before : List ℕ} {n bound run a b : ℕ} {o : Change × List ℕ} → Ended s n bound before run a b o
    → Ended s n bound before run b a o
ended_flip {s} {before} {n} {run = run} {a = a} {b = b} {o = o} =
    unless_alike reach_flip reach_flip
    (unless_alike some_flip some_flip
    (done_alike {P = Taken s before n a b} {Q = Taken s before n b a} run before taken_flip taken_flip o))
