-- Of more numbers than there are places two go to the same place: so of 65,537 rows of at most 256 nodes two join the
-- same nodes, and the search for a pair that comes again needs to look no further.
use Prim.Native.Nat.{ℕ, ◌+◌, ◌*◌, ◌≤◌, ◌<◌}
use mathlib.Core.Path.{◌≡◌, sym}
use mathlib.Core.Logic.{inl}
use native.Mathlib.Omega.{arith}
use native.Mathlib.Decide.{dec_le}
use Rattle.net.proofs.Counts.{upto, upto_length, upto_in, distinct_le, count_all}
use Rattle.mesh.specs.Mesh.{RepeatsPair}
use Rattle.mesh.specs.work.Rows.{EndsApart}
use Rattle.mesh.proofs.Parts.{each, each_length, each_in, each_once}

-- m numbers that go to different numbers below n are no more than n
pub pigeon : (f : ℕ → ℕ) (m n : ℕ) → ((x : ℕ) → x < m → f x < n) → ((x y : ℕ) → x < m → y < m → f x ≡ f y → x ≡ y)
    → m ≤ n
pigeon f m n into inj =
    let c = count_all m in
    omega (
      arith,
      distinct_le (each f c.list) (upto n)
          (each_once f c.list (λ x y i j e. inj x y (c.only x i) (c.only y j) e) c.once)
          (λ r i. let t = each_in f c.list i in upto_in n r (rw t.2 at (into t.0 (c.only t.0 t.1)))),
      each_length f c.list,
      c.long,
      upto_length n,
    )

-- a row of at most 256 nodes as one number below 65,536: its two ends
pub crowded : {u v : ℕ → ℕ} {k : ℕ} → EndsApart u v k 256 → ((i : ℕ) → i < 65537 → ¬ RepeatsPair u v i) → 65537 ≤ k → ⊥
crowded {u} {v} {k} R f l = omega (arith, pigeon code 65537 65536 into inj)
  where
    code : ℕ → ℕ
    code i = u i * 256 + v i

    into : (i : ℕ) → i < 65537 → u i * 256 + v i < 65536
    into i h = omega (arith, R.first i (omega arith), R.second i (omega arith))

    inj : (i j : ℕ) → i < 65537 → j < 65537 → u i * 256 + v i ≡ u j * 256 + v j → i ≡ j
    inj i j hi hj e =
        let a : u i ≡ u j = omega (arith, R.second i (omega arith), R.second j (omega arith)) in
        let b : v i ≡ v j = omega arith in
        pick a b (dec_le i j) (dec_le j i)
      where
        pick : u i ≡ u j → v i ≡ v j → Dec (i ≤ j) → Dec (j ≤ i) → i ≡ j
        pick a b (yes p) (yes q) = omega arith
        pick a b (yes p) (no q) = absurd (f j hj (i, omega arith, inl (a, b)))
        pick a b (no p) q = absurd (f i hi (j, omega arith, inl (sym a, sym b)))
