-- The numbering of spots by local facts on three arrays, and that by them the whole is one part.
use Prim.Native.Nat.{ℕ, zero, suc, ◌+◌, ◌≤◌, ◌<◌}
use mathlib.Core.Path.{◌≡◌, refl, ap, ◌∙◌}
use mathlib.Core.List.{List}
use native.Mathlib.Omega.{arith}
use native.Mathlib.Decide.{dec_lt}
use Rattle.arrays.specs.At.{at}
use Rattle.parts.specs.work.Parts.{Part, none, node, hung}

-- stop q: where the subtree of spot q ends. A node, then its hanging trees one after the other, then the rest of its
-- spine
pub record Numbered (stop head parent : List ℕ) (n : ℕ) : Type 0 where
  pub within : n ≤ 4096
  pub all : at stop 0 ≡ n
  pub top : at head 0 ≡ 0
  pub grows : (p : ℕ) → p < n → p < at stop p
  pub ends : (p : ℕ) → p < n → at stop p ≤ n
  pub heads : (p : ℕ) → p < n → at head p ≤ p
  pub first : (p : ℕ) → p < n → p + 1 < at stop p → at parent (p + 1) ≡ p
  pub inside : (q : ℕ) → 0 < q → q < n → at stop q ≤ at stop (at parent q)
  pub last : (q : ℕ) → 0 < q → q < n → at stop q ≡ at stop (at parent q) → at head q ≡ at head (at parent q)
  pub own : (q : ℕ) → 0 < q → q < n → at stop q < at stop (at parent q) → at head q ≡ q
  pub next : (q : ℕ) → 0 < q → q < n → at stop q < at stop (at parent q) → at parent (at stop q) ≡ at parent q

module _ (stop head parent : List ℕ) (n : ℕ) (z : Numbered stop head parent n) where
  abbrev IH : ℕ → Type 0
  IH k =
      (p q : ℕ) → p < n → q < at stop p → at stop p ≤ q + k → at parent q ≡ p → p < q
      → Part stop head parent (at head p) q (at stop p)

  after : (k q : ℕ) → IH k → q < n → at stop q ≤ q + 1 + k → Part stop head parent (at head q) (q + 1) (at stop q)
  after k q ih b o = pick (dec_lt (q + 1) (at stop q))
    where
      pick : Dec (q + 1 < at stop q) → Part stop head parent (at head q) (q + 1) (at stop q)
      pick (yes u) = ih q (q + 1) b u o (z.first q b u) (omega arith)
      pick (no u) = let v : at stop q ≡ q + 1 = omega (arith, z.grows q b) in rw v none

  rest : (k : ℕ) → IH k
  rest zero p q a b c d e = absurd (omega arith)
  rest (suc k) p q a b c d e = pick (dec_lt (at stop q) (at stop p)) (rest k)
    where
      q_in : q < n
      q_in = omega (arith, z.ends p a)

      stops : at stop (at parent q) ≡ at stop p
      stops = ap (λ x. at stop x) d

      q_end : at stop q ≤ at stop p
      q_end = omega (arith, z.inside q (omega arith) q_in, stops)

      pick : Dec (at stop q < at stop p) → IH k → Part stop head parent (at head p) q (at stop p)
      pick (yes u) ih =
          let v : at stop q < at stop (at parent q) = omega (arith, stops) in
          let o : at head q ≡ q = z.own q (omega arith) q_in v in
          let w : Part stop head parent (at head q) (q + 1) (at stop q) = after k q ih q_in (omega (arith, q_end)) in
          let m : at head q ≡ at head p → ⊥ = λ f. omega (arith, f, o, z.heads p a) in
          hung {h = at head p} {s = q} {t = at stop q} m refl o (omega (arith, d)) (ap (λ x. at head x) d)
          (z.grows q q_in) (node o (rw o at w))
          (ih p (at stop q) a u (omega (arith, z.grows q q_in)) (z.next q (omega arith) q_in v ∙ d)
          (omega (arith, z.grows q q_in)))
      pick (no u) ih =
          let v : at stop q ≡ at stop (at parent q) = omega (arith, stops, q_end) in
          let o : at head q ≡ at head p = z.last q (omega arith) q_in v ∙ ap (λ x. at head x) d in
          let w : Part stop head parent (at head q) (q + 1) (at stop q) = after k q ih q_in (omega (arith, q_end)) in
          node o (rw (o, v ∙ stops) at w)

  pub numbered_part : 0 < n → Part stop head parent 0 0 n
  numbered_part b =
      let w : Part stop head parent (at head 0) 1 (at stop 0) = after n 0 (rest n) b (omega (arith, z.all)) in
      node z.top (rw (z.top, z.all) at w)
