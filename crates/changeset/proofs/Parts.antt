-- Parts of 12 bytes, byte by byte: two are equal where their bytes are.
use Prim.Native.Nat.{ℕ, ◌+◌, ◌≤◌, ◌<◌}
use mathlib.Core.Path.{◌≡◌, sym, ap, ◌∙◌}
use mathlib.Core.List.{List}
use native.Mathlib.Omega.{arith}
use lib.ListN.{length, get_or, take, drop, length-take, length-drop}
use lib.Seq.{get_or-take, get_or-drop, ext_get_or}
use Rattle.text.specs.work.Put.{Put}
use Rattle.text.proofs.Puts.{put_front}

part_length : (a : ℕ) (l : List ℕ) → a + 12 ≤ length l → length (take 12 (drop a l)) ≡ 12
part_length a l h = simp (length-take, length-drop) (omega arith)

pub part_at : (a : ℕ) (l : List ℕ) (j : ℕ) → j < 12 → get_or (take 12 (drop a l)) j 0 ≡ get_or l (a + j) 0
part_at a l j h = get_or-take 12 (drop a l) j 0 h ∙ get_or-drop a l j 0

pub parts_same : (a : ℕ) (l : List ℕ) (b : ℕ) (m : List ℕ) → a + 12 ≤ length l → b + 12 ≤ length m
    → ((j : ℕ) → j < 12 → get_or l (a + j) 0 ≡ get_or m (b + j) 0) → take 12 (drop a l) ≡ take 12 (drop b m)
parts_same a l b m h k f =
    ext_get_or 0 (take 12 (drop a l)) (take 12 (drop b m)) (part_length a l h ∙ sym (part_length b m k))
    (λ j z. let n : j < 12 = omega (arith, part_length a l h) in part_at a l j n ∙ f j n ∙ sym (part_at b m j n))

-- bytes at the front of a buffer, byte by byte
pub front_at : {old s out : List ℕ} {next : ℕ} → Put old 0 s out next → (i : ℕ) → i < length s
    → get_or out i 0 ≡ get_or s i 0
front_at {old} {s} {out} {next} p i l =
    sym (get_or-take next out i 0 (omega (arith, p.after))) ∙ ap (λ (t : List ℕ). get_or t i 0) (put_front p)
