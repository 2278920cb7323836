-- From what `changed_table` gave to the operation's own outcome: a refusal is handed on, and the changed table goes on
-- to the operation's promise.
use Prim.Native.Nat.{ℕ}
use mathlib.Core.Path.{◌≡◌, refl}
use mathlib.Core.List.{List}
use native.Mathlib.Omega.{arith}
use lib.ListN.{length, take}
use Rattle.std.specs.Prelude.{Ok, Err}
use Rattle.table.specs.declared.Refusal as table
use Rattle.table.proofs.Refusals.{unless_map}
use Rattle.table.proofs.Accepted.{header_map}
use Rattle.tree.specs.declared.Refusal.{Refusal}
use Rattle.changeset.specs.With.{With}
use Rattle.changeset.specs.work.Buffer.{WritesIn}
use Rattle.changeset.proofs.Withs.{with_past, with_there, refused_with, passed_with}
use Rattle.frozen.specs.work.Changed.{Changed, changed_refusal, Makes}

module _ (s c : List ℕ) where
  -- what `write_in` gave
  pub made_none : (w : table.Refusal) {out : List ℕ} → WritesIn s c out (Err w)
      → Makes s c (changed_refusal w.number w.row 0)
  made_none w {out = out} p = refused_with s c out changed_refusal w p

  pub made : {out : List ℕ} → WritesIn s c out (Ok tt) → Makes s c (Ok (take (length s) out))
  made {out = out} p = passed_with s c out changed_refusal p refl

  module _ {A : Type 0} (refuse : ℕ → ℕ → ℕ → A) {Promise : List ℕ → A → Type 0} where
    pub handed_on : (w : Refusal) → Makes s c (Err w) → With A refuse s c Promise (refuse w.number w.row w.ring)
    handed_on w p =
        header_map handed (λ k r. changed_refusal k r 0) s
        (λ h. unless_map handed
        (λ f. unless_map handed (λ g o. absurd (grind (arith, o.promise)))))
        p
      where
        handed : Changed → A
        handed (Ok t) = refuse 0 0 0
        handed (Err v) = refuse v.number v.row v.ring

    pub asked_of : {t : List ℕ} {x : A} → Makes s c (Ok t) → Promise t x → With A refuse s c Promise x
    asked_of {t} p q =
        let made = with_past changed_refusal s c (λ k r g n e. grind (arith, e)) p in
        let o = made.3 in
        let e : t ≡ o.table = grind (arith, o.promise) in
        with_there refuse s c made.0 made.1 made.2 o.table o.changed (rw e at q)
