-- The rows of a climb, and the path between two nodes as the rows of their two climbs up to where they meet: up the
-- one, then down the other, a step away each time.
use mathlib.Core.Path.{◌≡◌, refl, sym, ap, ◌∙◌}
use mathlib.Core.Logic.{◌⊎◌, inl, inr, ◌≢◌, ⊎_elim}
use mathlib.Core.List.{List, [], ◌∷◌, ◌++◌, append_assoc, append-nil}
use Prim.Native.Nat.{ℕ, ◌+◌, ◌≤◌, ◌<◌}
use native.Mathlib.Omega.{arith}
use lib.ListN.{length}
use lib.IntN.{ℤ, ◌+ℤ◌, +ℤ_assoc, +ℤ_comm, +ℤ_idr}
use Rattle.arrays.specs.Members.{In, at, past}
use Rattle.net.specs.Graph.{stop}
use Rattle.net.specs.Path.{Sum, Path}
use Rattle.net.specs.Value.{Total}
use Rattle.net.specs.work.Rooted.{Above, self, up, Rooted}
use Rattle.arrays.proofs.Members.{not_nil, in_one, in_left, in_right, in_either}
use Rattle.net.proofs.Above.{place_rises}
use Rattle.net.proofs.Rooted.{path_up, path_down, sum_snoc}
use Rattle.net.proofs.Values.{total_snoc}
use Rattle.net.proofs.Above.{above_trans}
use Rattle.net.specs.work.Rise as work
use Rattle.net.specs.work.Rise.{Rise}

module _ {par row : ℕ → ℕ} {t : ℕ} where
  pub rise_above : {x : ℕ} {rs : List ℕ} → Rise par row t x rs → Above par t x
  rise_above work.here = self
  rise_above (work.up z e h) = up z e (rise_above h)

  pub above_rise : {x : ℕ} → Above par t x → (rs : List ℕ) × Rise par row t x rs
  above_rise self = ([], work.here)
  above_rise (up {x} z e h) = let q = above_rise h in (row x ∷ q.0, work.up z e q.1)

  -- a climb that is not at its end goes on by the row of its node
  pub rise_next : {x : ℕ} {rs : List ℕ} → x ≢ t → Rise par row t x rs
      → (x ≢ 0) × (rest : List ℕ) × (rs ≡ row x ∷ rest) × Rise par row t (par x) rest
  rise_next n work.here = absurd (n refl)
  rise_next n (work.up {rs = rest} z e h) = (z, rest, refl, rw e h)

module _ {u v : ℕ → ℕ} {k n : ℕ} {par row place : ℕ → ℕ} (R : Rooted u v k n par row place) where
  -- a climb has no more rows than there are places from its end to its node
  pub rise_short : {t x : ℕ} {rs : List ℕ} → x < n → Rise par row t x rs → length rs + place t ≤ place x
  rise_short b work.here = omega arith
  rise_short {x = x} b (work.up z e h) =
      omega (arith, rw e at (R.earlier x b z), rise_short (rw e at (R.par_fits x b z)) h)

  -- at its end no row is left
  pub rise_end : {t : ℕ} {rs : List ℕ} → t < n → Rise par row t t rs → rs ≡ []
  rise_end {t} {rs} b h = none rs (omega (arith, rise_short b h))
    where
      none : (rs : List ℕ) → length rs ≤ 0 → rs ≡ []
      none [] l = refl
      none (r ∷ rs) l = absurd (omega arith)

  climb_on : {t x w : ℕ} {done rest : List ℕ} → w < n → Above par w x → Path u v k x done w → Rise par row t w rest
      → Path u v k x (done ++ rest) t
  climb_on {done = done} b a p work.here = rw (append-nil done) p
  climb_on {t} {x} {w} {done} b a p (work.up {rs = rest} z e h) =
      rw append_assoc
      at (climb_on (rw e at (R.par_fits w b z)) (rw e at (above_trans (up z refl self) a))
      (rw e at (path_up u v R w b z a p)) h)

  pub rise_path : {t x : ℕ} {rs : List ℕ} → x < n → Rise par row t x rs → Path u v k x rs t
  rise_path {x = x} b h = climb_on {done = []} b self ([], stop, (not_nil, tt)) h

  -- a path whose rows are those of two climbs
  pub record TwoRises (x y : ℕ) (ups downs : List ℕ) : Type 0 where
    pub rows : List ℕ
    pub path : Path u v k x rows y
    pub only : (r : ℕ) → In r rows → In r ups ⊎ In r downs
    pub all : (r : ℕ) → In r ups ⊎ In r downs → In r rows
    pub sum : (f : ℕ → ℕ) → Sum f rows ≡ Sum f ups + Sum f downs
    pub total : (g : ℕ → ℤ) → Total g rows ≡ Total g ups +ℤ Total g downs

  pub two_rises : {t x y : ℕ} {ups downs : List ℕ} → x < n → y < n → Rise par row t x ups → Rise par row t y downs
      → ((z : ℕ) → Above par t z → Above par z y → z ≢ t → ¬ Above par z x) → TwoRises x y ups downs
  unfolding Total
  two_rises {ups = ups} bx by h work.here n =
      record {
        rows = ups;
        path = rise_path bx h;
        only = λ r i. inl i;
        all = λ r i. ⊎_elim (λ j. j) (λ j. absurd (not_nil j)) i;
        sum = λ f. omega arith;
        total = λ g. sym (+ℤ_idr (Total g ups));
      }
  two_rises {t} {x} {y} {ups} bx by h (work.up {y = p} {rs = downs} z e j) n =
      down (two_rises bx (rw e at (R.par_fits y by z)) h j (λ w a b m. n w a (up z e b) m))
    where
      below : y ≢ t
      below q =
          omega (
            arith,
            place_rises R.par_fits R.earlier (rw e at (R.par_fits y by z)) (rise_above j),
            rw e at (R.earlier y by z),
            ap place q,
          )

      out : ¬ Above par y x
      out = n y (up z e (rise_above j)) self below

      put : {rs : List ℕ} → Path u v k x rs p → Path u v k x rs (par y)
      put w = rw e w

      down : TwoRises x p ups downs → TwoRises x y ups (row y ∷ downs)
      down w = record {
        rows = w.rows ++ (row y ∷ []);
        path = path_down u v R y by z out (put w.path);
        only = λ r i. ⊎_elim (λ a. ⊎_elim inl (λ d. inr (past d)) (w.only r a)) (λ a. inr (at (in_one a)))
            (in_either w.rows i);
        all = λ r i. ⊎_elim (λ a. in_left (row y ∷ []) (w.all r (inl a))) (λ a. first r a) i;
        sum = λ f. sum_snoc f w.rows (row y) ∙ omega (arith, w.sum f);
        total = λ g. total_snoc g w.rows (row y) ∙ ap (λ z. z +ℤ g (row y)) (w.total g)
            ∙ +ℤ_assoc (Total g ups) (Total g downs) (g (row y))
            ∙ ap (λ z. Total g ups +ℤ z) (+ℤ_comm (Total g downs) (g (row y)));
      }
        where
          first : (r : ℕ) → In r (row y ∷ downs) → In r (w.rows ++ (row y ∷ []))
          first r (at q) = in_right w.rows (at q)
          first r (past i) = in_left (row y ∷ []) (w.all r (inr i))

  -- a climb has one list of rows
  pub rise_only : {t x : ℕ} {rs qs : List ℕ} → x < n → Rise par row t x rs → Rise par row t x qs → rs ≡ qs
  rise_only b work.here k = sym (rise_end b k)
  rise_only b (work.up z e h) work.here = rise_end b (work.up z e h)
  rise_only {x = x} b (work.up {rs = rs} z e h) (work.up {rs = qs} y f k) =
      ap (λ (l : List ℕ). row x ∷ l) (rise_only (rw e at (R.par_fits x b z)) h (rw (sym f ∙ e) at k))
