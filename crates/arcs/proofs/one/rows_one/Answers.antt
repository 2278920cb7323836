-- `rows_one`: two chunks, what is decided of them, and the rows.
use mathlib.Core.Path.{sym, ◌∙◌, refl}
use native.Mathlib.Omega.{arith}
use Rattle.std.proofs.lemmas.Result.{err_from_is_err_and}
use Rattle.arcs.proofs.Making.{lay_ready, made_refused, made_laid}
use Rattle.arcs.proofs.Streams.{loaded_whole, more_arcs}
use Rattle.arcs.proofs.one.rows_one.Goals as goal

pub returns-in_err-decide_one : goal.returns-in_err-decide_one
returns-in_err-decide_one c =
    let p = c.requires in
    let err = err_from_is_err_and c.from_residual.result c.from_residual.ensures.1 in
    λ x t y u. rw (err.1, err.2)
    (made_refused
    (c.in_err-decide_one.ensures.1 _ _ (loaded_whole p.4 c.load.ensures.1 c.load.ensures.2 t)
    (loaded_whole p.5 c.load-2.ensures.1 c.load-2.ensures.2 u)))

pub lay-requires : goal.lay-requires
lay-requires c =
    let p = c.requires in
    let left = loaded_whole p.4 c.load.ensures.1 c.load.ensures.2 p.2 in
    let right = loaded_whole p.5 c.load-2.ensures.1 c.load-2.ensures.2 p.3 in
    let same = c.load-2.ensures.1 ∙ sym c.load.ensures.1 in (
      _,
      _,
      lay_ready (c.in_ok-decide_one.ensures.1 _ _ left right) left (rw same at right) (omega arith)
          (rw same at (c.in_ok-decide_one.ensures.0 refl)),
      same,
      p.7,
    )

pub returns-then-m-le8190 : goal.returns-then-m-le8190
returns-then-m-le8190 c =
    let p = c.requires in
    let same = c.load-2.ensures.1 ∙ sym c.load.ensures.1 in
    λ x t y u.
    let left = loaded_whole p.4 c.load.ensures.1 c.load.ensures.2 t in
    let right = loaded_whole p.5 c.load-2.ensures.1 c.load-2.ensures.2 u in
    let decided = c.in_ok-decide_one.ensures.1 _ _ left right in
    made_laid decided
    (λ h. c.lay.ensures _ _
    (lay_ready decided left (rw same at right) (omega arith) (rw same at (c.in_ok-decide_one.ensures.0 refl))))

pub returns-else-m-le8190 : goal.returns-else-m-le8190
returns-else-m-le8190 c =
    let p = c.requires in
    λ x t y u. made_laid
    (c.in_ok-decide_one.ensures.1 _ _ (loaded_whole p.4 c.load.ensures.1 c.load.ensures.2 t)
    (loaded_whole p.5 c.load-2.ensures.1 c.load-2.ensures.2 u))
    (λ h. absurd (more_arcs t (omega arith) h))
