-- `window::scan::rows_of` does nothing for a first node that is not hit; else it sweeps counts and lengths and gives
-- the rows.
use native.Mathlib.Omega.{arith}
use mathlib.Core.Path.{refl}
use Rattle.window.proofs.scan.rows_of.Goals as goal

pub returns-then-hit-ne1 : goal.returns-then-hit-ne1
returns-then-hit-ne1 c = (
  record { none = λ h. (refl, refl, refl); some = λ h. absurd (c.if-hit-ne1.true (omega (arith, h))) },
  c.requires.1,
)

pub paths_from-requires : goal.paths_from-requires
paths_from-requires c =
    let pre = c.requires in
    (record { ground = pre.0.keys; node = pre.2.node }, pre.1.keys)

pub paths_from-requires-2 : goal.paths_from-requires-2
paths_from-requires-2 c =
    let pre = c.requires in
    let swept = c.paths_from.ensures.1 in (
      record { ground = pre.0.lengths; node = pre.2.node },
      record { flags = swept.flags; lengths = pre.1.lengths.lengths; weights = swept.weights },
    )

pub seconds-requires : goal.seconds-requires
seconds-requires c =
    let first-second-ensures = c.first_second-from.ensures in
    let paths-from2-ensures = c.paths_from-2.ensures in
    let pre = c.requires in
    record {
      low = pre.2.low;
      high = pre.2.high;
      nodes = pre.0.keys.grown.some.1;
      within = first-second-ensures.within;
      light = (paths-from2-ensures.0 pre.0.lengths).small;
      few = pre.2.few;
      node = omega (arith, pre.2.node, pre.0.keys.grown.some.1);
    }

pub returns : goal.returns
returns c =
    let first-second-ensures = c.first_second-from.ensures in
    let paths-from2-ensures = c.paths_from-2.ensures in
    let paths-from-ensures = c.paths_from.ensures in
    let if1-left = c.if-hit-ne1.false in (
      record {
        none = λ h. absurd (h (omega (arith, if1-left)));
        some =
            λ h. record {
              key = _;
              kt = _;
              len = _;
              wt = _;
              from = _;
              keys = paths-from-ensures.0;
              lengths = paths-from2-ensures.0;
              starts = first-second-ensures;
              seconds = c.seconds.ensures;
            };
      },
      record {
        keys = record {
          flags = paths-from2-ensures.1.flags;
          lengths = paths-from-ensures.1.lengths;
          weights = paths-from2-ensures.1.weights;
        };
        lengths = paths-from2-ensures.1;
      },
    )
