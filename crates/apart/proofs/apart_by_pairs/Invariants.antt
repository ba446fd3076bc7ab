use mathlib.Core.Path.{◌≡◌}
use Rattle.columns.specs.Columns.{all_apart}
use Rattle.apart.proofs.apart_by_pairs.Given as goal

abbrev pub invariant-loop-i : goal.invariant-loop-i
invariant-loop-i l = l.fits ≡ all_apart l.table l.i
