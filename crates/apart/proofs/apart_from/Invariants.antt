use mathlib.Core.Path.{◌≡◌}
use Rattle.columns.specs.Columns.{apart_from}
use Rattle.apart.proofs.apart_from.Given as goal

abbrev pub invariant-loop-i : goal.invariant-loop-i
invariant-loop-i l = l.fits ≡ apart_from l.table l.column l.i
