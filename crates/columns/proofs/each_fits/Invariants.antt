use mathlib.Core.Path.{◌≡◌}
use Rattle.columns.specs.Columns.{each_fits}
use Rattle.columns.proofs.each_fits.Given as goal

abbrev pub invariant-loop-i : goal.invariant-loop-i
invariant-loop-i l = l.fits ≡ each_fits l.table l.i
