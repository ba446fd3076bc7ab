use mathlib.Core.Path.{◌≡◌}
use Rattle.heap.specs.Shape.{never_fall}
use Rattle.heap.proofs.order_fits.Given as goal

abbrev pub invariant-loop-i : goal.invariant-loop-i
invariant-loop-i l = l.fits ≡ never_fall l.block l.i
