use mathlib.Core.Path.{◌≡◌}
use mathlib.Core.Bool.{true}
use Rattle.apart.specs.Steps.{marked, Free}
use Rattle.apart.proofs.claim.Given as goal

abbrev pub invariant-loop-i : goal.invariant-loop-i
invariant-loop-i l = (l.marks ≡ marked l.initial.marks l.from l.i) × (l.free ≡ true → Free l.initial.marks l.from l.i)
