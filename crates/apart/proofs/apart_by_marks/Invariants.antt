use mathlib.Core.Path.{◌≡◌}
use mathlib.Core.Bool.{true}
use Rattle.apart.specs.Steps.{Surely}
use Rattle.apart.proofs.apart_by_marks.Given as goal

abbrev pub invariant-loop-i : goal.invariant-loop-i
invariant-loop-i l = l.sure ≡ true → Surely l.table l.i l.bytes l.bits
