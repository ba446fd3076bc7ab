use mathlib.Core.Path.{◌≡◌}
use mathlib.Core.Bool.{true}
use Rattle.apart.specs.Steps.{New}
use Rattle.apart.proofs.is_new.Given as goal

abbrev pub invariant-loop-other : goal.invariant-loop-other
invariant-loop-other l = l.new ≡ true → New l.tags l.other-index l.tag
