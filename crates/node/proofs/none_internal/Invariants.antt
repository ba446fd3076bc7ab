use Prim.Native.Nat.{◌≤◌}
use mathlib.Core.Path.{◌≡◌}
use Rattle.node.specs.Content.{numbers_from, none_internal}
use Rattle.node.proofs.Numbers.{rest}
use Rattle.node.proofs.none_internal.Given as goal

abbrev pub invariant-loop-i : goal.invariant-loop-i
invariant-loop-i l = (l.i ≤ l.count) × (none_internal (numbers_from l.d l.root 0 l.count) ≡ none_internal (rest l.d l.root l.count l.i))
