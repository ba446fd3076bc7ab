use Rattle.tree.specs.Ways.{start_fits, FromRoot}
use Prim.Native.Nat.{◌*◌, ◌≤◌}
use mathlib.Core.Path.{◌≡◌}
use Rattle.node.specs.Content.{numbers_from, kids_of}
use Rattle.node.specs.Steps.{measured_in}
use Rattle.node.proofs.Numbers.{rest}
use Rattle.node.proofs.Kids.{add_to}
use Rattle.node.proofs.measure.Given as goal

abbrev pub invariant-loop-i : goal.invariant-loop-i
invariant-loop-i l =
    (l.i ≤ l.count) × (l.sum ≤ 65535 * l.i) × (measured_in (kids_of l.e l.image (numbers_from l.e.tree l.root 0 l.count)) ≡ add_to l.sum (measured_in (kids_of l.e l.image (rest l.e.tree l.root l.count l.i))))
    × (l.start ≡ start_fits l.e.blocks l.image) × FromRoot l.e.blocks l.image l.way
