use Prim.Native.Nat.{◌+◌, ◌*◌}
use mathlib.Core.Path.{◌≡◌}
use Rattle.search.specs.SearchTree.{each}
use Rattle.tree.specs.Tree.{page_tree}
use Rattle.tree.specs.Answers.{kids_from}
use Rattle.tree.proofs.+check_children_check_under.Given as goal

abbrev pub decreases-check_children : goal.decreases-check_children
decreases-check_children l = 2 * l.level + 1

abbrev pub invariant-check_children-loop-i : goal.invariant-check_children-loop-i
invariant-check_children-loop-i l =
    each (page_tree l.l l.image) l.level (kids_from l.l l.image l.level l.p l.i) ≡ each (page_tree l.l l.image) l.level (kids_from l.l l.image l.level l.p 0)

abbrev pub decreases-check_under : goal.decreases-check_under
decreases-check_under l = 2 * l.level
