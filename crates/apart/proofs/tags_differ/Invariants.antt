use mathlib.Core.Path.{◌≡◌}
use mathlib.Core.Bool.{true}
use lib.ListN.{length}
use Rattle.apart.specs.Steps.{Kept, Differ}
use Rattle.apart.proofs.tags_differ.Given as goal

abbrev pub invariant-loop-i : goal.invariant-loop-i
invariant-loop-i l = (length l.tags ≡ 256) × Kept l.table l.tags l.i × (l.differ ≡ true → Differ l.table l.i)
