use mathlib.Core.Path.{◌≡◌}
use lib.ListN.{take}
use Rattle.laws.specs.Front.{fronted}
use Rattle.tree.specs.Ways.{FromRoot}
use Rattle.nodelist.specs.Places.{places_of}
use Rattle.nodelist.proofs.fill.Given as goal

abbrev pub invariant-loop-i : goal.invariant-loop-i
invariant-loop-i l = FromRoot l.l l.image l.way × (l.places ≡ fronted (places_of l.l l.image (take l.i l.nodes)) l.initial.places)
