use Rattle.std.proofs.Common.{◌<◌}
use Rattle.asked.proofs.heaps.property_lines.Given as goal

abbrev pub invariant-loop-id : goal.invariant-loop-id
invariant-loop-id g l = l.shown < 16
