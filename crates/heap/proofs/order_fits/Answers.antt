use Rattle.std.proofs.Common.{rules}
use Rattle.heap.specs.Shape.{never_fall}
use Rattle.heap.proofs.ShapeLaws.{one_on}
use Rattle.heap.proofs.order_fits.Goals as goal

pub loop-i-init : goal.loop-i-init
unfolding never_fall
loop-i-init c = search rules

pub loop-i-preserved : goal.loop-i-preserved
loop-i-preserved c = rw (one_on c.args.block.now c.loop-i.i) cc
