use Rattle.std.proofs.Common.{rules}
use Rattle.columns.specs.Columns.{all_apart}
use Rattle.columns.proofs.ColumnLaws.{all_on}
use Rattle.apart.proofs.apart_by_pairs.Goals as goal

pub loop-i-init : goal.loop-i-init
unfolding all_apart
loop-i-init c = search rules

pub loop-i-preserved : goal.loop-i-preserved
loop-i-preserved c = rw (all_on c.args.table.now c.loop-i.i) cc
