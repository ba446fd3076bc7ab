use Rattle.std.proofs.Common.{rules}
use Rattle.columns.proofs.ColumnLaws.{each_on}
use Rattle.columns.specs.Columns.{each_fits}
use Rattle.columns.proofs.each_fits.Goals as goal

pub loop-i-init : goal.loop-i-init
unfolding each_fits
loop-i-init c = search rules

pub loop-i-preserved : goal.loop-i-preserved
loop-i-preserved c = rw (each_on c.args.table.now c.loop-i.i) cc
