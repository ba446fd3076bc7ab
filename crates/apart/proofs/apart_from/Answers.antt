use Rattle.std.proofs.Common.{rules}
use Rattle.columns.specs.Columns.{apart_from}
use Rattle.columns.proofs.ColumnLaws.{from_on}
use Rattle.apart.proofs.apart_from.Goals as goal

pub loop-i-init : goal.loop-i-init
unfolding apart_from
loop-i-init c = search rules

pub loop-i-preserved : goal.loop-i-preserved
loop-i-preserved c = rw (from_on c.args.table.now c.args.column c.loop-i.i) cc
