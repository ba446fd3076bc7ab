use Rattle.std.proofs.Common.{◌≡◌, take}
use Rattle.laws.specs.Front.{fronted}
use Rattle.keys.specs.Search.{joined}
use Rattle.columns.specs.Columns.{tags}
use Rattle.table.specs.Context.{table_record}
use Rattle.rowcells.specs.RowCells.{place_of}
use Rattle.rowcells.proofs.fill.Given as goal

abbrev pub invariant-loop-i : goal.invariant-loop-i
invariant-loop-i l = l.places ≡ fronted (joined (place_of l.block l.rows l.row) (take l.i (tags (table_record l.block)))) l.initial.places
