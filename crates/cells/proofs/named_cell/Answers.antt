use Rattle.std.proofs.Common.{rules}
use Rattle.refusal.specs.Order.{demand, after}
use Rattle.cells.specs.Cells.{named_cell}
use Rattle.cells.proofs.named_cell.Goals as goal

pub returns-then-not-item_fits : goal.returns-then-not-item_fits
unfolding named_cell demand after
returns-then-not-item_fits c = search rules

pub returns-in-Nothing : goal.returns-in-Nothing
unfolding named_cell
returns-in-Nothing c = search rules

pub returns-in-Subnode : goal.returns-in-Subnode
unfolding named_cell
returns-in-Subnode c = search rules

pub returns-else-not-item_fits : goal.returns-else-not-item_fits
unfolding named_cell demand after
returns-else-not-item_fits c = search rules
