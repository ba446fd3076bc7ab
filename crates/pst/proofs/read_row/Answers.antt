use mathlib.Core.Path.{ap}
use Rattle.pst.specs.Meaning.{cells_means}
use Rattle.pst.specs.Outcomes.{read_row_outcome, read_row_area}
use Rattle.pst.proofs.read_row.Goals as goal

pub returns : goal.returns
unfolding read_row_outcome read_row_area
returns c = record { answer = ap cells_means c.read_row.ensures.answer; area = c.read_row.ensures.area }
