use mathlib.Core.Path.{ap, ◌∙◌}
use Prim.Native.Nat.{ℕ, ◌/◌}
use lib.ListN.{length}
use Rattle.columns.specs.Record.{row_size_of}
use Rattle.cells.specs.Rows.{row_count}
use Rattle.cells.proofs.row_count.Goals as goal

pub returns : goal.returns
unfolding row_count
returns c = ap (λ (size : ℕ). length c.args.bytes.now / size) (c.row_size.ensures.0 ∙ ap row_size_of c.record_of.ensures)
