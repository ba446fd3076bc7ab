use Rattle.std.proofs.Common.{ℕ, ◌+◌, get_or, ap}
use Rattle.coding.specs.Table.{coding_table, entry}
use Rattle.coding.proofs.entry_of.Goals as goal

pub returns : goal.returns
unfolding coding_table entry
returns c = ap (λ (k : ℕ). get_or coding_table (c.args.from + k) 0) c.from.ensures
