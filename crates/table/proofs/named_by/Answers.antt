use Rattle.std.proofs.Common.{rules}
use Rattle.table.specs.Says.{named_by}
use Rattle.table.proofs.named_by.Goals as goal

pub returns-then-value-eq0 : goal.returns-then-value-eq0
unfolding named_by
returns-then-value-eq0 c = search rules

pub returns-then-value-ne0 : goal.returns-then-value-ne0
unfolding named_by
returns-then-value-ne0 c = search rules

pub returns : goal.returns
unfolding named_by
returns c = search rules
