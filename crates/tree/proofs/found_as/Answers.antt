use Rattle.std.proofs.Common.{rules}
use Rattle.tree.specs.Answers.{found_as}
use Rattle.tree.proofs.found_as.Goals as goal

pub returns-in_err-fields : goal.returns-in_err-fields
unfolding found_as
returns-in_err-fields g c = search rules

pub returns-in-Entry : goal.returns-in-Entry
unfolding found_as
returns-in-Entry g c = search rules

pub returns-in-Absent : goal.returns-in-Absent
unfolding found_as
returns-in-Absent g c = search rules
