use Rattle.std.proofs.Common.{rules}
use Rattle.tree.specs.Answers.{fields_of}
use Rattle.tree.proofs.fields_at.Goals as goal

pub returns : goal.returns
unfolding fields_of
returns c = search rules
