use Rattle.std.proofs.Common.{rules}
use Rattle.header.specs.Header.{file_end}
use Rattle.header.proofs.file_end.Goals as goal

pub returns : goal.returns
unfolding file_end
returns c = search rules
