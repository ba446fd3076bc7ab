use Rattle.std.proofs.Common.{rules}
use Rattle.page.specs.Layout.{shape}
use Rattle.page.proofs.shape_of.Goals as goal

pub returns : goal.returns
unfolding shape
returns c = search rules
