use mathlib.Core.Path.{ap, ◌∙◌}
use Rattle.keys.specs.Records.{significant}
use Rattle.page.specs.Layout.{compared}
use Rattle.page.proofs.compared.Goals as goal

pub returns : goal.returns
unfolding compared
returns c = c.significant.ensures ∙ ap (significant _) c.as_given.ensures
