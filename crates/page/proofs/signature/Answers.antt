use mathlib.Core.Path.{refl}
use Rattle.page.specs.Page.{signature}
use Rattle.page.proofs.signature.Goals as goal

pub returns : goal.returns
unfolding signature
returns c = refl
