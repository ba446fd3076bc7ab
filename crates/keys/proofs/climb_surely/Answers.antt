use mathlib.Core.Bool.{false}
use mathlib.Core.Path.{refl}
use Rattle.laws.proofs.Tests.{not_both}
use Rattle.keys.proofs.climb_surely.Goals as goal

pub returns : goal.returns
returns c = λ e. not_both false e refl
