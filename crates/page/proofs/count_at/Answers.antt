use mathlib.Core.Path.{refl}
use native.Mathlib.Omega.{arith}
use Rattle.le.specs.Bytes.{byte}
use Rattle.page.proofs.count_at.Goals as goal

pub returns : goal.returns
unfolding byte
returns c = (refl, omega (arith, c.type_inv.page c.args.place))
