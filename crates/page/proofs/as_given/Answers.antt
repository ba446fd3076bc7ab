use native.Mathlib.Omega.{arith}
use Rattle.page.proofs.PageLaws.{given_whole, given_low}
use Rattle.page.proofs.as_given.Goals as goal

pub returns-then-l-eq8 : goal.returns-then-l-eq8
returns-then-l-eq8 c = given_whole c.args.l c.args.number c.if-l-eq8.true (omega arith)

pub returns : goal.returns
returns c = given_low c.args.l c.args.number c.if-l-eq8.false c.requires
