use native.Mathlib.Omega.{arith}
use Rattle.node.specs.Content.{number_at}
use Rattle.node.proofs.Numbers.{place_small}
use Rattle.node.proofs.number_at.Goals as goal

pub overflow_mul-i : goal.overflow_mul-i
overflow_mul-i c = omega (arith, place_small c.args.d.word c.args.i c.requires.0.word c.requires.2)

pub overflow_add-i : goal.overflow_add-i
overflow_add-i c = omega (arith, place_small c.args.d.word c.args.i c.requires.0.word c.requires.2)

pub returns : goal.returns
unfolding number_at
returns c = c.field_of.ensures.0
