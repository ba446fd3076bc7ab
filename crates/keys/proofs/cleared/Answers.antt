use native.Mathlib.Omega.{arith}
use Rattle.keys.specs.Records.{cleared}
use borrow.Author.Rules.{rules}
use Rattle.keys.proofs.cleared.Goals as goal

pub overflow_mul-result : goal.overflow_mul-result
unfolding cleared
overflow_mul-result c = omega arith

pub returns : goal.returns
unfolding cleared
returns c = search rules
