use mathlib.Core.Path.{sym}
use native.Mathlib.Omega.{arith}
use borrow.Author.Tests.{lt-ltb, le-ltb}
use Rattle.keys.specs.Range.{is_before}
use Rattle.keys.proofs.is_before.Goals as goal

pub returns-in_default : goal.returns-in_default
unfolding is_before
returns-in_default c = rw c.in_default.is

pub returns-then-end-key : goal.returns-then-end-key
unfolding is_before
returns-then-end-key c = rw c.in-Some.is (sym (le-ltb c.args.key c.in-Some.end (omega arith)))

pub returns : goal.returns
unfolding is_before
returns c = rw c.in-Some.is (sym (lt-ltb c.args.key c.in-Some.end (omega arith)))
