use mathlib.Core.Path.{sym}
use native.Mathlib.Omega.{arith}
use borrow.Author.Tests.{le-leb, lt-leb}
use Rattle.keys.specs.Search.{meets}
use Rattle.keys.proofs.meets.Goals as goal

pub returns-in-Equal : goal.returns-in-Equal
unfolding meets
returns-in-Equal c = rw c.in-Equal.is

pub returns-then-found-key : goal.returns-then-found-key
unfolding meets
returns-then-found-key c = rw c.in_default.is (sym (lt-leb c.args.key c.args.found (omega arith)))

pub returns : goal.returns
unfolding meets
returns c = rw c.in_default.is (sym (le-leb c.args.key c.args.found (omega arith)))
