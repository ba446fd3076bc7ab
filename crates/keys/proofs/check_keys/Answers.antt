use mathlib.Core.Path.{sym}
use Rattle.keys.proofs.check_keys.Goals as goal

pub returns-then-climb_surely : goal.returns-then-climb_surely
returns-then-climb_surely c = sym (c.climb_surely.ensures c.if-climb_surely.true)
