use mathlib.Core.Path.{sym, ◌∙◌}
use Rattle.block.specs.Block.{plain}
use Rattle.block.proofs.make_plain.Goals as goal

pub returns-then-is_internal : goal.returns-then-is_internal
unfolding plain
returns-then-is_internal c = rw (sym c.is_internal.ensures ∙ c.if-is_internal.true)

pub returns : goal.returns
unfolding plain
returns c = rw (sym c.is_internal.ensures ∙ c.if-is_internal.false) c.decode.ensures.buffer
