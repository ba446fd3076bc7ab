use mathlib.Core.Path.{sym, ◌∙◌}
use Rattle.header.proofs.EditionLaws.{older_is, newer_is}
use Rattle.header.proofs.edition_of.Goals as goal

pub returns-then-is_older : goal.returns-then-is_older
returns-then-is_older c = c.edition_32.ensures ∙ sym (older_is _ (sym c.is_older.ensures ∙ c.if-is_older.true))

pub returns-else-is_older : goal.returns-else-is_older
returns-else-is_older c = c.edition_64.ensures ∙ sym (newer_is _ (sym c.is_older.ensures ∙ c.if-is_older.false))
