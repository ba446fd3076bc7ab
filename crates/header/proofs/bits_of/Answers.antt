use mathlib.Core.Path.{sym, ap, ◌∙◌}
use Rattle.edition.specs.declared.Edition.{Edition}
use Rattle.edition.specs.Editions.{edition64, edition32}
use Rattle.header.proofs.EditionLaws.{older_is, newer_is}
use Rattle.header.proofs.bits_of.Goals as goal

pub returns-then-is_older : goal.returns-then-is_older
unfolding edition32
returns-then-is_older c = sym (ap (λ (E : Edition). E.bits) (older_is _ (sym c.is_older.ensures ∙ c.if-is_older.true)))

pub returns-else-is_older : goal.returns-else-is_older
unfolding edition64
returns-else-is_older c = sym (ap (λ (E : Edition). E.bits) (newer_is _ (sym c.is_older.ensures ∙ c.if-is_older.false)))
