use mathlib.Core.Path.{sym, ap, ◌∙◌}
use lib.Dec.{eqb}
use borrow.Author.Tests.{not-true, not-false}
use Rattle.edition.specs.declared.HeaderPlaces.{HeaderPlaces}
use Rattle.header.specs.Header.{header_sum_fits}
use Rattle.header.proofs.HeaderLaws.{whole_is, no_whole}
use Rattle.header.proofs.whole_fits.Goals as goal

pub returns-then-not-places : goal.returns-then-not-places
returns-then-not-places c =
    sym (no_whole _ (sym (ap (λ (p : HeaderPlaces). p.whole) c.requires.1) ∙ not-true _ c.if-not-places.true))

pub returns : goal.returns
unfolding header_sum_fits
returns c =
    c.sum_stands.ensures ∙ ap (eqb _) c.whole_sum.ensures
    ∙ sym (whole_is _ (sym (ap (λ (p : HeaderPlaces). p.whole) c.requires.1) ∙ not-false _ c.if-not-places.false))
