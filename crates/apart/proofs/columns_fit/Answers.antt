use mathlib.Core.Path.{sym, ap, ◌∙◌}
use mathlib.Core.Bool.{Bool, ◌&&◌}
use Rattle.laws.proofs.Tests.{both_and, fails, holds}
use Rattle.columns.specs.Record.{column_count}
use Rattle.columns.specs.Columns.{all_apart, columns_fit}
use Rattle.apart.proofs.columns_fit.Goals as goal

pub returns-then-not-each_fits : goal.returns-then-not-each_fits
unfolding columns_fit
returns-then-not-each_fits c =
    let t = c.args.table.now in
    sym (ap (λ (b : Bool). b && all_apart t (column_count t)) (fails _ _ c.each_fits.ensures c.if-not-each_fits.true))

pub returns-then-apart_quickly : goal.returns-then-apart_quickly
unfolding columns_fit
returns-then-apart_quickly c =
    sym (both_and _ _ (holds _ _ c.each_fits.ensures c.if-not-each_fits.false) (c.apart_quickly.ensures c.if-apart_quickly.true))

pub returns : goal.returns
unfolding columns_fit
returns c =
    let t = c.args.table.now in
    c.apart_by_pairs.ensures ∙ sym (ap (λ (b : Bool). b && all_apart t (column_count t)) (holds _ _ c.each_fits.ensures c.if-not-each_fits.false))
