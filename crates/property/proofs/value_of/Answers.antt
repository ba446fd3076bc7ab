use Rattle.std.proofs.Common.{rules}
use Rattle.refusal.specs.Order.{demand, after}
use Rattle.property.specs.Lookup.{value_of}
use Rattle.property.proofs.value_of.Goals as goal

pub returns-then-in_place : goal.returns-then-in_place
unfolding value_of
returns-then-in_place c = search rules

pub returns-then-value-eq0 : goal.returns-then-value-eq0
unfolding value_of
returns-then-value-eq0 c = search rules

pub returns-then-value-ne0 : goal.returns-then-value-ne0
unfolding value_of
returns-then-value-ne0 c = search rules

pub returns-then-not-item_fits : goal.returns-then-not-item_fits
unfolding value_of demand after
returns-then-not-item_fits c = search rules

pub returns : goal.returns
unfolding value_of demand after
returns c = search rules
