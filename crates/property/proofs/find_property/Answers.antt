use Rattle.std.proofs.Common.{sym, rules}
use Rattle.refusal.specs.Order.{after}
use Rattle.property.specs.Lookup.{property}
use Rattle.property.proofs.ContextLaws.{context_exactly}
use Rattle.property.proofs.find_property.Goals as goal

pub returns-in_err-test_context : goal.returns-in_err-test_context
unfolding property after
returns-in_err-test_context c = search rules

pub find_in_context-requires : goal.find_in_context-requires
find_in_context-requires c = (context_exactly _).0 (sym c.in_ok-test_context.ensures)

pub returns : goal.returns
unfolding property after
returns c = search rules
