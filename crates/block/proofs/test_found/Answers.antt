use Rattle.std.proofs.Common.{rules, ◌≡◌, ap, ◌∙◌, Ok, Err}
use Rattle.block.proofs.BlockLaws.{tested_accepted, tested_refused, no_entry, lookup_refused}
use Rattle.block.proofs.test_found.Goals as goal

pub returns-in_err-b : goal.returns-in_err-b
returns-in_err-b c =
    let e : c.from_residual.result ≡ Err c.in_err-b.field-0.0 = search rules in
    e ∙ lookup_refused _ _ _ _ c.in_err-b.was

pub returns-in_default : goal.returns-in_default
returns-in_default c = c.refused_at.ensures ∙ no_entry _ _ _ _ c.in_ok-b.was c.in_default.not-Entry

pub returns-in_err-test_listed : goal.returns-in_err-test_listed
returns-in_err-test_listed c =
    let e : c.from_residual-in_err-test_listed.result ≡ Err c.in_err-test_listed.field-0.0 = search rules in
    e ∙ tested_refused _ _ _ _ _ _ _ (c.in_ok-b.was ∙ ap Ok c.in-Entry.is) c.test_listed.ensures c.in_err-test_listed.was

pub returns : goal.returns
returns c = tested_accepted _ _ _ _ _ _ (c.in_ok-b.was ∙ ap Ok c.in-Entry.is) c.test_listed.ensures c.in_ok-test_listed.was
