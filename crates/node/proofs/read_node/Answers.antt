use Rattle.std.proofs.Common.{◌≡◌, sym, ap, ◌∙◌, Ok, Err}
use Rattle.tree.proofs.Steps.{node_header}
use Rattle.node.proofs.Outcomes.{outcome_of, node_found, node_refused, refused_outcome, absence_outcome}
use borrow.Author.Rules.{rules}
use Rattle.tree.specs.Answers.{node_of, found_as}
use Rattle.node.proofs.read_node.Goals as goal

pub returns-in_err-listed : goal.returns-in_err-listed
unfolding node_of found_as
returns-in_err-listed c =
    let a = c.args in
    let e : c.from_residual.result ≡ Err c.in_err-listed.field-0.0 = search rules in
    let o = outcome_of _ _ a.out.now _ _ (node_refused a.e a.image.now a.node _ (sym c.in_err-listed.ensures)) (refused_outcome _ a.out.now) in
    record { answer = e ∙ o.0; buffer = o.1 }

pub returns-in_default : goal.returns-in_default
unfolding node_of found_as
returns-in_default c =
    let a = c.args in
    let o = absence_outcome a.e a.image.now a.node _ a.out.now c.in_ok-listed.ensures c.in_default.not-Entry in
    record { answer = o.0; buffer = o.1 }

pub read_data-requires : goal.read_data-requires
unfolding node_of found_as
read_data-requires c = (search rules, node_header _ _ _ _ _ (sym c.in_ok-listed.ensures ∙ ap Ok c.in-Entry.is))

pub returns : goal.returns
unfolding node_of found_as
returns c =
    let a = c.args in
    let o = outcome_of _ _ a.out.now _ _ (node_found a.e a.image.now a.node _ _ (sym c.in_ok-listed.ensures ∙ ap Ok c.in-Entry.is))
    (c.read_data.ensures.answer, c.read_data.ensures.buffer) in
    record { answer = o.0; buffer = o.1 }
