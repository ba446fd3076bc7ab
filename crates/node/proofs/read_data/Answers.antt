use Rattle.std.proofs.Common.{rules, ◌≡◌, sym, ◌∙◌, Err}
use Rattle.node.proofs.Outcomes.{outcome_of, data_none, data_refused, data_block, none_outcome, refused_outcome}
use Rattle.block.proofs.BlockLaws.{checked_large, checked_inside}
use Rattle.node.proofs.read_data.Goals as goal

pub returns-then-cleared-eq0 : goal.returns-then-cleared-eq0
returns-then-cleared-eq0 c =
    let a = c.args in
    let o = outcome_of _ _ a.out.now _ _ (data_none a.e a.image.now a.number (sym c.cleared.ensures ∙ c.if-cleared-eq0.true)) (none_outcome a.out.now) in
    record { answer = o.0; buffer = o.1 }

pub returns-in_err-b : goal.returns-in_err-b
returns-in_err-b c =
    let a = c.args in
    let e : c.from_residual.result ≡ Err c.in_err-b.field-0.0 = search rules in
    let o = outcome_of _ _ a.out.now _ _ (data_refused a.e a.image.now a.number _ (λ e. c.if-cleared-eq0.false (c.cleared.ensures ∙ e)) (sym c.in_err-b.ensures)) (refused_outcome _ a.out.now) in
    record { answer = e ∙ o.0; buffer = o.1 }

pub read_listed-requires : goal.read_listed-requires
read_listed-requires c = (c.requires.0, checked_large _ _ _ _ (sym c.in_ok-b.ensures), checked_inside _ _ _ _ (sym c.in_ok-b.ensures), c.requires.1)

pub returns : goal.returns
returns c =
    let a = c.args in
    let told = c.read_listed.ensures in
    let o = outcome_of _ _ a.out.now _ _ (data_block a.e a.image.now a.number _ (λ e. c.if-cleared-eq0.false (c.cleared.ensures ∙ e)) (sym c.in_ok-b.ensures)) (told.answer, told.buffer) in
    record { answer = o.0; buffer = o.1 }
