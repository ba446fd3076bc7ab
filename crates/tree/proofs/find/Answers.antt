use Rattle.std.proofs.Common.{rules, ◌≡◌, ap, ◌∙◌, Err}
use Rattle.tree.proofs.Steps.{root_refused}
use Rattle.keys.specs.declared.Sought.TheVariants.{Equal}
use Rattle.tree.specs.Answers.{shown, found_as}
use Rattle.tree.proofs.find.Goals as goal

pub returns-in_err-check_header : goal.returns-in_err-check_header
unfolding shown found_as
returns-in_err-check_header g c =
    let a = c.args in
    let e : c.from_residual.result ≡ Err c.in_err-check_header.field-0.0 = search rules in
    e ∙ ap (λ answer. found_as g.T.TreeEntry.of (shown a.l answer)) (root_refused a.l a.image.now Equal a.key _ c.in_err-check_header.ensures)
