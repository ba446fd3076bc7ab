use Rattle.std.proofs.Common.{rules, ◌≡◌, Err}
use mathlib.Core.Path.{refl, ◌∙◌}
use Rattle.tree.proofs.Ways.{start_refused}
use Rattle.tree.proofs.check_start.Goals as goal

pub returns-in_err-check_header : goal.returns-in_err-check_header
returns-in_err-check_header c =
    let a = c.args in
    let e : c.from_residual.result ≡ Err c.in_err-check_header.field-0.0 = search rules in
    e ∙ start_refused a.l a.image.now _ _ c.in_err-check_header.ensures refl
