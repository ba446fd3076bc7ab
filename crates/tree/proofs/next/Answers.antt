use Rattle.std.proofs.Common.{rules, ◌≡◌, Err}
use mathlib.Core.Path.{sym, ap, ◌∙◌}
use native.Mathlib.Omega.{arith}
use Rattle.header.proofs.HeaderLaws.{header_length}
use Rattle.tree.proofs.Walk.{accepted_offset}
use Rattle.tree.proofs.Steps.{root_refused, root_on}
use Rattle.keys.specs.declared.Sought.TheVariants.{AtLeast}
use Rattle.tree.specs.Answers.{shown, found_as}
use Rattle.tree.proofs.next.Goals as goal

pub returns-in_err-check_header : goal.returns-in_err-check_header
unfolding shown found_as
returns-in_err-check_header g c =
    let a = c.args in
    let e : c.from_residual.result ≡ Err c.in_err-check_header.field-0.0 = search rules in
    e ∙ ap (λ answer. found_as g.T.TreeEntry.of (shown a.l answer)) (root_refused a.l a.image.now AtLeast a.from _ c.in_err-check_header.ensures)

pub root_link-p-requires : goal.root_link-p-requires
root_link-p-requires g c = (c.requires, header_length _ (sym c.in_ok-check_header.ensures))

pub seek-requires : goal.seek-requires
seek-requires g c =
    let a = c.args in
    (c.requires, (λ ok. sym (c.stated_level-level.ensures.0 (accepted_offset a.l a.image.now c.root_link-p.result ok))), c.stated_level-level.ensures.1, omega (arith, c.stated_level-level.ensures.1))

pub returns : goal.returns
returns g c =
    let a = c.args in
    c.found_as.ensures
    ∙ ap (found_as g.T.TreeEntry.of)
    (c.seek.ensures
    ∙ ap (shown a.l)
    (root_on a.l a.image.now AtLeast a.from _ _ _ c.in_ok-check_header.ensures c.root_link-p.ensures c.as_given.ensures c.stated_level-level.ensures.0))
