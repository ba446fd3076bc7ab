use Rattle.std.proofs.Common.{rules, ◌≡◌, Err}
use mathlib.Core.Path.{sym, ◌∙◌}
use Rattle.header.proofs.HeaderLaws.{header_length}
use Rattle.tree.proofs.Walk.{tree_refused, tree_on_lem}
use Rattle.tree.proofs.check_tree.Goals as goal

pub returns-in_err-check_header : goal.returns-in_err-check_header
returns-in_err-check_header c =
    let a = c.args in
    let e : c.from_residual.result ≡ Err c.in_err-check_header.field-0.0 = search rules in
    e ∙ tree_refused a.l a.image.now _ c.in_err-check_header.ensures

pub root_link-p-requires : goal.root_link-p-requires
root_link-p-requires c = (c.requires, header_length _ (sym c.in_ok-check_header.ensures))

pub returns : goal.returns
returns c =
    let a = c.args in
    c.check_under.ensures ∙ tree_on_lem a.l a.image.now _ _ c.in_ok-check_header.ensures c.root_link-p.ensures c.stated_level.ensures.0
