use Rattle.std.proofs.Common.{rules, ◌≡◌, None}
use mathlib.Core.Path.{sym, ◌∙◌}
use Rattle.tree.proofs.Children.{link_ready, choose_none, choose_inside, choose_some}
use Rattle.page.proofs.PageLaws.{entries_held}
use Rattle.tree.proofs.choose.Goals as goal

pub last_at_most-requires : goal.last_at_most-requires
last_at_most-requires c =
    let a = c.args in
    let pre = c.requires in
    rw (c.shape_in-shape.ensures, c.count_of-count.ensures.0) (entries_held a.l a.p a.page.now pre.0 pre.2 pre.1)

pub returns-in_err-i : goal.returns-in_err-i
returns-in_err-i c =
    let a = c.args in
    let e : c.from_residual.result ≡ None = search rules in
    e ∙ choose_none a.l a.page.now a.level a.p.range.to a.key
    (rw (c.shape_in-shape.ensures, c.count_of-count.ensures.0) at (sym c.last_at_most.ensures ∙ c.in_err-i.was))

pub link_at-requires : goal.link_at-requires
link_at-requires c =
    let a = c.args in
    let pre = c.requires in
    let shaped = c.shape_in-shape.ensures in
    let counted = c.count_of-count.ensures.0 in
    link_ready a.l a.p a.page.now pre.0 pre.1 pre.2 _ _ c.in_ok-i.i shaped counted
    (rw counted (choose_inside a.l a.page.now a.level a.p.range.to a.key c.in_ok-i.i
    (rw (shaped, counted) at (sym c.last_at_most.ensures ∙ c.in_ok-i.was))))

pub returns : goal.returns
returns c =
    let a = c.args in
    let shaped = c.shape_in-shape.ensures in
    let counted = c.count_of-count.ensures.0 in
    rw (c.link_at.ensures, shaped, counted)
    (choose_some a.l a.page.now a.level a.p.range.to a.key c.in_ok-i.i
    (rw (shaped, counted) at (sym c.last_at_most.ensures ∙ c.in_ok-i.was)))
