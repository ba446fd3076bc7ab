use native.Mathlib.Omega.{arith}
use Rattle.tree.proofs.Children.{next_none, next_some, link_ready}
use Rattle.tree.proofs.next_link.Goals as goal

pub returns-then-count-i : goal.returns-then-count-i
returns-then-count-i c =
    let a = c.args in
    next_none a.l a.page.now a.level a.p.range.to a.i (omega (arith, c.count_of-count.ensures.0))

pub link_at-requires : goal.link_at-requires
link_at-requires c =
    let a = c.args in
    let pre = c.requires in
    link_ready a.l a.p a.page.now pre.0 pre.1 pre.2 _ _ a.i c.shape_in-shape.ensures c.count_of-count.ensures.0 (omega arith)

pub returns : goal.returns
returns c =
    let a = c.args in
    rw (c.link_at.ensures, c.shape_in-shape.ensures, c.count_of-count.ensures.0)
    (next_some a.l a.page.now a.level a.p.range.to a.i (omega (arith, c.count_of-count.ensures.0)))
