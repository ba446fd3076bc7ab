use native.Mathlib.Omega.{arith}
use Rattle.page.proofs.PageLaws.{entries_held, few}
use Rattle.tree.proofs.Children.{start_is, start_inside}
use Rattle.tree.proofs.start_in.Goals as goal

pub start_of-requires : goal.start_of-requires
start_of-requires c =
    let a = c.args in
    let pre = c.requires in
    rw (c.shape_in-shape.ensures, c.count_of-count.ensures.0) (entries_held a.l a.p a.page.now pre.0 pre.2 pre.1)

pub returns : goal.returns
returns c =
    let a = c.args in
    let pre = c.requires in
    let is = start_is a.l a.page.now a.key _ (rw (c.shape_in-shape.ensures, c.count_of-count.ensures.0) at c.start_of.ensures) in
    (is, omega (arith, is, start_inside a.l a.page.now a.key, few a.l a.p a.page.now pre.0 pre.2))
