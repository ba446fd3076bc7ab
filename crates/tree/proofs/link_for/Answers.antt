use mathlib.Core.Path.{sym}
use native.Mathlib.Omega.{arith}
use Rattle.page.specs.Page.{page}
use Rattle.page.proofs.PageLaws.{page_part, page_length}
use Rattle.tree.specs.Answers.{kids_from}
use Rattle.tree.proofs.Walk.{accepted_inside, accepted_counts}
use Rattle.tree.proofs.Children.{link_ready, next_some}
use Rattle.tree.proofs.link_for.Goals as goal

pub overflow_add-at : goal.overflow_add-at
overflow_add-at c = omega (arith, accepted_inside _ _ _ c.requires.1)

pub slice_bounds-link_at-end : goal.slice_bounds-link_at-end
slice_bounds-link_at-end c = omega (arith, accepted_inside _ _ _ c.requires.1)

pub link_at-requires : goal.link_at-requires
link_at-requires c =
    let a = c.args in
    let pre = c.requires in
    rw (page_part a.image.now a.p.offset)
    (link_ready a.l a.p _ pre.0 (page_length a.image.now a.p.offset (accepted_inside a.l a.image.now a.p pre.1)) (accepted_counts a.l a.image.now a.p pre.1) a.entry a.count a.i pre.2 pre.3 pre.4)

pub returns : goal.returns
unfolding kids_from
returns c =
    let a = c.args in
    let pre = c.requires in
    sym (rw (c.link_at.ensures, page_part, pre.2, pre.3) (next_some a.l (page a.image.now a.p.offset) a.level a.p.range.to a.i (omega (arith, pre.3, pre.4))))
