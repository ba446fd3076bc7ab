use Rattle.std.proofs.Common.{ap, sym, ◌∙◌, ◌+◌, ◌&&◌, get_or}
use lib.Dec.{eqb}
use lib.ListN.{set}
use Rattle.apart.proofs.MarkLaws.{marked_none, marked_on, free_none, free_on}
use Rattle.apart.proofs.claim.Goals as goal

pub loop-i-init : goal.loop-i-init
loop-i-init c = (marked_none _ _, λ _. free_none c.args.marks.now c.args.from)

pub loop-i-preserved : goal.loop-i-preserved
loop-i-preserved c =
    let a = c.args in
    let l = c.loop-i in (
      ap (λ x. set x (a.from + l.i) 1) l.invariant.0 ∙ marked_on a.marks.now a.from l.i,
      λ e. free_on a.marks.now a.from l.i l.free l.invariant.1 (sym (ap (λ x. l.free && eqb (get_or x (a.from + l.i) 0) 0) l.invariant.0) ∙ e),
    )
