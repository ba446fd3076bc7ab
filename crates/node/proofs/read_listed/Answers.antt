use mathlib.Core.Path.{sym, ◌∙◌}
use Rattle.node.proofs.Outcomes.{outcome_of, block_tree, block_own}
use Rattle.le.proofs.FieldLaws.{part_is}
use Rattle.node.proofs.read_listed.Goals as goal

pub returns-then-is_internal : goal.returns-then-is_internal
returns-then-is_internal c =
    let a = c.args in
    let e = c.read_root.ensures in
    let o = outcome_of _ _ a.out.now _ _ (block_tree a.e a.image.now a.b (sym c.is_internal.ensures ∙ c.if-is_internal.true)) (rw part_is at e.answer, rw part_is at e.buffer) in
    record { answer = o.0; buffer = o.1 }

pub returns : goal.returns
returns c =
    let a = c.args in
    let e = c.read_one.ensures in
    let o = outcome_of _ _ a.out.now _ _ (block_own a.e a.image.now a.b (sym c.is_internal.ensures ∙ c.if-is_internal.false)) (e.answer, e.buffer) in
    record { answer = o.0; buffer = o.1 }
