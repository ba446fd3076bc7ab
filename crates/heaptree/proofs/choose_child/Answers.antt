use Rattle.std.proofs.Common.{◌≡◌, ap, ◌∙◌, None, rules}
use mathlib.Core.List.{[], ◌∷◌}
use native.Mathlib.Omega.{arith}
use Rattle.heap.specs.Items.{item_part}
use Rattle.heaptree.specs.declared.Branch.{Branch}
use Rattle.heaptree.specs.Value.{index_shape}
use Rattle.heaptree.proofs.RecordLaws.{records_hold, child_inside, child_none, child_chosen}
use Rattle.heaptree.proofs.choose_child.Goals as goal

pub last_at_most-requires : goal.last_at_most-requires
last_at_most-requires c =
    let a = c.args in
    let part = c.part_of-records in
    rw (part.ensures, c.requires.3) (records_hold (index_shape a.tree) (item_part a.block.now a.branch.item) (omega arith) c.requires.2.1)

pub returns-in_err-i : goal.returns-in_err-i
returns-in_err-i c =
    let a = c.args in
    let part = c.part_of-records in
    let none : c.from_residual.result ≡ None = search rules in
    rw none (child_none a.tree a.block.now a.branch a.key a.count c.requires.3 part.result.now part.ensures c.in_err-i.ensures)

pub child_at-requires : goal.child_at-requires
child_at-requires c =
    let a = c.args in
    let part = c.part_of-records in
    let p = c.requires in
    (rw (part.ensures, p.3) (records_hold (index_shape a.tree) (item_part a.block.now a.branch.item) (omega arith) p.2.1), omega arith, child_inside a.tree a.block.now a.branch a.key a.count p.3 part.result.now part.ensures _ (c.in_ok-i.ensures))

pub returns : goal.returns
returns c =
    let a = c.args in
    let part = c.part_of-records in
    λ levels. ap (λ (b : Branch). b ∷ []) c.child_at.ensures
    ∙ child_chosen a.tree a.block.now a.branch a.key a.count c.requires.3 part.result.now part.ensures _ (c.in_ok-i.ensures) levels
