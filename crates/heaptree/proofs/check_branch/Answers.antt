use Rattle.std.proofs.Common.{◌≡◌, ◌∙◌, ap₂}
use Rattle.laws.proofs.Tests.{fails, holds}
use Rattle.heap.specs.Items.{item_part}
use Rattle.heap.proofs.ItemLaws.{number_exactly}
use Rattle.heaptree.specs.Value.{shape_at}
use Rattle.heaptree.specs.Branches.{record_count, records_fit}
use Rattle.heaptree.proofs.RecordLaws.{shape_fair}
use Rattle.heaptree.proofs.StepLaws.{branch_number, branch_records, branch_accepted, held_refused, held_accepted}
use Rattle.heaptree.proofs.check_branch.Goals as goal
use Rattle.heaptree.proofs.check_branch.Goals.{After-records_fit}

fit : (c : After-records_fit) → c.records_fit.result ≡ (let a = c.args in records_fit (shape_at a.tree a.levels) a.branch.range (item_part a.block.now a.branch.item))
fit c = c.records_fit.ensures ∙ ap₂ (λ shape bytes. records_fit shape c.args.branch.range bytes) c.shape_at-shape.ensures c.part_of-records.ensures

pub returns-then-not-item_fits : goal.returns-then-not-item_fits
returns-then-not-item_fits c =
    let a = c.args in
    c.refused_at.ensures ∙ held_refused a.tree a.block.now a.levels a.branch _ (branch_number a.tree a.block.now a.levels a.branch (fails _ _ c.item_fits.ensures c.if-not-item_fits.true))

pub part_of-records-requires : goal.part_of-records-requires
part_of-records-requires c = (c.requires.0, (number_exactly _ _).0 (holds _ _ c.item_fits.ensures c.if-not-item_fits.false))

pub whole_records-count-requires : goal.whole_records-count-requires
whole_records-count-requires c = rw c.shape_at-shape.ensures (shape_fair _ c.requires.1 _).0

pub records_fit-requires : goal.records_fit-requires
unfolding record_count
records_fit-requires c =
    let f = shape_fair _ c.requires.1 _ in
    let shape = c.shape_at-shape.ensures in
    (rw shape f.0, rw shape f.1, rw shape f.2, c.whole_records-count.ensures)

pub returns-then-not-records_fit : goal.returns-then-not-records_fit
returns-then-not-records_fit c =
    let a = c.args in
    let number = holds _ _ c.item_fits.ensures c.if-not-item_fits.false in
    let broken = fails _ _ (fit (goal.at.returns-then-not-records_fit c).After-records_fit) c.if-not-records_fit.true in
    c.refused_at-then-not-records_fit.ensures ∙ held_refused a.tree a.block.now a.levels a.branch _ (branch_records a.tree a.block.now a.levels a.branch number broken)

pub returns : goal.returns
unfolding record_count
returns c =
    let a = c.args in
    let number = holds _ _ c.item_fits.ensures c.if-not-item_fits.false in
    let whole = holds _ _ (fit (goal.at.returns c).After-records_fit) c.if-not-records_fit.false in
    held_accepted a.tree a.block.now a.levels a.branch _ (branch_accepted a.tree a.block.now a.levels a.branch number whole)
    (c.whole_records-count.ensures ∙ ap₂ record_count c.shape_at-shape.ensures c.part_of-records.ensures)
