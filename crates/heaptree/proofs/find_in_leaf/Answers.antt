use Rattle.std.proofs.Common.{◌≡◌, ◌∙◌, sym, ap₂, arith}
use Rattle.keys.specs.declared.Sought.TheVariants.{Equal}
use Rattle.keys.specs.Records.{keys_of}
use Rattle.keys.specs.Search.{first_that}
use Rattle.heap.specs.Items.{item_part}
use Rattle.heaptree.specs.Value.{leaf_shape}
use Rattle.heaptree.specs.Branches.{record_count}
use Rattle.heaptree.proofs.RecordLaws.{records_hold, leaf_lies, leaf_at, leaf_none}
use Rattle.heaptree.proofs.find_in_leaf.Goals as goal
use Rattle.heaptree.proofs.find_in_leaf.Goals.{After-first_that, In-Some}

seat : (c : After-first_that) → c.first_that.result ≡ (let bytes = item_part c.args.block.now c.args.item in first_that Equal c.args.key (keys_of (leaf_shape c.args.tree) (record_count (leaf_shape c.args.tree) bytes) bytes))
seat c = c.first_that.ensures ∙ ap₂ (λ count bytes. first_that Equal c.args.key (keys_of (leaf_shape c.args.tree) count bytes)) c.requires.3 c.part_of-records.ensures

pub first_that-requires : goal.first_that-requires
first_that-requires c =
    let a = c.args in
    rw (c.part_of-records.ensures, c.requires.3) (records_hold (leaf_shape a.tree) (item_part a.block.now a.item) (omega arith) c.requires.2.1)

pub returns-in_default : goal.returns-in_default
returns-in_default c =
    let a = c.args in
    leaf_none a.tree a.block.now c.requires.0 a.item c.requires.1 a.key (sym c.in_default.is ∙ seat (goal.at.returns-in_default c).After-first_that)

pub overflow_mul-result : goal.overflow_mul-result
overflow_mul-result c =
    let a = c.args in
    omega (arith, leaf_lies a.tree a.block.now c.requires.0 a.item c.requires.1 a.key c.in-Some.i (sym c.in-Some.is ∙ seat (goal.at.overflow_mul-result c).After-first_that))

pub overflow_add-result : goal.overflow_add-result
overflow_add-result c =
    let a = c.args in
    omega (arith, c.item_start.ensures, leaf_lies a.tree a.block.now c.requires.0 a.item c.requires.1 a.key c.in-Some.i (sym c.in-Some.is ∙ seat (goal.at.overflow_add-result c).After-first_that))

pub returns : goal.returns
returns c =
    let a = c.args in
    rw c.item_start.ensures (leaf_at a.tree a.block.now c.requires.0 a.item c.requires.1 a.key c.in-Some.i (sym c.in-Some.is ∙ seat (goal.at.returns c).After-first_that))
