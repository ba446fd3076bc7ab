use Rattle.std.proofs.Common.{◌≡◌, ◌+◌, ◌≤◌, ap, ◌∙◌, arith, rules, length, Ok, Err, Some}
use Rattle.le.specs.Bytes.{field}
use Rattle.columns.specs.Record.{row_index_item}
use Rattle.heaptree.specs.Lookup.{from_root, Shows}
use Rattle.heaptree.proofs.ShownLaws.{lies_at, read_at, read_none, read_wrong}
use Rattle.table.specs.RowIndex.{index_root}
use Rattle.table.proofs.IndexLaws.{number_fits_lem, row_at_lem}
use Rattle.table.proofs.find_in_index.Goals as goal
use Rattle.table.proofs.find_in_index.Goals.{After-row_index_item-root, After-find_from, In-Some}

-- what was asked of the tree is the row index
start : (c : After-row_index_item-root) → c.row_index_item-root.result ≡ index_root c.args.block.now
start c = c.row_index_item-root.ensures ∙ ap row_index_item c.record_of.ensures

told : (c : After-find_from) → (let a = c.args in Shows a.tree a.block.now c.find_from.result (from_root a.tree a.block.now (index_root a.block.now) a.id))
told c = rw (start (goal.at.After-find_from c).After-row_index_item-root) at c.find_from.ensures

-- a record that is found lies in the block
found : (c : In-Some) → c.find_from.result ≡ Ok (Some c.in-Some.place)
found c = c.in_ok-place.was ∙ ap Ok c.in-Some.is

lies : (c : In-Some) → c.in-Some.place + (c.args.tree.key + c.args.tree.entry) ≤ length c.args.block.now
lies c = lies_at _ _ _ _ (told (goal.at.In-Some c).After-find_from) _ (found c)

pub returns-in_err-place : goal.returns-in_err-place
returns-in_err-place c =
    let refused : c.from_residual.result ≡ Err c.in_err-place.field-0.0 = search rules in
    rw refused (read_wrong _ _ _ _ (told (goal.at.returns-in_err-place c).After-find_from) _ _ _ _ c.in_err-place.was)

pub returns-in_default : goal.returns-in_default
returns-in_default c = read_none _ _ _ _ (told (goal.at.returns-in_default c).After-find_from) _ _ _ (c.in_ok-place.was ∙ ap Ok c.in_default.is)

pub overflow_add-place : goal.overflow_add-place
overflow_add-place c = omega (arith, lies (goal.at.overflow_add-place c).In-Some)

pub field_of-requires : goal.field_of-requires
field_of-requires c = omega (arith, lies (goal.at.field_of-requires c).In-Some)

pub overflow_cast-result : goal.overflow_cast-result
overflow_cast-result c = omega (arith, c.field_of.ensures.1, number_fits_lem c.args.tree c.requires.1)

pub returns : goal.returns
returns c =
    let a = c.args in
    let place = c.in-Some.place in
    let number : c.field_of.result ≡ field a.block.now (place + a.tree.key) a.tree.entry = c.field_of.ensures.0 in
    ap (λ n. Ok (Some n)) number
    ∙ row_at_lem a.tree a.block.now place
    ∙ read_at a.tree a.block.now _ _ (told (goal.at.returns c).After-find_from) _ _ _ _ (found (goal.at.returns c).In-Some)
