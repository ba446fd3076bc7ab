use Rattle.std.proofs.Common.{◌≡◌, ◌+◌, ◌≤◌, ap, ap₂, ◌∙◌, arith, rules, length, Ok, Err, Some}
use Rattle.heap.specs.Shape.{user_root}
use Rattle.heaptree.specs.Lookup.{from_root, Shows}
use Rattle.heaptree.proofs.ShownLaws.{lies_at, read_at, read_none, read_wrong}
use Rattle.property.specs.Context.{properties}
use Rattle.property.specs.Lookup.{value_of}
use Rattle.property.proofs.SaidLaws.{value_at}
use Rattle.property.proofs.find_in_context.Goals as goal
use Rattle.property.proofs.find_in_context.Goals.{After-find_from, In-Some}

-- what was asked of the tree is the property tree's
told : (c : After-find_from) → (let block = c.args.block.now in Shows properties block c.find_from.result (from_root properties block (user_root block) c.args.id))
told c = rw (c.properties.ensures, c.user_root-root.ensures) at c.find_from.ensures

-- a record that is found lies in the block
found : (c : In-Some) → c.find_from.result ≡ Ok (Some c.in-Some.place)
found c = c.in_ok-place.was ∙ ap Ok c.in-Some.is

lies : (c : In-Some) → c.in-Some.place + 8 ≤ length c.args.block.now
lies c = lies_at _ _ _ _ (told (goal.at.In-Some c).After-find_from) _ (found c)

pub returns-in_err-place : goal.returns-in_err-place
returns-in_err-place c =
    let refused : c.from_residual.result ≡ Err c.in_err-place.field-0.0 = search rules in
    rw refused (read_wrong _ _ _ _ (told (goal.at.returns-in_err-place c).After-find_from) _ _ _ _ c.in_err-place.was)

pub returns-in_default : goal.returns-in_default
returns-in_default c = read_none _ _ _ _ (told (goal.at.returns-in_default c).After-find_from) _ _ _ (c.in_ok-place.was ∙ ap Ok c.in_default.is)

pub overflow_add-place : goal.overflow_add-place
overflow_add-place c = omega (arith, lies (goal.at.overflow_add-place c).In-Some)

pub field2-code-requires : goal.field2-code-requires
field2-code-requires c = omega (arith, lies (goal.at.field2-code-requires c).In-Some)

pub overflow_add-place-2 : goal.overflow_add-place-2
overflow_add-place-2 c = omega (arith, lies (goal.at.overflow_add-place-2 c).In-Some)

pub field4-value-requires : goal.field4-value-requires
field4-value-requires c = omega (arith, lies (goal.at.field4-value-requires c).In-Some)

pub returns : goal.returns
returns c =
    let block = c.args.block.now in
    c.value_of.ensures
    ∙ ap₂ (value_of block) c.field2-code.ensures c.field4-value.ensures
    ∙ value_at block c.in-Some.place
    ∙ read_at properties block _ _ (told (goal.at.returns c).After-find_from) _ _ _ _ (found (goal.at.returns c).In-Some)
