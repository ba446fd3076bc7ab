use mathlib.Core.Path.{ap}
use Rattle.le.specs.Bytes.{part}
use mathlib.Core.Path.{ap₂, ◌∙◌}
use Prim.Native.Nat.{ℕ, ◌*◌}
use mathlib.Core.List.{List}
use Rattle.keys.specs.declared.Sought.TheVariants.{Equal}
use Rattle.keys.specs.Records.{keys_of}
use Rattle.keys.specs.Search.{first_that}
use Rattle.le.proofs.FieldLaws.{part_is}
use Rattle.columns.specs.Columns.{column_shape, column_bytes, tags, seat_of}
use Rattle.columns.proofs.seat_of.Goals as goal

pub returns : goal.returns
unfolding seat_of tags column_bytes
returns c =
    let table = c.args.table.now in
    let count = c.column_count-count.ensures.0 in
    c.first_that.ensures
    ∙ ap₂ (λ (n : ℕ) (s : List ℕ). first_that Equal c.args.tag (keys_of column_shape n s)) count
    (part_is table 22 (8 * c.column_count-count.result) ∙ ap (λ (n : ℕ). part table 22 (8 * n)) count)
