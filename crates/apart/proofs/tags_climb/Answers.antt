use mathlib.Core.Path.{sym, ap, ap₂, ◌∙◌}
use mathlib.Core.List.{List}
use Prim.Native.Nat.{ℕ, ◌*◌}
use Rattle.le.specs.Bytes.{part}
use Rattle.le.proofs.FieldLaws.{part_is}
use Rattle.keys.specs.Records.{keys_of}
use Rattle.keys.specs.Range.{ordered}
use Rattle.columns.specs.Columns.{column_shape, column_bytes, tags}
use Rattle.apart.proofs.TagLaws.{climb_differ}
use Rattle.apart.proofs.tags_climb.Goals as goal
use Rattle.std.specs.Prelude.{None}

pub returns : goal.returns
unfolding tags column_bytes
returns c =
    let a = c.args in
    let t = a.table.now in
    let count = c.column_count-count.ensures.0 in
    let many = c.column_count-count.result in
    λ e. climb_differ t c.requires c.check_keys.result
    (c.check_keys.ensures
    ∙ ap₂ (λ (n : ℕ) (s : List ℕ). ordered (record { from = 0; to = None }) (keys_of column_shape n s)) count (part_is t 22 (8 * many) ∙ ap (λ (n : ℕ). part t 22 (8 * n)) count))
    (sym c.is_climbing.ensures ∙ e)
