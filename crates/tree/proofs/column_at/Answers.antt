use mathlib.Core.Path.{sym, ◌∙◌}
use Rattle.le.proofs.FieldLaws.{field_part}
use Rattle.tree.proofs.column_at.Goals as goal

pub returns : goal.returns
returns c =
    let a = c.args in
    c.field_of.ensures.0 ∙ sym (field_part a.page.now a.place a.size a.column.place a.column.width c.requires.1.ends)
