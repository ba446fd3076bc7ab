use mathlib.Core.Path.{◌∙◌}
use native.Mathlib.Omega.{arith}
use Rattle.le.proofs.FieldLaws.{field_cut}
use Rattle.header.proofs.HeaderLaws.{held_none}
use Rattle.header.proofs.field_held.Goals as goal

pub returns-then-image-place : goal.returns-then-image-place
returns-then-image-place c = let a = c.args in held_none a.image.now a.place a.width (omega arith)

pub returns-then-held-width : goal.returns-then-held-width
returns-then-held-width c = let a = c.args in c.field_of.ensures.0 ∙ field_cut a.image.now a.place a.width (omega arith)
