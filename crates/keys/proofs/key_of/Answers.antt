use Prim.Native.Nat.{ℕ, ◌*◌}
use mathlib.Core.Path.{sym, ap, ◌∙◌}
use Rattle.le.specs.Bytes.{field}
use Rattle.keys.specs.Records.{significant}
use Rattle.keys.proofs.RecordLaws.{key_is}
use Rattle.keys.proofs.key_of.Goals as goal

pub returns : goal.returns
returns c =
    let a = c.args in
    let pre = c.requires in
    c.significant.ensures
    ∙ ap (significant a.shape.reserved) (c.field_of.ensures.0 ∙ ap (λ (width : ℕ). field a.bytes.now (a.i * a.shape.size) width) pre.1)
    ∙ sym (key_is a.shape a.bytes.now a.i pre.0.key)
