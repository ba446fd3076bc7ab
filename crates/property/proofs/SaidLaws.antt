-- What is answered for the leaf record at a place. Assumes nothing.
use Prim.Native.Nat.{ℕ, ◌+◌}
use mathlib.Core.Path.{◌≡◌, sym, ap₂}
use mathlib.Core.List.{List}
use native.Mathlib.Omega.{arith}
use Rattle.le.specs.Bytes.{part, field}
use Rattle.le.proofs.FieldLaws.{field_part}
use Rattle.property.specs.Lookup.{value_of}

pub value_at : (block : List ℕ) (place : ℕ)
    → value_of block (field block (place + 2) 2) (field block (place + 4) 4) ≡ value_of block (field (part block place 8) 2 2) (field (part block place 8) 4 4)
value_at block place =
    ap₂ (value_of block) (sym (field_part block place 8 2 2 (omega arith))) (sym (field_part block place 8 4 4 (omega arith)))
