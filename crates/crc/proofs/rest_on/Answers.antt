use mathlib.Core.Path.{◌≡◌, refl, sym, ap, ap₂, ◌∙◌}
use Prim.Native.Nat.{ℕ, ◌+◌, ◌*◌, ◌-◌, ◌/◌, ◌%◌, ◌^◌}
use native.Mathlib.Omega.{arith}
use lib.Bits.{bit_xor}
use lib.ListN.{length}
use Rattle.le.specs.Bytes.{Bytes, field}
use Rattle.remainder.specs.Remainder.{bits}
use Rattle.crc.proofs.ChecksumLaws.{checksum_rest, checksum_done}
use Rattle.crc.proofs.rest_on.Goals as goal

halves : (x : ℕ) → x % 4294967296 + 4294967296 * (x / 4294967296) ≡ x
halves x = omega arith

pub returns-then-n-eq0 : goal.returns-then-n-eq0
returns-then-n-eq0 c =
    let a = c.args in
    sym (checksum_done a.sum a.bytes.now 0 (omega arith))

pub returns : goal.returns
returns c =
    let a = c.args in
    let s = a.bytes.now in
    let n = length s in
    let known : Bytes s = record { below = λ k l. omega (arith, c.type_inv.bytes k) } in
    let moved = λ (x y : ℕ). bit_xor x y * 2 ^ (64 - 8 * n) % 2 ^ 64 in
    ap₂ (λ (x y : ℕ). bit_xor (x / 2 ^ (8 * n)) y)
    c.from-2.ensures
    (c.after_eight.ensures ∙ ap (bits 64) (halves (moved c.from.result c.field_of.result)) ∙ ap₂ (λ (x y : ℕ). bits 64 (moved x y)) c.from.ensures c.field_of.ensures.0)
    ∙ sym (checksum_rest a.sum s (moved a.sum (field s 0 n)) known c.requires refl)
