use Rattle.std.proofs.Common.{ℕ, ◌+◌, ◌*◌, sym, ap₂, ◌∙◌, arith}
use lib.Bits.{bit_xor}
use Rattle.le.specs.Bytes.{Bytes}
use Rattle.remainder.specs.Remainder.{bits}
use Rattle.crc.proofs.ChecksumLaws.{checksum_eight}
use Rattle.crc.proofs.eight_on.Goals as goal

pub returns : goal.returns
returns c =
    let a = c.args in
    let known : Bytes a.eight.now = record { below = λ k l. c.fits-eight k } in
    c.after_eight.ensures
    ∙ ap₂ (λ (x y : ℕ). bits 64 (bit_xor a.sum x + 4294967296 * y)) c.field4.ensures c.field4-2.ensures
    ∙ sym (checksum_eight a.sum a.eight.now (omega arith) known c.told-eight)
