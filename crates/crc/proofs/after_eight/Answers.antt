use Rattle.std.proofs.Common.{◌≡◌, ℕ, ◌+◌, ◌*◌, ◌/◌, ◌%◌, List, get_or, ap, arith}
use native.Mathlib.Nat.{div-one}
use lib.Bits.{xor_assoc, xor_zero_r}
use Rattle.remainder.specs.Remainder.{table_entry}
use Rattle.remainder.proofs.Remainders.{spread, bits_spread}
use Rattle.crc.proofs.after_eight.Goals as goal

pub returns : goal.returns
unfolding spread
returns c =
    let low = c.args.low in
    let high = c.args.high in
    let x = low + 4294967296 * high in
    let upper = λ (i : ℕ). ap (λ (s : List ℕ). get_or s i 0) c.to_le_bytes.ensures in
    let lower = λ (i : ℕ). ap (λ (s : List ℕ). get_or s i 0) c.to_le_bytes-2.ensures in
    let a : x % 256 ≡ low % 256 = omega arith in
    let b : x / 256 % 256 ≡ low / 256 % 256 = omega arith in
    let c' : x / 65536 % 256 ≡ low / 65536 % 256 = omega arith in
    let d : x / 16777216 % 256 ≡ low / 16777216 % 256 = omega arith in
    let e : x / 4294967296 % 256 ≡ high % 256 = omega arith in
    let f : x / 1099511627776 % 256 ≡ high / 256 % 256 = omega arith in
    let g : x / 281474976710656 % 256 ≡ high / 65536 % 256 = omega arith in
    let h : x / 72057594037927936 % 256 ≡ high / 16777216 % 256 = omega arith in
    simp xor_assoc
    (cc (bits_spread 8 0 1 x (omega arith), div-one x, lower 0, lower 1, lower 2, lower 3, upper 0, upper 1, upper 2, upper 3, xor_zero_r (table_entry 0 (high / 16777216 % 256))))
