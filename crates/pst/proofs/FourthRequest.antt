-- What request 4/13 promises of the checksum. Assumes nothing.
use mathlib.Core.Path.{◌≡◌, refl, ap, ◌∙◌}
use mathlib.Core.List.{List, [], ◌∷◌, ◌++◌}
use Prim.Native.Nat.{ℕ, ◌+◌, ◌*◌, ◌/◌, ◌%◌, ◌^◌, ◌<◌}
use native.Mathlib.Nat.{div-one}
use native.Mathlib.Omega.{arith}
use lib.ListN.{length}
use lib.Seq.{take-length}
use lib.Bits.{bit_xor, xor_zero_r}
use Rattle.le.specs.Bytes.{little_endian, part, field, Bytes}
use Rattle.remainder.specs.Remainder.{bits, table_entry}
use Rattle.remainder.proofs.Remainders.{spread, bits_spread}
use Rattle.crc.specs.Checksum.{checksum, checksum_from}
use Rattle.crc.proofs.ChecksumLaws.{checksum_append, checksum_word, checksum_done}
use Rattle.pst.specs.Outcomes.{checksum_outcome}
use Rattle.pst.specs.Demands.{FourthRequest}

whole_field : (s : List ℕ) → field s 0 (length s) ≡ little_endian s
unfolding field part
whole_field s = ap little_endian (take-length s)

at_once : (bytes more : List ℕ) → Bytes more → checksum_outcome (bytes ++ more) ≡ bits (8 * length more) (bit_xor (checksum_outcome bytes) (little_endian more))
unfolding checksum_outcome checksum
at_once bytes more b =
    let c = checksum_from 0 bytes in
    let n = length more in
    checksum_append 0 bytes more
    ∙ checksum_word n c more 0 b (omega arith)
    ∙ checksum_done (bits (8 * n) (bit_xor c (field more 0 n))) more (0 + n) (omega arith)
    ∙ ap (λ (x : ℕ). bits (8 * n) (bit_xor c x)) (whole_field more)

one_more : (bytes : List ℕ) (b : ℕ) → checksum_outcome (bytes ++ (b ∷ [])) ≡ bits 8 (bit_xor (checksum_outcome bytes) b)
unfolding checksum_outcome checksum checksum_from
one_more bytes b = checksum_append 0 bytes (b ∷ [])

nothing : checksum_outcome [] ≡ 0
unfolding checksum_outcome checksum checksum_from
nothing = refl

by_tables : (x : ℕ) → x < 2 ^ 64
    → bits 64 x
    ≡ bit_xor (table_entry 7 (x % 256)) (bit_xor (table_entry 6 (x / 256 % 256)) (bit_xor (table_entry 5 (x / 65536 % 256)) (bit_xor (table_entry 4 (x / 16777216 % 256))
    (bit_xor (table_entry 3 (x / 4294967296 % 256)) (bit_xor (table_entry 2 (x / 1099511627776 % 256)) (bit_xor (table_entry 1 (x / 281474976710656 % 256)) (table_entry 0 (x / 72057594037927936 % 256))))))))
unfolding spread
by_tables x h = cc (bits_spread 8 0 1 x (omega (arith, div-one x)), div-one x, xor_zero_r (table_entry 0 (x / 72057594037927936 % 256)))

pub fourth_request : FourthRequest
fourth_request = record { empty = nothing; bit_by_bit = one_more; at_once = at_once; by_tables = by_tables }
