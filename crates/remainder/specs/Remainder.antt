-- Document 01, "Header", and 003, 5.3: what the checksum's polynomial leaves of a number. Assumes nothing: these are definitions.
use Rattle.std.specs.Prelude.{ℕ, zero, suc, ◌+◌, ◌*◌, ◌/◌, ◌%◌}
use Rattle.std.specs.Int.Bits.{bit_xor}

-- the reflected polynomial
abbrev pub polynomial : ℕ
polynomial = 0xEDB88320

-- one bit falls out at the low end; where it is 1 the polynomial is added without carry
unfoldable pub bit : ℕ → ℕ
bit c = bit_xor (c / 2) (c % 2 * polynomial)

unfoldable pub bits : ℕ → ℕ → ℕ
bits zero c = c
bits (suc n) c = bits n (bit c)

-- the eight tables of 003, 5.3, counted from 0, CrcTableOffset32, to 7, CrcTableOffset88: what 8, 16, .. 64 bits that fall out leave of a byte
unfoldable pub table_entry : ℕ → ℕ → ℕ
table_entry j b = bits (8 * (j + 1)) b
