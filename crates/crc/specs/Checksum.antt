-- Document 01, "Header": the checksum of 003, 5.3. Assumes nothing: these are definitions.
use Rattle.std.specs.Prelude.{ℕ, List, [], ◌∷◌}
use Rattle.std.specs.Int.Bits.{bit_xor}
use Rattle.remainder.specs.Remainder.{bits}

-- the checksum c, taken on over more bytes: each is added without carry at the low end, and eight bits fall out
unfoldable pub checksum_from : ℕ → List ℕ → ℕ
checksum_from c [] = c
checksum_from c (b ∷ s) = checksum_from (bits 8 (bit_xor c b)) s

-- start 0, no inversion at either end
unfoldable pub checksum : List ℕ → ℕ
checksum s = checksum_from 0 s
