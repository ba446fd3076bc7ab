-- Document 01, "Blocks and their encoding" (003, 5.1 and 5.2). Assumes nothing: these are definitions.
use Rattle.std.specs.Prelude.{ℕ, ◌+◌, ◌-◌, ◌/◌, ◌%◌, cond, List, [], ◌∷◌, map, ◌==◌, bit_xor, nat_le}
use Rattle.refusal.specs.declared.Fault.TheVariants.{Encoding}
use Rattle.refusal.specs.Order.{Verdict, ◌at◌, demand}
use Rattle.coding.specs.Table.{R, S, I}

-- "all modulo 256"
abbrev pub plus : ℕ → ℕ → ℕ
plus a b = (a + b) % 256

abbrev pub minus : ℕ → ℕ → ℕ
minus a b = (a + (256 - b)) % 256

-- "add w's low byte, R, add w's high byte, S, subtract the high byte, I, subtract the low byte"
unfoldable pub cyclic_byte : ℕ → ℕ → ℕ
cyclic_byte w b = minus (I (minus (S (plus (R (plus b (w % 256))) (w / 256))) (w / 256))) (w % 256)

-- "then w grows by one modulo 65,536 for the next byte"
unfoldable pub cyclic : ℕ → List ℕ → List ℕ
cyclic w [] = []
cyclic w (b ∷ s) = cyclic_byte w b ∷ cyclic ((w + 1) % 65536) s

-- "w from the low 32 bits of the block number (its low half xor its high half)"
unfoldable pub word : ℕ → ℕ
word block = bit_xor (block % 65536) (block / 65536 % 65536)

-- method 1 (permute): each byte by the table f; method 2 (cyclic): same steps both ways; method 0 (none) leaves the bytes
unfoldable pub coded : (ℕ → ℕ) → ℕ → ℕ → List ℕ → List ℕ
coded f method block s = cond (method == 1) (map f s) (cond (method == 2) (cyclic (word block) s) s)

-- "Permute: R to encode, I to decode"
abbrev pub encoded : ℕ → ℕ → List ℕ → List ℕ
encoded = coded R

abbrev pub decoded : ℕ → ℕ → List ℕ → List ℕ
decoded = coded I

-- "The encoding and decoding calls on their own refuse a method over 2 with 5 and place 0, the buffer unchanged"
unfoldable pub method_fits : ℕ → Verdict
method_fits method = demand (nat_le method 2) (Encoding at 0)
