-- Document 01, "Both sides of each line": the marked cases as a single table under a single statement. Assumes nothing.
use mathlib.Core.Path.{◌≡◌, ap}
use mathlib.Core.List.{List, [], ◌∷◌}
use Prim.Native.Nat.{ℕ, ◌/◌, ◌%◌, ◌^◌}
use lib.Bits.{bit_xor, xor_self}
use Rattle.refusal.specs.Number.{number}
use Rattle.refusal.specs.Order.{Verdict, demand}
use Rattle.remainder.specs.Remainder.{bits, bit}
use Rattle.crc.specs.Checksum.{checksum, checksum_from}
use Rattle.page.specs.Page.{signature}
use Rattle.block.specs.Block.{room, room_for}
use Rattle.edition.specs.Editions.{trailer64}
use Rattle.heap.specs.Items.{item_kind, item_index, item_block, item_fits, bad_item}
use Rattle.std.specs.Prelude.{Ok, Err}

-- what a rule gives, beside what document 01 says that it gives
record Case : Type 0 where
  gives : ℕ
  should : ℕ

case : ℕ → ℕ → Case
case g s = record { gives = g; should = s }

-- the number of a refusal, 0 for an acceptance
refused_with : Verdict → ℕ
refused_with (Ok tt) = 0
refused_with (Err r) = number r.fault

-- of any block, and of any offset and number that are equal
cases : List ℕ → ℕ → List Case
cases block same =
    case (room 1) 64
    ∷ case (room 48) 64
    ∷ case (room 49) 128
    ∷ case (room 4092) 4160
    ∷ case (room 8176) 8192
    ∷ case (signature 0x908A00 0x1518) 0x9F88
    ∷ case (signature same same) 0
    ∷ case (signature (2 ^ 32) 0) 0
    ∷ case (checksum []) 0
    ∷ case (checksum (0x00 ∷ [])) 0
    ∷ case (checksum (0x01 ∷ [])) 0x77073096
    ∷ case (checksum (0x80 ∷ [])) 0xEDB88320
    ∷ case (item_index 0x20) 1
    ∷ case (item_index 0xFFE0) 2047
    ∷ case (refused_with (demand (item_fits block 0) bad_item)) 19
    ∷ []

given : List Case → List ℕ
given [] = []
given (c ∷ cs) = c.gives ∷ given cs

wanted : List Case → List ℕ
wanted [] = []
wanted (c ∷ cs) = c.should ∷ wanted cs

-- the one row that is not computed: what is equal falls out
signs_nothing : (same : ℕ) → signature same same ≡ 0
unfolding signature
signs_nothing same = ap (λ (x : ℕ). bit_xor (x % 65536) (x / 65536 % 65536)) (xor_self same)

marked : (block : List ℕ) (same : ℕ) → given (cases block same) ≡ wanted (cases block same)
unfolding given wanted cases case room room_for trailer64 checksum checksum_from bits bit signature item_index refused_with demand item_fits item_kind item_block
marked block same =
    ap
    (λ (x : ℕ). 64 ∷ 64 ∷ 128 ∷ 4160 ∷ 8192 ∷ 0x9F88 ∷ x ∷ 0 ∷ 0 ∷ 0 ∷ 0x77073096 ∷ 0xEDB88320 ∷ 1 ∷ 2047 ∷ 19 ∷ [])
    (signs_nothing same)
