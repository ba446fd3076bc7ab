-- Document 01, "Heap and properties", first paragraph: the shape of a heap (18). Assumes nothing: these are definitions.
use Rattle.std.specs.Prelude.{ℕ, zero, suc, ◌+◌, ◌*◌, ◌≤◌, ◌≡◌, Bool, true, ◌&&◌, List, [], ◌∷◌, leb, eqb, length}
use Rattle.le.specs.Bytes.{byte, field}
use Rattle.refusal.specs.declared.Refusal.{Refusal}
use Rattle.refusal.specs.declared.Fault.TheVariants.{HeapShape}
use Rattle.refusal.specs.Order.{Verdict, ◌at◌, Rule, rule, in_order}

-- "Bytes: map offset 2, EC hex, client kind, user root 4, fill levels 4"
unfoldable pub map_offset : List ℕ → ℕ
map_offset block = field block 0 2

unfoldable pub client_kind : List ℕ → ℕ
client_kind block = byte block 3

unfoldable pub user_root : List ℕ → ℕ
user_root block = field block 4 4

-- "At the map offset: count a 2, freed 2 (ignored), then a + 1 offsets of two bytes"
unfoldable pub item_count : List ℕ → ℕ
item_count block = field block (map_offset block) 2

-- the i-th of these offsets, counted from 1
unfoldable pub offset : List ℕ → ℕ → ℕ
offset block i = field block (map_offset block + 2 + 2 * i) 2

-- where the map ends
abbrev pub map_end : List ℕ → ℕ
map_end block = map_offset block + 4 + 2 * (item_count block + 1)

-- "offsets never fall": none of the first n offsets is above the one behind it
unfoldable pub never_fall : List ℕ → ℕ → Bool
never_fall block zero = true
never_fall block (suc n) = never_fall block n && leb (offset block (suc n)) (offset block (suc n + 1))

-- "offsets never fall, first at least 12, last at most the map offset"
unfoldable pub offsets_fit : List ℕ → Bool
offsets_fit block =
    never_fall block (item_count block)
    && leb 12 (offset block 1)
    && leb (offset block (item_count block + 1)) (map_offset block)

-- refusal 18
abbrev pub bad_shape : Refusal
bad_shape = HeapShape at 0

-- "18 unless: block length in bounds; byte 2 is EC; map offset at least 12; the map ends inside the block; a at most 2,047; ..."
-- Document 02, 7/13: "Heaps may reach 8,180 bytes."
unfoldable pub shape_rules : List ℕ → List Rule
shape_rules block =
    rule (leb 12 (length block) && leb (length block) 8180) bad_shape
    ∷ rule (eqb (byte block 2) 0xEC) bad_shape
    ∷ rule (leb 12 (map_offset block)) bad_shape
    ∷ rule (leb (map_end block) (length block)) bad_shape
    ∷ rule (leb (item_count block) 2047) bad_shape
    ∷ rule (offsets_fit block) bad_shape
    ∷ []

-- the test of a heap's shape
unfoldable pub heap_test : List ℕ → Verdict
heap_test block = in_order (shape_rules block)

-- the same rules as plain facts, with no order among them
pub record Heap (block : List ℕ) : Type 0 where
  pub long : 12 ≤ length block
  pub short : length block ≤ 8180
  pub mark : byte block 2 ≡ 0xEC
  pub map : 12 ≤ map_offset block
  pub inside : map_end block ≤ length block
  pub few : item_count block ≤ 2047
  pub climb : (i : ℕ) → 1 ≤ i → i ≤ item_count block → offset block i ≤ offset block (i + 1)
  pub first : 12 ≤ offset block 1
  pub last : offset block (item_count block + 1) ≤ map_offset block
