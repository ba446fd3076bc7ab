-- Document 01, "Heap and properties": item numbers (19) and items. Assumes nothing: these are definitions.
use Rattle.std.specs.Prelude.{ℕ, ◌+◌, ◌-◌, ◌/◌, ◌%◌, ◌≤◌, ◌≡◌, Bool, ◌&&◌, List, [], ◌∷◌, ◌++◌, leb, eqb, length, Result, Ok, Err}
use Rattle.le.specs.Bytes.{part}
use Rattle.refusal.specs.declared.Refusal.{Refusal}
use Rattle.refusal.specs.declared.Fault.TheVariants.{HeapItem}
use Rattle.refusal.specs.Order.{Verdict, ◌at◌, Rule, rule, in_order, after}
use Rattle.heap.specs.Shape.{map_offset, item_count, offset, shape_rules}
use Rattle.heap.specs.declared.Span.{Span}

-- "Item number: low 5 bits kind, next 11 index, high 16 block"
unfoldable pub item_kind : ℕ → ℕ
item_kind item = item % 32

unfoldable pub item_index : ℕ → ℕ
item_index item = item / 32 % 2048

unfoldable pub item_block : ℕ → ℕ
item_block item = item / 65536

-- "19 unless kind 0, block 0, index 1 to a"
unfoldable pub item_fits : List ℕ → ℕ → Bool
item_fits block item =
    eqb (item_kind item) 0 && eqb (item_block item) 0 && leb 1 (item_index item) && leb (item_index item) (item_count block)

-- the same as plain facts
pub record Numbered (block : List ℕ) (item : ℕ) : Type 0 where
  pub plain : item_kind item ≡ 0
  pub here : item_block item ≡ 0
  pub from : 1 ≤ item_index item
  pub to : item_index item ≤ item_count block

-- refusal 19
abbrev pub bad_item : Refusal
bad_item = HeapItem at 0

-- the test of an item: the heap's shape, then the item's number
unfoldable pub item_rules : List ℕ → ℕ → List Rule
item_rules block item = shape_rules block ++ rule (item_fits block item) bad_item ∷ []

unfoldable pub item_test : List ℕ → ℕ → Verdict
item_test block item = in_order (item_rules block item)

-- "Item i runs from the i-th offset to the next one"
unfoldable pub item_start : List ℕ → ℕ → ℕ
item_start block item = offset block (item_index item)

unfoldable pub item_end : List ℕ → ℕ → ℕ
item_end block item = offset block (item_index item + 1)

unfoldable pub item_length : List ℕ → ℕ → ℕ
item_length block item = item_end block item - item_start block item

unfoldable pub item_part : List ℕ → ℕ → List ℕ
item_part block item = part block (item_start block item) (item_length block item)

-- "the part call gives an empty part for whatever the test refuses"
unfoldable pub item_or : List ℕ → ℕ → List ℕ
item_or block item = after (λ refusal. []) (item_test block item) (item_part block item)

-- where the item starts and how long it is, or the test's refusal
unfoldable pub item_span : List ℕ → ℕ → Result Span Refusal
item_span block item = after Err (item_test block item) (Ok (record { start = (item_start block item); length = (item_length block item) }))

-- where an item lies: behind the heap's front, before the map, and so inside the block
pub record Lies (block : List ℕ) (item : ℕ) : Type 0 where
  pub front : 12 ≤ item_start block item
  pub map : item_start block item + item_length block item ≤ map_offset block
  pub inside : item_start block item + item_length block item ≤ length block
  pub whole : length (item_part block item) ≡ item_length block item
