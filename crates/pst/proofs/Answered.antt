-- What upper layers may know of each public call: its outcome fixes the answer, as the layer that makes it says it. Assumes nothing.
use Prim.Native.Nat.{ℕ}
use mathlib.Core.Path.{◌≡◌, refl}
use mathlib.Core.List.{List}
use lib.ListN.{length}
use Rattle.crc.specs.Checksum.{checksum}
use Rattle.coding.specs.Coding.{method_fits, encoded, decoded}
use Rattle.header.specs.Header.{edition_of, nodes_of, blocks_of, header_of}
use Rattle.page.specs.Page.{signature}
use Rattle.tree.specs.Tree.{tree_fits}
use Rattle.tree.specs.Answers.{node_of, block_of, next_node_of, next_block_of}
use Rattle.nodelist.specs.Places.{list_fits, area_of}
use Rattle.block.specs.Block.{room, room32, test_of, read_of, filled_of}
use Rattle.node.specs.Content.{node_content, answer_to, filled_by}
use Rattle.heap.specs.Shape.{heap_test}
use Rattle.heap.specs.Items.{item_test, item_span}
use Rattle.property.specs.Lookup.{property}
use Rattle.table.specs.Says.{table_of, column_of}
use Rattle.table.specs.RowIndex.{row_index, row_index32, row_of}
use Rattle.cells.specs.Rows.{count_of}
use Rattle.cells.specs.Cells.{cell_of}
use Rattle.rowcells.specs.RowCells.{row_read, row_area}
use Rattle.pst.specs.Meaning.{verdict_means, header_means, node_means, block_means, sized_means, data_means, span_means, property_means, table_means, column_means, count_means, cell_means, row_means, cells_means}
use Rattle.pst.specs.Outcomes.{header_outcome, nodes_outcome, blocks_outcome, node_outcome, list_outcome, list_area, block_outcome, next_node_outcome, next_block_outcome, test_outcome, read_outcome, data_outcome, code_outcome, heap_outcome, test_item_outcome, span_outcome, property_outcome, table_outcome, column_outcome, count_outcome, cell_outcome, row_outcome, row32_outcome, read_row_outcome, read_row_area, read_buffer, data_buffer, encode_buffer, decode_buffer, checksum_outcome, signature_outcome, room_outcome, room32_outcome}
use Rattle.pst.proofs.Injective.{verdict_injective, header_injective, node_injective, block_injective, sized_injective, data_injective, span_injective, property_injective, table_injective, column_injective, count_injective, cell_injective, row_injective, cells_injective}
use Rattle.std.specs.Prelude.{Option, Result}
use Rattle.refusal.specs.Order.{Verdict}
use Rattle.refusal.specs.declared.Refusal.{Refusal}
use Rattle.header.specs.declared.Header.{Header}
use Rattle.tree.specs.declared.Found.{Found}
use Rattle.tree.specs.declared.Node.{Node}
use Rattle.tree.specs.declared.Listed.{Listed}
use Rattle.heap.specs.declared.Span.{Span}
use Rattle.property.specs.declared.Property.{Property}
use Rattle.table.specs.declared.Table.{Table}
use Rattle.columns.specs.declared.Column.{Column}
use Rattle.cells.specs.declared.Cell.{Cell}

pub header_is : (image : List ℕ) (answer : Result Header Refusal) → header_means answer ≡ header_outcome image → answer ≡ header_of image
unfolding header_outcome
header_is image answer e = header_injective answer _ e

pub nodes_is : (image : List ℕ) (answer : Verdict) → verdict_means answer ≡ nodes_outcome image → answer ≡ tree_fits (nodes_of image) image
unfolding nodes_outcome
nodes_is image answer e = verdict_injective answer _ e

pub blocks_is : (image : List ℕ) (answer : Verdict) → verdict_means answer ≡ blocks_outcome image → answer ≡ tree_fits (blocks_of image) image
unfolding blocks_outcome
blocks_is image answer e = verdict_injective answer _ e

pub node_is : (image : List ℕ) (node : ℕ) (answer : Result (Found Node) Refusal) → node_means answer ≡ node_outcome image node → answer ≡ node_of (nodes_of image) image node
unfolding node_outcome
node_is image node answer e = node_injective answer _ e

pub list_is : (nodes area : List ℕ) (answer : Verdict) → verdict_means answer ≡ list_outcome nodes area → answer ≡ list_fits (length nodes) (length area)
unfolding list_outcome
list_is nodes area answer e = verdict_injective answer _ e

pub block_is : (image : List ℕ) (block : ℕ) (answer : Result (Found Listed) Refusal) → block_means answer ≡ block_outcome image block → answer ≡ block_of (blocks_of image) image block
unfolding block_outcome
block_is image block answer e = block_injective answer _ e

pub next_node_is : (image : List ℕ) (from : ℕ) (answer : Result (Found Node) Refusal) → node_means answer ≡ next_node_outcome image from → answer ≡ next_node_of (nodes_of image) image from
unfolding next_node_outcome
next_node_is image from answer e = node_injective answer _ e

pub next_block_is : (image : List ℕ) (from : ℕ) (answer : Result (Found Listed) Refusal) → block_means answer ≡ next_block_outcome image from → answer ≡ next_block_of (blocks_of image) image from
unfolding next_block_outcome
next_block_is image from answer e = block_injective answer _ e

pub test_is : (image : List ℕ) (block : ℕ) (answer : Result ℕ Refusal) → sized_means answer ≡ test_outcome image block → answer ≡ test_of (edition_of image) image block
unfolding test_outcome
test_is image block answer e = sized_injective answer _ e

pub read_is : (image : List ℕ) (block : ℕ) (out : List ℕ) (answer : Result ℕ Refusal) → sized_means answer ≡ read_outcome image block out → answer ≡ read_of (edition_of image) image block (length out)
unfolding read_outcome
read_is image block out answer e = sized_injective answer _ e

pub data_is : (image : List ℕ) (node : ℕ) (out : List ℕ) (answer : Result (Option ℕ) Refusal) → data_means answer ≡ data_outcome image node out → answer ≡ answer_to (node_content (edition_of image) image node) (length out)
unfolding data_outcome
data_is image node out answer e = data_injective answer _ e

pub code_is : (method : ℕ) (answer : Verdict) → verdict_means answer ≡ code_outcome method → answer ≡ method_fits method
unfolding code_outcome
code_is method answer e = verdict_injective answer _ e

pub heap_is : (block : List ℕ) (answer : Verdict) → verdict_means answer ≡ heap_outcome block → answer ≡ heap_test block
unfolding heap_outcome
heap_is block answer e = verdict_injective answer _ e

pub test_item_is : (block : List ℕ) (item : ℕ) (answer : Verdict) → verdict_means answer ≡ test_item_outcome block item → answer ≡ item_test block item
unfolding test_item_outcome
test_item_is block item answer e = verdict_injective answer _ e

pub item_is : (block : List ℕ) (item : ℕ) (answer : Result Span Refusal) → span_means answer ≡ span_outcome block item → answer ≡ item_span block item
unfolding span_outcome
item_is block item answer e = span_injective answer _ e

pub property_is : (block : List ℕ) (id : ℕ) (answer : Result (Option Property) Refusal) → property_means answer ≡ property_outcome block id → answer ≡ property block id
unfolding property_outcome
property_is block id answer e = property_injective answer _ e

pub table_is : (block : List ℕ) (answer : Result Table Refusal) → table_means answer ≡ table_outcome block → answer ≡ table_of block
unfolding table_outcome
table_is block answer e = table_injective answer _ e

pub column_is : (block : List ℕ) (index : ℕ) (answer : Result (Option Column) Refusal) → column_means answer ≡ column_outcome block index → answer ≡ column_of block index
unfolding column_outcome
column_is block index answer e = column_injective answer _ e

pub count_is : (block rows : List ℕ) (answer : Result ℕ Refusal) → count_means answer ≡ count_outcome block rows → answer ≡ count_of block rows
unfolding count_outcome
count_is block rows answer e = count_injective answer _ e

pub cell_is : (block rows : List ℕ) (row tag : ℕ) (answer : Result (Option Cell) Refusal) → cell_means answer ≡ cell_outcome block rows row tag → answer ≡ cell_of block rows row tag
unfolding cell_outcome
cell_is block rows row tag answer e = cell_injective answer _ e

pub row_is : (block : List ℕ) (id : ℕ) (answer : Result (Option ℕ) Refusal) → row_means answer ≡ row_outcome block id → answer ≡ row_of row_index block id
unfolding row_outcome
row_is block id answer e = row_injective answer _ e

pub row32_is : (block : List ℕ) (id : ℕ) (answer : Result (Option ℕ) Refusal) → row_means answer ≡ row32_outcome block id → answer ≡ row_of row_index32 block id
unfolding row32_outcome
row32_is block id answer e = row_injective answer _ e

pub read_row_is : (block rows : List ℕ) (row : ℕ) (area : List ℕ) (answer : Result (Option ℕ) Refusal) → cells_means answer ≡ read_row_outcome block rows row area → answer ≡ row_read block rows row (length area)
unfolding read_row_outcome
read_row_is block rows row area answer e = cells_injective answer _ e

-- the buffers at exit, and the calls that answer a number
pub row_area_is : (block rows : List ℕ) (row : ℕ) (area : List ℕ) → read_row_area block rows row area ≡ row_area block rows row area
unfolding read_row_area
row_area_is block rows row area = refl

pub list_area_is : (image nodes area : List ℕ) → list_area image nodes area ≡ area_of (nodes_of image) image nodes area
unfolding list_area
list_area_is image nodes area = refl

pub read_buffer_is : (image : List ℕ) (block : ℕ) (out : List ℕ) → read_buffer image block out ≡ filled_of (edition_of image) image block out
unfolding read_buffer
read_buffer_is image block out = refl

pub data_buffer_is : (image : List ℕ) (node : ℕ) (out : List ℕ) → data_buffer image node out ≡ filled_by (node_content (edition_of image) image node) out
unfolding data_buffer
data_buffer_is image node out = refl

pub encode_buffer_is : (method block : ℕ) (bytes : List ℕ) → encode_buffer method block bytes ≡ encoded method block bytes
unfolding encode_buffer
encode_buffer_is method block bytes = refl

pub decode_buffer_is : (method block : ℕ) (bytes : List ℕ) → decode_buffer method block bytes ≡ decoded method block bytes
unfolding decode_buffer
decode_buffer_is method block bytes = refl

pub checksum_is : (bytes : List ℕ) → checksum_outcome bytes ≡ checksum bytes
unfolding checksum_outcome
checksum_is bytes = refl

pub signature_is : (offset number : ℕ) → signature_outcome offset number ≡ signature offset number
unfolding signature_outcome
signature_is offset number = refl

pub room_is : (size : ℕ) → room_outcome size ≡ room size
unfolding room_outcome
room_is size = refl

pub room32_is : (size : ℕ) → room32_outcome size ≡ room32 size
unfolding room32_outcome
room32_is size = refl
