-- The outcome of each public call, and each buffer at exit, as the rules give them; of a call on an image by the rules of its edition. Assumes nothing: these are definitions.
use Rattle.std.specs.Prelude.{ℕ, List, length}
use Rattle.crc.specs.Checksum.{checksum}
use Rattle.coding.specs.Coding.{method_fits, encoded, decoded}
use Rattle.header.specs.Header.{edition_of, nodes_of, blocks_of, header_of}
use Rattle.page.specs.Page.{signature}
use Rattle.tree.specs.Tree.{tree_fits}
use Rattle.tree.specs.Answers.{node_of, block_of, next_node_of, next_block_of}
use Rattle.nodelist.specs.Places.{list_fits, area_of}
use Rattle.block.specs.Block.{room, room32, test_of, read_of, filled_of}
use Rattle.node.specs.Content.{node_content, answer_to, filled_by}
use Rattle.heap.specs.Shape.{heap_test}
use Rattle.heap.specs.Items.{item_test, item_or, item_span}
use Rattle.property.specs.Lookup.{property}
use Rattle.table.specs.Says.{table_of, column_of}
use Rattle.table.specs.RowIndex.{row_index, row_index32, row_of}
use Rattle.cells.specs.Rows.{count_of}
use Rattle.cells.specs.Cells.{cell_of}
use Rattle.rowcells.specs.RowCells.{row_read, row_area}
use Rattle.pst.specs.Meaning.{Meaning, verdict_means, header_means, node_means, block_means, sized_means, data_means, span_means, property_means, table_means, column_means, count_means, cell_means, row_means, cells_means}

unfoldable pub header_outcome : List ℕ → Meaning
header_outcome image = header_means (header_of image)

-- the whole-tree checks
unfoldable pub nodes_outcome : List ℕ → Meaning
nodes_outcome image = verdict_means (tree_fits (nodes_of image) image)

unfoldable pub blocks_outcome : List ℕ → Meaning
blocks_outcome image = verdict_means (tree_fits (blocks_of image) image)

-- the lookups
unfoldable pub node_outcome : List ℕ → ℕ → Meaning
node_outcome image node = node_means (node_of (nodes_of image) image node)

unfoldable pub block_outcome : List ℕ → ℕ → Meaning
block_outcome image block = block_means (block_of (blocks_of image) image block)

-- a list of nodes, document 02, 3/13: whether it is taken; and the area
unfoldable pub list_outcome : List ℕ → List ℕ → Meaning
list_outcome nodes area = verdict_means (list_fits (length nodes) (length area))

unfoldable pub list_area : List ℕ → List ℕ → List ℕ → List ℕ
list_area image nodes area = area_of (nodes_of image) image nodes area

-- the listings, which go beyond document 01
unfoldable pub next_node_outcome : List ℕ → ℕ → Meaning
next_node_outcome image from = node_means (next_node_of (nodes_of image) image from)

unfoldable pub next_block_outcome : List ℕ → ℕ → Meaning
next_block_outcome image from = block_means (next_block_of (blocks_of image) image from)

-- 12 to 15 after what the lookup refuses
unfoldable pub test_outcome : List ℕ → ℕ → Meaning
test_outcome image block = sized_means (test_of (edition_of image) image block)

-- the same, then 17; and the buffer
unfoldable pub read_outcome : List ℕ → ℕ → List ℕ → Meaning
read_outcome image block out = sized_means (read_of (edition_of image) image block (length out))

unfoldable pub read_buffer : List ℕ → ℕ → List ℕ → List ℕ
read_buffer image block out = filled_of (edition_of image) image block out

-- the data of a node, and the buffer
unfoldable pub data_outcome : List ℕ → ℕ → List ℕ → Meaning
data_outcome image node out = data_means (answer_to (node_content (edition_of image) image node) (length out))

unfoldable pub data_buffer : List ℕ → ℕ → List ℕ → List ℕ
data_buffer image node out = filled_by (node_content (edition_of image) image node) out

-- encoding and decoding answer alike
unfoldable pub code_outcome : ℕ → Meaning
code_outcome method = verdict_means (method_fits method)

unfoldable pub encode_buffer : ℕ → ℕ → List ℕ → List ℕ
encode_buffer method block bytes = encoded method block bytes

unfoldable pub decode_buffer : ℕ → ℕ → List ℕ → List ℕ
decode_buffer method block bytes = decoded method block bytes

unfoldable pub heap_outcome : List ℕ → Meaning
heap_outcome block = verdict_means (heap_test block)

unfoldable pub test_item_outcome : List ℕ → ℕ → Meaning
test_item_outcome block item = verdict_means (item_test block item)

-- the bytes of the part
unfoldable pub item_outcome : List ℕ → ℕ → List ℕ
item_outcome block item = item_or block item

-- where the part stands
unfoldable pub span_outcome : List ℕ → ℕ → Meaning
span_outcome block item = span_means (item_span block item)

unfoldable pub property_outcome : List ℕ → ℕ → Meaning
property_outcome block id = property_means (property block id)

-- folder tables, document 02, 5/13; the rows' block is looked at only where the rows lie in a subnode
unfoldable pub table_outcome : List ℕ → Meaning
table_outcome block = table_means (table_of block)

unfoldable pub column_outcome : List ℕ → ℕ → Meaning
column_outcome block index = column_means (column_of block index)

unfoldable pub count_outcome : List ℕ → List ℕ → Meaning
count_outcome block rows = count_means (count_of block rows)

unfoldable pub cell_outcome : List ℕ → List ℕ → ℕ → ℕ → Meaning
cell_outcome block rows row tag = cell_means (cell_of block rows row tag)

unfoldable pub row_outcome : List ℕ → ℕ → Meaning
row_outcome block id = row_means (row_of row_index block id)

-- the same of a 32-bit file's table, document 02, 7/13
unfoldable pub row32_outcome : List ℕ → ℕ → Meaning
row32_outcome block id = row_means (row_of row_index32 block id)

-- all cells of a row, which goes beyond document 02; and the area
unfoldable pub read_row_outcome : List ℕ → List ℕ → ℕ → List ℕ → Meaning
read_row_outcome block rows row area = cells_means (row_read block rows row (length area))

unfoldable pub read_row_area : List ℕ → List ℕ → ℕ → List ℕ → List ℕ
read_row_area block rows row area = row_area block rows row area

unfoldable pub checksum_outcome : List ℕ → ℕ
checksum_outcome bytes = checksum bytes

unfoldable pub signature_outcome : ℕ → ℕ → ℕ
signature_outcome offset number = signature offset number

unfoldable pub room_outcome : ℕ → ℕ
room_outcome size = room size

-- the same in a 32-bit file, document 02, 7/13
unfoldable pub room32_outcome : ℕ → ℕ
room32_outcome size = room32 size
