-- Demand 1. Assumes nothing.
use Prim.Native.Nat.{ℕ}
use mathlib.Core.Path.{◌≡◌, refl}
use mathlib.Core.List.{List}
use lib.ListN.{length}
use Rattle.refusal.specs.Order.{Verdict, ◌then◌, in_order, after}
use Rattle.keys.specs.declared.Sought.TheVariants.{Equal, AtLeast}
use Rattle.coding.specs.Coding.{method_fits}
use Rattle.header.specs.Header.{edition_of, nodes_of, blocks_of, header_rules, header_fits, header_of}
use Rattle.tree.specs.Tree.{tree_rules, tree_fits}
use Rattle.tree.specs.Lookup.{search_rules}
use Rattle.tree.specs.Answers.{node_of, block_of, next_node_of, next_block_of}
use Rattle.tree.proofs.InOrder.{search_tried}
use Rattle.nodelist.specs.Places.{list_rules, list_fits}
use Rattle.block.specs.Tried.{test_rules, read_rules}
use Rattle.block.proofs.TriedLaws.{size_tried, read_tried}
use Rattle.node.specs.Tried.{data_rules}
use Rattle.node.proofs.TriedLaws.{data_tried}
use Rattle.heap.specs.Shape.{shape_rules, heap_test}
use Rattle.heap.specs.Items.{item_rules, item_test, item_span}
use Rattle.property.specs.Lookup.{property_rules}
use Rattle.property.proofs.TriedLaws.{property_refused_exactly}
use Rattle.table.specs.Context.{table_rules}
use Rattle.table.specs.RowIndex.{row_index, row_index32, row_rules}
use Rattle.table.proofs.RowLaws.{row_refused_exactly}
use Rattle.table.proofs.SaidLaws.{table_told_exactly, column_told_exactly}
use Rattle.cells.specs.Rows.{rows_rules}
use Rattle.cells.specs.Tried.{cell_rules}
use Rattle.cells.proofs.HeldLaws.{count_told_exactly}
use Rattle.cells.proofs.TriedLaws.{cell_refused_exactly}
use Rattle.rowcells.specs.RowCells.{read_row_rules}
use Rattle.rowcells.proofs.ReadLaws.{read_refused_exactly}
use Rattle.pst.specs.Meaning.{verdict_means, header_means, node_means, block_means, sized_means, data_means, span_means, property_means, table_means, column_means, count_means, cell_means, row_means, cells_means}
use Rattle.pst.specs.Outcomes.{header_outcome, nodes_outcome, blocks_outcome, node_outcome, list_outcome, block_outcome, next_node_outcome, next_block_outcome, test_outcome, read_outcome, data_outcome, code_outcome, heap_outcome, test_item_outcome, span_outcome, property_outcome, table_outcome, column_outcome, count_outcome, cell_outcome, row_outcome, row32_outcome, read_row_outcome}
use Rattle.pst.specs.Demands.{Told, method_rules, FirstDemand}
use Rattle.pst.proofs.Refusals.{verdict_told, header_verdict, header_told, node_told, block_told, sized_told, data_told, span_told, property_told, table_told, column_told, count_told, cell_told, row_told, cells_told}
use Rattle.pst.proofs.Untouched.{list_untouched, read_untouched, data_untouched, encode_untouched, decode_untouched, row_untouched}
use Rattle.std.specs.Prelude.{Ok, Err}

header_call : (image : List ℕ) → Told header_means (header_rules image) (header_outcome image)
unfolding header_outcome header_of header_fits
header_call image = header_told _ (header_rules image) (header_verdict _ _)

nodes_call : (image : List ℕ) → Told verdict_means (tree_rules (nodes_of image) image) (nodes_outcome image)
unfolding nodes_outcome tree_fits
nodes_call image = verdict_told _ (tree_rules (nodes_of image) image) refl

blocks_call : (image : List ℕ) → Told verdict_means (tree_rules (blocks_of image) image) (blocks_outcome image)
unfolding blocks_outcome tree_fits
blocks_call image = verdict_told _ (tree_rules (blocks_of image) image) refl

find_node_call : (image : List ℕ) (node : ℕ) → Told node_means (search_rules Equal (nodes_of image) image node) (node_outcome image node)
unfolding node_outcome node_of
find_node_call image node = node_told (nodes_of image) _ (search_rules Equal (nodes_of image) image node) (search_tried Equal (nodes_of image) image node)

find_nodes_call : (nodes area : List ℕ) → Told verdict_means (list_rules (length nodes) (length area)) (list_outcome nodes area)
unfolding list_outcome list_fits
find_nodes_call nodes area = verdict_told _ (list_rules (length nodes) (length area)) refl

find_block_call : (image : List ℕ) (block : ℕ) → Told block_means (search_rules Equal (blocks_of image) image block) (block_outcome image block)
unfolding block_outcome block_of
find_block_call image block = block_told (blocks_of image) _ (search_rules Equal (blocks_of image) image block) (search_tried Equal (blocks_of image) image block)

next_node_call : (image : List ℕ) (from : ℕ) → Told node_means (search_rules AtLeast (nodes_of image) image from) (next_node_outcome image from)
unfolding next_node_outcome next_node_of
next_node_call image from = node_told (nodes_of image) _ (search_rules AtLeast (nodes_of image) image from) (search_tried AtLeast (nodes_of image) image from)

next_block_call : (image : List ℕ) (from : ℕ) → Told block_means (search_rules AtLeast (blocks_of image) image from) (next_block_outcome image from)
unfolding next_block_outcome next_block_of
next_block_call image from = block_told (blocks_of image) _ (search_rules AtLeast (blocks_of image) image from) (search_tried AtLeast (blocks_of image) image from)

test_block_call : (image : List ℕ) (block : ℕ) → Told sized_means (test_rules (edition_of image) image block) (test_outcome image block)
unfolding test_outcome
test_block_call image block = sized_told _ (test_rules (edition_of image) image block) (size_tried (edition_of image) image block)

read_block_call : (image : List ℕ) (block : ℕ) (out : List ℕ) → Told sized_means (read_rules (edition_of image) image block (length out)) (read_outcome image block out)
unfolding read_outcome
read_block_call image block out = sized_told _ (read_rules (edition_of image) image block (length out)) (read_tried (edition_of image) image block (length out))

read_node_call : (image : List ℕ) (node : ℕ) (out : List ℕ) → Told data_means (data_rules (edition_of image) image node (length out)) (data_outcome image node out)
unfolding data_outcome
read_node_call image node out = data_told _ (data_rules (edition_of image) image node (length out)) (data_tried (edition_of image) image node (length out))

then_accepted : (v : Verdict) → (v then Ok tt) ≡ v
unfolding after
then_accepted (Ok tt) = refl
then_accepted (Err r) = refl

code_call : (method : ℕ) → Told verdict_means (method_rules method) (code_outcome method)
unfolding code_outcome method_fits in_order
code_call method = verdict_told _ (method_rules method) (then_accepted _)

heap_call : (block : List ℕ) → Told verdict_means (shape_rules block) (heap_outcome block)
unfolding heap_outcome heap_test
heap_call block = verdict_told _ (shape_rules block) refl

test_item_call : (block : List ℕ) (item : ℕ) → Told verdict_means (item_rules block item) (test_item_outcome block item)
unfolding test_item_outcome item_test
test_item_call block item = verdict_told _ (item_rules block item) refl

find_item_call : (block : List ℕ) (item : ℕ) → Told span_means (item_rules block item) (span_outcome block item)
unfolding span_outcome item_span item_test
find_item_call block item = span_told _ _ _ (item_rules block item) refl

property_call : (block : List ℕ) (id : ℕ) → Told property_means (property_rules block id) (property_outcome block id)
unfolding property_outcome
property_call block id = property_told _ (property_rules block id) (property_refused_exactly block id)

table_call : (block : List ℕ) → Told table_means (table_rules block) (table_outcome block)
unfolding table_outcome
table_call block = table_told _ (table_rules block) (table_told_exactly block)

column_call : (block : List ℕ) (index : ℕ) → Told column_means (table_rules block) (column_outcome block index)
unfolding column_outcome
column_call block index = column_told _ (table_rules block) (column_told_exactly block index)

count_call : (block rows : List ℕ) → Told count_means (rows_rules block rows) (count_outcome block rows)
unfolding count_outcome
count_call block rows = count_told _ (rows_rules block rows) (count_told_exactly block rows)

cell_call : (block rows : List ℕ) (row tag : ℕ) → Told cell_means (cell_rules block rows row tag) (cell_outcome block rows row tag)
unfolding cell_outcome
cell_call block rows row tag = cell_told _ (cell_rules block rows row tag) (cell_refused_exactly block rows row tag)

row_call : (block : List ℕ) (id : ℕ) → Told row_means (row_rules row_index block id) (row_outcome block id)
unfolding row_outcome
row_call block id = row_told _ (row_rules row_index block id) (row_refused_exactly row_index block id)

row32_call : (block : List ℕ) (id : ℕ) → Told row_means (row_rules row_index32 block id) (row32_outcome block id)
unfolding row32_outcome
row32_call block id = row_told _ (row_rules row_index32 block id) (row_refused_exactly row_index32 block id)

read_row_call : (block rows : List ℕ) (row : ℕ) (area : List ℕ) → Told cells_means (read_row_rules block rows row (length area)) (read_row_outcome block rows row area)
unfolding read_row_outcome
read_row_call block rows row area = cells_told _ (read_row_rules block rows row (length area)) (read_refused_exactly block rows row (length area))

pub first_demand : FirstDemand
first_demand =
    record {
      header = header_call;
      check_nodes = nodes_call;
      check_blocks = blocks_call;
      find_node = find_node_call;
      find_nodes = find_nodes_call;
      find_block = find_block_call;
      next_node = next_node_call;
      next_block = next_block_call;
      test_block = test_block_call;
      read_block = read_block_call;
      read_node = read_node_call;
      code = code_call;
      test_heap = heap_call;
      test_item = test_item_call;
      find_item = find_item_call;
      find_property = property_call;
      table = table_call;
      column = column_call;
      count_rows = count_call;
      cell = cell_call;
      find_row = row_call;
      find_row32 = row32_call;
      read_row = read_row_call;
      find_nodes_leaves = list_untouched;
      read_block_leaves = read_untouched;
      read_node_leaves = data_untouched;
      encode_leaves = encode_untouched;
      decode_leaves = decode_untouched;
      read_row_leaves = row_untouched;
    }
