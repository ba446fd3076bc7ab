-- The contract of each call of the C face leaves room for one outcome: every field of the struct, and every byte of each buffer. Read off the contracts themselves. Assumes nothing.
use mathlib.Core.Path.{◌≡◌, sym, ◌∙◌}
use contract.Lifetimes.{Lfts}
use denote.Triple.Clauses.{AtExit}
use borrow.Fn.Kinds.{Dens, res_t, ended_of}
use Rattle.pst.proofs.OneOutcome.{Single}
use Rattle.rkw.proofs.rkw_header.Reads as header
use Rattle.rkw.proofs.rkw_header.Kinds as header-kinds
use Rattle.rkw.proofs.rkw_check_nodes.Reads as check_nodes
use Rattle.rkw.proofs.rkw_check_nodes.Kinds as check-nodes-kinds
use Rattle.rkw.proofs.rkw_check_blocks.Reads as check_blocks
use Rattle.rkw.proofs.rkw_check_blocks.Kinds as check-blocks-kinds
use Rattle.rkw.proofs.rkw_find_node.Reads as find_node
use Rattle.rkw.proofs.rkw_find_node.Kinds as find-node-kinds
use Rattle.rkw.proofs.rkw_find_nodes.Reads as find_nodes
use Rattle.rkw.proofs.rkw_find_nodes.Kinds as find-nodes-kinds
use Rattle.rkw.proofs.rkw_find_block.Reads as find_block
use Rattle.rkw.proofs.rkw_find_block.Kinds as find-block-kinds
use Rattle.rkw.proofs.rkw_next_node.Reads as next_node
use Rattle.rkw.proofs.rkw_next_node.Kinds as next-node-kinds
use Rattle.rkw.proofs.rkw_next_block.Reads as next_block
use Rattle.rkw.proofs.rkw_next_block.Kinds as next-block-kinds
use Rattle.rkw.proofs.rkw_test_block.Reads as test_block
use Rattle.rkw.proofs.rkw_test_block.Kinds as test-block-kinds
use Rattle.rkw.proofs.rkw_read_block.Reads as read_block
use Rattle.rkw.proofs.rkw_read_block.Kinds as read-block-kinds
use Rattle.rkw.proofs.rkw_read_node.Reads as read_node
use Rattle.rkw.proofs.rkw_read_node.Kinds as read-node-kinds
use Rattle.rkw.proofs.rkw_encode.Reads as encode
use Rattle.rkw.proofs.rkw_encode.Kinds as encode-kinds
use Rattle.rkw.proofs.rkw_decode.Reads as decode
use Rattle.rkw.proofs.rkw_decode.Kinds as decode-kinds
use Rattle.rkw.proofs.rkw_test_heap.Reads as test_heap
use Rattle.rkw.proofs.rkw_test_heap.Kinds as test-heap-kinds
use Rattle.rkw.proofs.rkw_test_item.Reads as test_item
use Rattle.rkw.proofs.rkw_test_item.Kinds as test-item-kinds
use Rattle.rkw.proofs.rkw_item.Reads as item
use Rattle.rkw.proofs.rkw_item.Kinds as item-kinds
use Rattle.rkw.proofs.rkw_find_property.Reads as find_property
use Rattle.rkw.proofs.rkw_find_property.Kinds as find-property-kinds
use Rattle.rkw.proofs.rkw_table.Reads as table
use Rattle.rkw.proofs.rkw_table.Kinds as table-kinds
use Rattle.rkw.proofs.rkw_column.Reads as column
use Rattle.rkw.proofs.rkw_column.Kinds as column-kinds
use Rattle.rkw.proofs.rkw_count_rows.Reads as count_rows
use Rattle.rkw.proofs.rkw_count_rows.Kinds as count-rows-kinds
use Rattle.rkw.proofs.rkw_cell.Reads as cell
use Rattle.rkw.proofs.rkw_cell.Kinds as cell-kinds
use Rattle.rkw.proofs.rkw_find_row.Reads as find_row
use Rattle.rkw.proofs.rkw_find_row.Kinds as find-row-kinds
use Rattle.rkw.proofs.rkw_find_row32.Reads as find_row32
use Rattle.rkw.proofs.rkw_find_row32.Kinds as find-row32-kinds
use Rattle.rkw.proofs.rkw_read_row.Reads as read_row
use Rattle.rkw.proofs.rkw_read_row.Kinds as read-row-kinds
use Rattle.rkw.proofs.rkw_checksum.Reads as checksum
use Rattle.rkw.proofs.rkw_checksum.Kinds as checksum-kinds
use Rattle.rkw.proofs.rkw_signature.Reads as signature
use Rattle.rkw.proofs.rkw_signature.Kinds as signature-kinds
use Rattle.rkw.proofs.rkw_room.Reads as room
use Rattle.rkw.proofs.rkw_room.Kinds as room-kinds
use Rattle.rkw.proofs.rkw_room32.Reads as room32
use Rattle.rkw.proofs.rkw_room32.Kinds as room32-kinds

header_single : Single 1 header-kinds.ps header-kinds.r header.Post
header_single κs a x y s t p q = p ∙ sym q

check_nodes_single : Single 1 check-nodes-kinds.ps check-nodes-kinds.r check_nodes.Post
check_nodes_single κs a x y s t p q = p ∙ sym q

check_blocks_single : Single 1 check-blocks-kinds.ps check-blocks-kinds.r check_blocks.Post
check_blocks_single κs a x y s t p q = p ∙ sym q

find_node_single : Single 1 find-node-kinds.ps find-node-kinds.r find_node.Post
find_node_single κs a x y s t p q = p ∙ sym q

find_nodes_single : (κs : Lfts 3) (a : Dens κs find-nodes-kinds.ps) (x y : (res_t find-nodes-kinds.r κs).Denot) (s t : AtExit (ended_of 3 find-nodes-kinds.ps find-nodes-kinds.r) κs)
    → find_nodes.Post κs a x s → find_nodes.Post κs a y t → (x ≡ y) × (s.1.1.0.now ≡ t.1.1.0.now)
find_nodes_single κs a x y s t p q = (p.0 ∙ sym q.0, p.1 ∙ sym q.1)

find_block_single : Single 1 find-block-kinds.ps find-block-kinds.r find_block.Post
find_block_single κs a x y s t p q = p ∙ sym q

next_node_single : Single 1 next-node-kinds.ps next-node-kinds.r next_node.Post
next_node_single κs a x y s t p q = p ∙ sym q

next_block_single : Single 1 next-block-kinds.ps next-block-kinds.r next_block.Post
next_block_single κs a x y s t p q = p ∙ sym q

test_block_single : Single 1 test-block-kinds.ps test-block-kinds.r test_block.Post
test_block_single κs a x y s t p q = p ∙ sym q

read_block_single : (κs : Lfts 2) (a : Dens κs read-block-kinds.ps) (x y : (res_t read-block-kinds.r κs).Denot) (s t : AtExit (ended_of 2 read-block-kinds.ps read-block-kinds.r) κs)
    → read_block.Post κs a x s → read_block.Post κs a y t → (x ≡ y) × (s.1.1.0.now ≡ t.1.1.0.now)
read_block_single κs a x y s t p q = (p.0 ∙ sym q.0, p.1 ∙ sym q.1)

read_node_single : (κs : Lfts 2) (a : Dens κs read-node-kinds.ps) (x y : (res_t read-node-kinds.r κs).Denot) (s t : AtExit (ended_of 2 read-node-kinds.ps read-node-kinds.r) κs)
    → read_node.Post κs a x s → read_node.Post κs a y t → (x ≡ y) × (s.1.1.0.now ≡ t.1.1.0.now)
read_node_single κs a x y s t p q = (p.0 ∙ sym q.0, p.1 ∙ sym q.1)

encode_single : (κs : Lfts 1) (a : Dens κs encode-kinds.ps) (x y : (res_t encode-kinds.r κs).Denot) (s t : AtExit (ended_of 1 encode-kinds.ps encode-kinds.r) κs)
    → encode.Post κs a x s → encode.Post κs a y t → (x ≡ y) × (s.1.1.0.now ≡ t.1.1.0.now)
encode_single κs a x y s t p q = (p.0 ∙ sym q.0, p.1 ∙ sym q.1)

decode_single : (κs : Lfts 1) (a : Dens κs decode-kinds.ps) (x y : (res_t decode-kinds.r κs).Denot) (s t : AtExit (ended_of 1 decode-kinds.ps decode-kinds.r) κs)
    → decode.Post κs a x s → decode.Post κs a y t → (x ≡ y) × (s.1.1.0.now ≡ t.1.1.0.now)
decode_single κs a x y s t p q = (p.0 ∙ sym q.0, p.1 ∙ sym q.1)

test_heap_single : Single 1 test-heap-kinds.ps test-heap-kinds.r test_heap.Post
test_heap_single κs a x y s t p q = p ∙ sym q

test_item_single : Single 1 test-item-kinds.ps test-item-kinds.r test_item.Post
test_item_single κs a x y s t p q = p ∙ sym q

item_single : Single 1 item-kinds.ps item-kinds.r item.Post
item_single κs a x y s t p q = p ∙ sym q

find_property_single : Single 1 find-property-kinds.ps find-property-kinds.r find_property.Post
find_property_single κs a x y s t p q = p ∙ sym q

table_single : Single 1 table-kinds.ps table-kinds.r table.Post
table_single κs a x y s t p q = p ∙ sym q

column_single : Single 1 column-kinds.ps column-kinds.r column.Post
column_single κs a x y s t p q = p ∙ sym q

count_rows_single : Single 1 count-rows-kinds.ps count-rows-kinds.r count_rows.Post
count_rows_single κs a x y s t p q = p ∙ sym q

cell_single : Single 1 cell-kinds.ps cell-kinds.r cell.Post
cell_single κs a x y s t p q = p ∙ sym q

find_row_single : Single 1 find-row-kinds.ps find-row-kinds.r find_row.Post
find_row_single κs a x y s t p q = p ∙ sym q

find_row32_single : Single 1 find-row32-kinds.ps find-row32-kinds.r find_row32.Post
find_row32_single κs a x y s t p q = p ∙ sym q

read_row_single : (κs : Lfts 2) (a : Dens κs read-row-kinds.ps) (x y : (res_t read-row-kinds.r κs).Denot) (s t : AtExit (ended_of 2 read-row-kinds.ps read-row-kinds.r) κs)
    → read_row.Post κs a x s → read_row.Post κs a y t → (x ≡ y) × (s.1.1.1.0.now ≡ t.1.1.1.0.now)
read_row_single κs a x y s t p q = (p.0 ∙ sym q.0, p.1 ∙ sym q.1)

checksum_single : Single 1 checksum-kinds.ps checksum-kinds.r checksum.Post
checksum_single κs a x y s t p q = p ∙ sym q

signature_single : Single 0 signature-kinds.ps signature-kinds.r signature.Post
signature_single κs a x y s t p q = p ∙ sym q

room_single : Single 0 room-kinds.ps room-kinds.r room.Post
room_single κs a x y s t p q = p ∙ sym q

room32_single : Single 0 room32-kinds.ps room32-kinds.r room32.Post
room32_single κs a x y s t p q = p ∙ sym q
