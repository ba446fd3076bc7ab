-- The user's three demands, of the outcomes of the public calls alone; and what the requests of 02 add to them, of those outcomes, of pages and of blocks. Assumes nothing: these are definitions.
--
-- The contract of a call says: what the answer means is the outcome that pst/specs/Outcomes names, and each buffer at exit is the one named there. What holds of every
-- outcome so holds of every call. Proved in pst/proofs/FirstDemand, SecondDemand, ThirdDemand, FirstRequest, SecondRequest, ThirdRequest, FourthRequest, FifthRequest, SixthRequest and SeventhRequest.
use Rattle.std.specs.Prelude.{ℕ, ◌+◌, ◌*◌, ◌/◌, ◌%◌, ◌^◌, ◌≤◌, ◌<◌, ◌≡◌, true, false, ◌↔◌, ◌⊎◌, ◌≢◌, List, [], ◌∷◌, ◌++◌, map, leb, length, get_or, drop, Option, Some, Result, Ok, Err}
use Rattle.std.specs.Int.Bits.{bit_xor}
use Rattle.le.specs.Bytes.{little_endian, part, Bytes}
use Rattle.refusal.specs.declared.Refusal.{Refusal}
use Rattle.refusal.specs.declared.Fault.TheVariants.{Encoding, KeyRange, PageOffset, BlockOffset}
use Rattle.refusal.specs.Order.{◌at◌, at_entry, Rule, rule, in_order, after, AllHold, FirstFault}
use Rattle.keys.specs.declared.Sought.TheVariants.{Equal, AtLeast}
use Rattle.keys.specs.Plain.{Ascending, Missing, Distinct}
use Rattle.keys.specs.Records.{cleared}
use Rattle.keys.specs.Search.{with_key, from_key}
use Rattle.search.specs.Answer.{Answer, found, answer}
use Rattle.search.specs.Answer as search
use Rattle.remainder.specs.Remainder.{bits, table_entry}
use Rattle.coding.specs.Coding.{cyclic, word}
use Rattle.coding.specs.Table.{R, I}
use Rattle.edition.specs.declared.Edition.{Edition}
use Rattle.edition.specs.Editions.{nbt64, bbt64, edition64, bbt32, edition32}
use Rattle.edition.specs.Fair.{FairEdition}
use Rattle.header.specs.Header.{edition_of, nodes_of, blocks_of, length_fits, version_of, client_fits, magic_fits, end_place, stated_end, header_rules, says, file_end}
use Rattle.header.specs.Former.{rules64, says64, end64}
use Rattle.header.specs.End.{Above, LooksToEnd}
use Rattle.header.specs.Sound.{HeaderSound}
use Rattle.edition.specs.declared.Layout.{Layout}
use Rattle.page.specs.declared.Link.{Link}
use Rattle.page.specs.Layout.{as_given, compared}
use Rattle.page.specs.Page.{number_in, key_in, page_fits}
use Rattle.page.specs.KeyFaults.{KeyFaultsTold}
use Rattle.tree.specs.declared.Listed.{Listed}
use Rattle.tree.specs.Tree.{root, root_level, tree_rules, tree_fits, scan, all_routes}
use Rattle.tree.specs.Lookup.{path, search_rules, pages_read}
use Rattle.tree.specs.Answers.{shown, as_node, node_of, as_block, block_of, next_node_of, next_block_of}
use Rattle.tree.specs.Sound.{TreeSound}
use Rattle.tree.specs.KeyFaults.{OfKeys, KeyFault}
use Rattle.tree.specs.Demand3.{Demand3, AgreeOnPath, AgreeOnRead}
use Rattle.tree.specs.Listing.{Listing, TreeLists}
use Rattle.laws.specs.Front.{fronted}
use Rattle.nodelist.specs.Places.{node_words, list_rules, area_of}
use Rattle.edition.specs.declared.Trailer.{Trailer}
use Rattle.block.specs.Block.{room_for, block_fits, checked_block, test_of, block_bytes, read_of, filled_of}
use Rattle.block.specs.Sound.{BlockSound, ListedSound}
use Rattle.block.specs.Tried.{test_rules, read_rules}
use Rattle.node.specs.Content.{bytes, node_content, most_data, answer_to, filled_by}
use Rattle.node.specs.Named.{Named}
use Rattle.node.specs.Tried.{data_rules}
use Rattle.heap.specs.Shape.{Heap, shape_rules}
use Rattle.heap.specs.Items.{Numbered, item_rules, item_start, item_length, item_part}
use Rattle.heaptree.specs.declared.Branch.{Branch}
use Rattle.heaptree.specs.declared.HeapTree.{HeapTree}
use Rattle.heaptree.specs.Branches.{branch_rules}
use Rattle.heaptree.specs.Sound.{BranchSound}
use Rattle.property.specs.Context.{properties, Context, context_rules}
use Rattle.property.specs.Lookup.{property_from, property_rules}
use Rattle.property.specs.Scan.{PropertiesSound, id_of, property_records}
use Rattle.columns.specs.declared.Column.{Column}
use Rattle.columns.specs.Record.{column_count}
use Rattle.columns.specs.Columns.{column_at, tags}
use Rattle.columns.specs.Sound.{Apart}
use Rattle.table.specs.Context.{table_record, table_rules, TableSound}
use Rattle.table.specs.Says.{table_in}
use Rattle.table.specs.RowIndex.{row_index, row_index32, row_id, row_from, row_rules, IndexSound, row_records}
use Rattle.cells.specs.Rows.{Held, rows_named, row_bytes, rows_rules, row_count, row_at}
use Rattle.cells.specs.Cells.{cell_at, cell_in}
use Rattle.cells.specs.Tried.{cell_rules}
use Rattle.rowcells.specs.RowCells.{cell_words, read_row_rules}
use Rattle.pst.specs.Meaning.{Meaning, answered, absent, refused, refuses, refusal_means, verdict_means, header_means, node_means, block_means, sized_means, data_means, span_means, property_means, table_means, column_means, count_means, cell_means, row_means, cells_means}
use Rattle.pst.specs.Outcomes.{header_outcome, nodes_outcome, blocks_outcome, node_outcome, list_outcome, list_area, block_outcome, next_node_outcome, next_block_outcome, test_outcome, read_outcome, read_buffer, data_outcome, data_buffer, code_outcome, encode_buffer, decode_buffer, heap_outcome, test_item_outcome, item_outcome, span_outcome, property_outcome, table_outcome, column_outcome, count_outcome, cell_outcome, row_outcome, row32_outcome, read_row_outcome, read_row_area, checksum_outcome, room32_outcome}
use Rattle.tree.specs.declared.Found.{Found}
use Rattle.tree.specs.declared.Node.{Node}
use Rattle.cells.specs.declared.Cell.{Cell}
use Rattle.tree.specs.declared.Found.TheVariants.{Entry}

-- Demand 1 of one call: its answers, by what they mean; the rules that it tries, in their order; its outcome
pub record Told {A : Type 0} (means : A → Meaning) (rules : List Rule) (outcome : Meaning) : Type 0 where
  -- two answers that mean the outcome are the same
  pub single : (one other : A) → means one ≡ outcome → means other ≡ outcome → one ≡ other
  -- it is a refusal exactly when that is the first fault: a rule that is broken, while each rule before it holds
  pub first_fault : (r : Refusal) → (outcome ≡ refusal_means r) ↔ FirstFault rules r

-- a refused call leaves every byte of its buffer
abbrev pub Untouched : Meaning → List ℕ → List ℕ → Type 0
Untouched outcome before after = refuses outcome ≡ true → after ≡ before

-- "a method over 2"
abbrev pub method_rules : ℕ → List Rule
method_rules method = rule (leb method 2) (Encoding at 0) ∷ []

pub record FirstDemand : Type 0 where
  pub header : (image : List ℕ) → Told header_means (header_rules image) (header_outcome image)
  pub check_nodes : (image : List ℕ) → Told verdict_means (tree_rules (nodes_of image) image) (nodes_outcome image)
  pub check_blocks : (image : List ℕ) → Told verdict_means (tree_rules (blocks_of image) image) (blocks_outcome image)
  pub find_node : (image : List ℕ) (node : ℕ) → Told node_means (search_rules Equal (nodes_of image) image node) (node_outcome image node)
  pub find_nodes : (nodes area : List ℕ) → Told verdict_means (list_rules (length nodes) (length area)) (list_outcome nodes area)
  pub find_block : (image : List ℕ) (block : ℕ) → Told block_means (search_rules Equal (blocks_of image) image block) (block_outcome image block)
  pub next_node : (image : List ℕ) (from : ℕ) → Told node_means (search_rules AtLeast (nodes_of image) image from) (next_node_outcome image from)
  pub next_block : (image : List ℕ) (from : ℕ) → Told block_means (search_rules AtLeast (blocks_of image) image from) (next_block_outcome image from)
  pub test_block : (image : List ℕ) (block : ℕ) → Told sized_means (test_rules (edition_of image) image block) (test_outcome image block)
  pub read_block : (image : List ℕ) (block : ℕ) (out : List ℕ) → Told sized_means (read_rules (edition_of image) image block (length out)) (read_outcome image block out)
  pub read_node : (image : List ℕ) (node : ℕ) (out : List ℕ) → Told data_means (data_rules (edition_of image) image node (length out)) (data_outcome image node out)
  pub code : (method : ℕ) → Told verdict_means (method_rules method) (code_outcome method)
  pub test_heap : (block : List ℕ) → Told verdict_means (shape_rules block) (heap_outcome block)
  pub test_item : (block : List ℕ) (item : ℕ) → Told verdict_means (item_rules block item) (test_item_outcome block item)
  pub find_item : (block : List ℕ) (item : ℕ) → Told span_means (item_rules block item) (span_outcome block item)
  pub find_property : (block : List ℕ) (id : ℕ) → Told property_means (property_rules block id) (property_outcome block id)
  pub table : (block : List ℕ) → Told table_means (table_rules block) (table_outcome block)
  pub column : (block : List ℕ) (index : ℕ) → Told column_means (table_rules block) (column_outcome block index)
  pub count_rows : (block rows : List ℕ) → Told count_means (rows_rules block rows) (count_outcome block rows)
  pub cell : (block rows : List ℕ) (row tag : ℕ) → Told cell_means (cell_rules block rows row tag) (cell_outcome block rows row tag)
  pub find_row : (block : List ℕ) (id : ℕ) → Told row_means (row_rules row_index block id) (row_outcome block id)
  pub find_row32 : (block : List ℕ) (id : ℕ) → Told row_means (row_rules row_index32 block id) (row32_outcome block id)
  pub read_row : (block rows : List ℕ) (row : ℕ) (area : List ℕ) → Told cells_means (read_row_rules block rows row (length area)) (read_row_outcome block rows row area)
  pub find_nodes_leaves : (image nodes area : List ℕ) → Untouched (list_outcome nodes area) area (list_area image nodes area)
  pub read_block_leaves : (image : List ℕ) (block : ℕ) (out : List ℕ) → Untouched (read_outcome image block out) out (read_buffer image block out)
  pub read_node_leaves : (image : List ℕ) (node : ℕ) (out : List ℕ) → Untouched (data_outcome image node out) out (data_buffer image node out)
  pub encode_leaves : (method block : ℕ) (bytes : List ℕ) → Untouched (code_outcome method) bytes (encode_buffer method block bytes)
  pub decode_leaves : (method block : ℕ) (bytes : List ℕ) → Untouched (code_outcome method) bytes (decode_buffer method block bytes)
  pub read_row_leaves : (block rows : List ℕ) (row : ℕ) (area : List ℕ) → Untouched (read_row_outcome block rows row area) area (read_row_area block rows row area)

-- a block that the block tree lists under this number, and whose rules hold
pub record SoundBlock (image : List ℕ) (number : ℕ) (listed : Listed) : Type 0 where
  pub pages : ℕ
  pub found : block_outcome image number ≡ block_means (Ok (Entry listed pages))
  pub sound : BlockSound (edition_of image).trailer image listed

-- a call on a block that answers its size
pub record BlockOfSize (image : List ℕ) (number size : ℕ) : Type 0 where
  pub listed : Listed
  pub sound : SoundBlock image number listed
  pub same_size : listed.size ≡ size

-- the bytes of exactly the blocks that a node names, and room for them
pub record DataOfSize (image : List ℕ) (node space size : ℕ) : Type 0 where
  pub bytes : List ℕ
  pub named : Named (edition_of image) image node bytes
  pub long : length bytes ≡ size
  pub fits : size ≤ space

pub record SecondDemand : Type 0 where
  -- header, pages and both trees are accepted exactly when the rules hold, and the header says what stands in it
  pub header : (image : List ℕ) → (header_outcome image ≡ header_means (Ok (says image))) ↔ HeaderSound image
  pub node_tree : (image : List ℕ) → (nodes_outcome image ≡ answered []) ↔ TreeSound (nodes_of image) image
  pub block_tree : (image : List ℕ) → (blocks_outcome image ≡ answered []) ↔ TreeSound (blocks_of image) image
  -- a block is accepted exactly when it is listed and its rules hold
  pub block_tested : (image : List ℕ) (block size : ℕ) → (test_outcome image block ≡ answered (size ∷ [])) ↔ BlockOfSize image block size
  -- what is read is its bytes, decoded unless it is internal, at the front of the buffer
  pub block_read : (image : List ℕ) (block size : ℕ) (out : List ℕ) → (read_outcome image block out ≡ answered (size ∷ [])) ↔ (BlockOfSize image block size × (size ≤ length out))
  pub block_bytes_lem : (image : List ℕ) (block : ℕ) (out : List ℕ) (listed : Listed) → SoundBlock image block listed → listed.size ≤ length out
      → read_buffer image block out ≡ fronted (block_bytes image listed) out
  -- a node's data is answered exactly when it is named by the rules, with room for it; it stands at the front of the buffer; and there is a most of it
  pub data_read : (image : List ℕ) (node size : ℕ) (out : List ℕ) → (data_outcome image node out ≡ answered (size ∷ [])) ↔ DataOfSize image node (length out) size
  pub data_bytes : (image : List ℕ) (node : ℕ) (out bytes : List ℕ) → Named (edition_of image) image node bytes → length bytes ≤ length out → data_buffer image node out ≡ fronted bytes out
  pub data_most : (image : List ℕ) (node size : ℕ) (out : List ℕ) → data_outcome image node out ≡ answered (size ∷ []) → size ≤ most_data (edition_of image)
  -- heaps and items
  pub heap : (block : List ℕ) → (heap_outcome block ≡ answered []) ↔ Heap block
  pub item_tested : (block : List ℕ) (item : ℕ) → (test_item_outcome block item ≡ answered []) ↔ (Heap block × Numbered block item)
  pub item_bytes : (block : List ℕ) (item : ℕ) → Heap block → Numbered block item → item_outcome block item ≡ item_part block item
  pub item_place : (block : List ℕ) (item : ℕ) → Heap block → Numbered block item → span_outcome block item ≡ answered (item_start block item ∷ item_length block item ∷ [])
  -- a property is answered, or absent, exactly when each rule that is tried holds; what those before the tree and those of an item come to
  pub property : (block : List ℕ) (id : ℕ) → (refuses (property_outcome block id) ≡ false) ↔ AllHold (property_rules block id)
  pub context : (block : List ℕ) → AllHold (shape_rules block ++ context_rules block) ↔ (Heap block × Context block)
  pub branch : (block : List ℕ) (levels : ℕ) (branch : Branch) → AllHold (branch_rules properties block levels branch) ↔ BranchSound properties block levels branch
  -- and in a sound tree the answer is that of the plain scan of all leaf records
  pub property_scanned : (block : List ℕ) (id : ℕ) → PropertiesSound block
      → property_outcome block id ≡ property_means (property_from block (answer (with_key id_of id (property_records block)) 0))
  -- the two encodings, done and undone as published
  pub permuted : (block : ℕ) (bytes : List ℕ) → (encode_buffer 1 block bytes ≡ map R bytes) × (decode_buffer 1 block bytes ≡ map I bytes)
  pub cycled : (block : ℕ) (bytes : List ℕ) → (encode_buffer 2 block bytes ≡ cyclic (word block) bytes) × (decode_buffer 2 block bytes ≡ cyclic (word block) bytes)
  pub decoded_encoded : (method block : ℕ) (bytes : List ℕ) → Bytes bytes → decode_buffer method block (encode_buffer method block bytes) ≡ bytes
  pub encoded_decoded : (method block : ℕ) (bytes : List ℕ) → Bytes bytes → encode_buffer method block (decode_buffer method block bytes) ≡ bytes

-- what the calls of each tree say of an answer, by the tree's layout
abbrev pub node_says : Layout → Answer (List ℕ) → Meaning
node_says L a = node_means (as_node (shown L a))

abbrev pub block_says : Layout → Answer (List ℕ) → Meaning
block_says L a = block_means (as_block (shown L a))

-- Demand 3 of the lookups of one tree, in an image whose whole-tree check accepts
pub record Lookups (L : Layout) (says : Answer (List ℕ) → Meaning) (find : ℕ → Meaning) (image : List ℕ) : Type 0 where
  -- each answers as a plain scan of all leaf entries does: the entry with that key, or absent, with the length of the key's path
  pub answers : (key : ℕ) → find key ≡ says (answer (with_key (key_in L) (compared L key) (scan L image)) (length (path L image key)))
  pub never_refused : (key : ℕ) → refuses (find key) ≡ false
  -- the one entry: the keys of the leaf entries strictly ascend
  pub ascending : Ascending (map (key_in L) (scan L image))
  -- absent exactly when there is none
  pub absent_iff : (key : ℕ) → (find key ≡ absent (length (path L image key) ∷ [])) ↔ Missing (compared L key) (map (key_in L) (scan L image))
  -- no page offset is reached by two routes
  pub one_route : Distinct (all_routes L image)

-- Demand 3 of the lookups of one tree, in any image at all; L says which layout the tree of an image has
pub record Paths (L : List ℕ → Layout) (says : Layout → Answer (List ℕ) → Meaning) (find : List ℕ → ℕ → Meaning) : Type 0 where
  -- the page count is the length of the key's path
  pub found_count : (image : List ℕ) (key : ℕ) (entry : List ℕ) (pages : ℕ) → find image key ≡ says (L image) (found entry pages) → pages ≡ length (path (L image) image key)
  pub absent_count : (image : List ℕ) (key pages : ℕ) → find image key ≡ says (L image) (search.absent pages) → pages ≡ length (path (L image) image key)
  -- at most the root's level plus one
  pub short : (image : List ℕ) (key : ℕ) → length (path (L image) image key) ≤ root_level (L image) image + 1
  -- nothing off the path changes the answer
  pub off_path : (key : ℕ) (one other : List ℕ) → AgreeOnPath (L one) key one other → find one key ≡ find other key

pub record ThirdDemand : Type 0 where
  pub nodes : (image : List ℕ) → nodes_outcome image ≡ answered [] → Lookups (nodes_of image) (node_says (nodes_of image)) (node_outcome image) image
  pub blocks : (image : List ℕ) → blocks_outcome image ≡ answered [] → Lookups (blocks_of image) (block_says (blocks_of image)) (block_outcome image) image
  pub node_paths : Paths nodes_of node_says node_outcome
  pub block_paths : Paths blocks_of block_says block_outcome

-- Request 1/13: two block numbers that differ only in bit 0 are answered alike, whatever the bytes; of a read, every byte of the buffer too
pub record BitZeroReserved (image : List ℕ) (one other : ℕ) : Type 0 where
  pub found_alike : block_outcome image one ≡ block_outcome image other
  pub tested_alike : test_outcome image one ≡ test_outcome image other
  pub read_alike : (out : List ℕ) → read_outcome image one out ≡ read_outcome image other out
  pub filled_alike : (out : List ℕ) → read_buffer image one out ≡ read_buffer image other out

abbrev pub FirstRequest : Type 0
FirstRequest = (image : List ℕ) (one other : ℕ) → cleared one ≡ cleared other → BitZeroReserved image one other

-- Request 2/13: 11 and 21 say which key rule a page breaks, and at which entry. Where a call is refused with either, this holds of the refusal
abbrev pub KeysTold : (Refusal → Type 0) → Meaning → Type 0
KeysTold P outcome = (r : Refusal) → outcome ≡ refusal_means r → OfKeys r → P r

pub record SecondRequest : Type 0 where
  -- of any page, over any layout: refused with either exactly when it passes 6 to 10 and that entry is the first at fault in that way, accepted exactly when none is; 11 never of the first entry
  pub pages : (L : Layout) (image : List ℕ) (p : Link) → KeyFaultsTold L image p
  -- "The root's range is everything": 21 never of a root
  pub root_never : (L : Layout) (image : List ℕ) (i : ℕ) → page_fits L image (root L image) ≡ Err (at_entry KeyRange (root L image).offset i) → ⊥
  -- of every call that reads pages: the refusal is that of a page reached from the root of its tree
  pub check_nodes : (image : List ℕ) → KeysTold (KeyFault (nodes_of image) image) (nodes_outcome image)
  pub check_blocks : (image : List ℕ) → KeysTold (KeyFault (blocks_of image) image) (blocks_outcome image)
  pub find_node : (image : List ℕ) (node : ℕ) → KeysTold (KeyFault (nodes_of image) image) (node_outcome image node)
  pub find_block : (image : List ℕ) (block : ℕ) → KeysTold (KeyFault (blocks_of image) image) (block_outcome image block)
  pub next_node : (image : List ℕ) (from : ℕ) → KeysTold (KeyFault (nodes_of image) image) (next_node_outcome image from)
  pub next_block : (image : List ℕ) (from : ℕ) → KeysTold (KeyFault (blocks_of image) image) (next_block_outcome image from)
  pub test_block : (image : List ℕ) (block : ℕ) → KeysTold (KeyFault (blocks_of image) image) (test_outcome image block)
  pub read_block : (image : List ℕ) (block : ℕ) (out : List ℕ) → KeysTold (KeyFault (blocks_of image) image) (read_outcome image block out)
  pub read_node : (image : List ℕ) (node : ℕ) (out : List ℕ) → KeysTold (λ r. KeyFault (nodes_of image) image r ⊎ KeyFault (blocks_of image) image r) (data_outcome image node out)

-- Request 3/13: a list of nodes in one call. The nine words of the i-th place of an area
abbrev pub place_in : List ℕ → ℕ → List ℕ
place_in area i = part area (9 * i) 9

pub record ThirdRequest : Type 0 where
  -- taken exactly when it has at most 4,096 numbers and the area as many places, of nine words each
  pub taken : (nodes area : List ℕ) → (list_outcome nodes area ≡ answered []) ↔ ((length nodes ≤ 4096) × (length nodes ≤ length area / 9))
  -- "A list over 4,096 (length returned 4,096), then a result area shorter than the list (length returned the list's), is refused with 17, place 0"
  pub too_long : (nodes area : List ℕ) → 4096 < length nodes → list_outcome nodes area ≡ refused 17 0 4096
  pub too_short : (nodes area : List ℕ) → length nodes ≤ 4096 → length area / 9 < length nodes → list_outcome nodes area ≡ refused 17 0 (length nodes)
  -- "every place in the result equals what the single lookup gives for that number": its words are those of that answer and of no other
  pub places : (image nodes area : List ℕ) (i : ℕ) (given : Result (Found Node) Refusal) → list_outcome nodes area ≡ answered [] → i < length nodes
      → (place_in (list_area image nodes area) i ≡ node_words given) ↔ (node_means given ≡ node_outcome image (get_or nodes i 0))
  -- "Results past the list stay", in any call at all
  pub past_the_list : (image nodes area : List ℕ) → drop (9 * length nodes) (list_area image nodes area) ≡ drop (9 * length nodes) area
  pub same_length : (image nodes area : List ℕ) → length (list_area image nodes area) ≡ length area
  -- "Repeated numbers are allowed"
  pub repeated : (image nodes area : List ℕ) (i j : ℕ) → list_outcome nodes area ≡ answered [] → i < length nodes → j < length nodes → get_or nodes i 0 ≡ get_or nodes j 0
      → place_in (list_area image nodes area) i ≡ place_in (list_area image nodes area) j
  -- an empty list is answered, and what the image holds plays no part
  pub empty : (image area : List ℕ) → (list_outcome [] area ≡ answered []) × (list_area image [] area ≡ area)
  -- a refused header stands in every place
  pub header_refused : (image nodes area : List ℕ) (i : ℕ) (r : Refusal) → header_outcome image ≡ refusal_means r → list_outcome nodes area ≡ answered [] → i < length nodes
      → place_in (list_area image nodes area) i ≡ node_words (Err r)
  -- where the node tree is accepted no place tells a refusal
  pub never_refused : (image nodes area : List ℕ) (i : ℕ) → nodes_outcome image ≡ answered [] → list_outcome nodes area ≡ answered [] → i < length nodes
      → get_or (list_area image nodes area) (9 * i) 0 ≡ 0

-- 4/13, "Do it eight bytes at a time with the tables of section 5.3"
pub record FourthRequest : Type 0 where
  -- "Answers stay as they are for every length, also 0 to 7": each byte is added to the sum, which starts at 0, and eight bits fall out, one by one
  pub empty : checksum_outcome [] ≡ 0
  pub bit_by_bit : (bytes : List ℕ) (b : ℕ) → checksum_outcome (bytes ++ (b ∷ [])) ≡ bits 8 (bit_xor (checksum_outcome bytes) b)
  -- any n bytes behind others, taken at once as the number that they make, are the same bytes one by one
  pub at_once : (bytes more : List ℕ) → Bytes more → checksum_outcome (bytes ++ more) ≡ bits (8 * length more) (bit_xor (checksum_outcome bytes) (little_endian more))
  -- what 64 bits that fall out leave of eight bytes is what each of the eight tables has for its byte
  pub by_tables : (x : ℕ) → x < 2 ^ 64
      → bits 64 x
      ≡ bit_xor (table_entry 7 (x % 256)) (bit_xor (table_entry 6 (x / 256 % 256)) (bit_xor (table_entry 5 (x / 65536 % 256)) (bit_xor (table_entry 4 (x / 16777216 % 256))
      (bit_xor (table_entry 3 (x / 4294967296 % 256)) (bit_xor (table_entry 2 (x / 1099511627776 % 256)) (bit_xor (table_entry 1 (x / 281474976710656 % 256)) (table_entry 0 (x / 72057594037927936 % 256))))))))

-- 5/13, "Folder tables". The six words of the i-th place of an area
abbrev pub cell_place_in : List ℕ → ℕ → List ℕ
cell_place_in area i = part area (6 * i) 6

-- a sound table whose rows are held somewhere, and a row of it
pub record RowThere (block rows : List ℕ) (row : ℕ) : Type 0 where
  pub table : TableSound block
  pub held : Held block rows (rows_named block)
  pub there : row < row_count (table_record block) (row_bytes block rows)

-- of a call that looks a row up by a row index
pub record RowsFound (tree : HeapTree) (call : List ℕ → ℕ → Meaning) : Type 0 where
  -- answered, or absent, exactly when each rule that is tried holds
  pub row_answered : (block : List ℕ) (id : ℕ) → (refuses (call block id) ≡ false) ↔ AllHold (row_rules tree block id)
  -- in a sound row index as the plain scan of all its leaf records
  pub row_scanned : (block : List ℕ) (id : ℕ) → IndexSound tree block → call block id ≡ row_means (row_from tree (answer (with_key (row_id tree) id (row_records tree block)) 0))
  pub row_ascending : (block : List ℕ) → IndexSound tree block → Ascending (map (row_id tree) (row_records tree block))
  pub row_absent_iff : (block : List ℕ) (id : ℕ) → IndexSound tree block → (call block id ≡ absent []) ↔ Missing id (map (row_id tree) (row_records tree block))

pub record FifthRequest : Type 0 where
  -- a table is accepted exactly when each rule holds, of each column and of any two, and what is handed out stands in its record
  pub accepted : (block : List ℕ) → (table_outcome block ≡ table_means (Ok (table_in (table_record block)))) ↔ TableSound block
  pub column_found : (block : List ℕ) (i : ℕ) → TableSound block → i < column_count (table_record block) → column_outcome block i ≡ column_means (Ok (Some (column_at (table_record block) i)))
  pub column_absent : (block : List ℕ) (i : ℕ) → TableSound block → column_count (table_record block) ≤ i → column_outcome block i ≡ absent []
  -- "no two may share a tag, a byte or an existence bit": of any two columns that are handed out
  pub columns_apart : (block : List ℕ) (i j : ℕ) (one other : Column) → (i ≡ j → ⊥)
      → column_outcome block i ≡ column_means (Ok (Some one)) → column_outcome block j ≡ column_means (Ok (Some other)) → Apart one other
  -- "There are as many rows as whole rows fit the rows' bytes", where the table is sound and its rows are held somewhere
  pub rows_counted : (block rows : List ℕ) → (count_outcome block rows ≡ answered (row_count (table_record block) (row_bytes block rows) ∷ [])) ↔ (TableSound block × Held block rows (rows_named block))
  -- "Row numbers past the end and unknown tags are absent"; a column's cell is what its row's bytes say, by its own tag
  pub past_the_end : (block rows : List ℕ) (row tag : ℕ) → TableSound block → Held block rows (rows_named block) → row_count (table_record block) (row_bytes block rows) ≤ row → cell_outcome block rows row tag ≡ absent []
  pub unknown_tag : (block rows : List ℕ) (row tag : ℕ) → RowThere block rows row → Missing tag (tags (table_record block)) → cell_outcome block rows row tag ≡ absent []
  pub known_tag : (block rows : List ℕ) (row i : ℕ) → RowThere block rows row → i < column_count (table_record block)
      → cell_outcome block rows row (column_at (table_record block) i).tag ≡ cell_means (cell_at block (table_record block) (row_at (table_record block) (row_bytes block rows) row) (column_at (table_record block) i))
  pub cell_answered : (block rows : List ℕ) (row tag : ℕ) → (refuses (cell_outcome block rows row tag) ≡ false) ↔ AllHold (cell_rules block rows row tag)
  -- it depends on no byte of the rows outside its row: of a rows' block, and of rows in any bytes, an item's too
  pub in_its_row : (block one other : List ℕ) (row tag : ℕ) → length one ≡ length other → row_at (table_record block) one row ≡ row_at (table_record block) other row
      → cell_outcome block one row tag ≡ cell_outcome block other row tag
  pub in_any_row : (block table one other : List ℕ) (row tag : ℕ) → length one ≡ length other → row_at table one row ≡ row_at table other row
      → cell_in block table one row tag ≡ cell_in block table other row tag
  -- the row index, and that of a 32-bit file's table
  pub row_index_lem : RowsFound row_index row_outcome
  pub row_index32_lem : RowsFound row_index32 row32_outcome
  -- all cells of a row in one call: as many as there are columns; each place has the words of what the call for that cell answers, and of no other answer; what lies behind stays, and all where the row is absent
  pub cells_counted : (block rows : List ℕ) (row n : ℕ) (area : List ℕ) → read_row_outcome block rows row area ≡ answered (n ∷ []) → n ≡ column_count (table_record block)
  pub cell_places : (block rows : List ℕ) (row n : ℕ) (area : List ℕ) (i : ℕ) (given : Result (Option Cell) Refusal) → read_row_outcome block rows row area ≡ answered (n ∷ []) → i < n
      → (cell_place_in (read_row_area block rows row area) i ≡ cell_words given) ↔ (cell_means given ≡ cell_outcome block rows row (column_at (table_record block) i).tag)
  pub past_the_places : (block rows : List ℕ) (row n : ℕ) (area : List ℕ) → read_row_outcome block rows row area ≡ answered (n ∷ []) → drop (6 * n) (read_row_area block rows row area) ≡ drop (6 * n) area
  pub same_length : (block rows : List ℕ) (row n : ℕ) (area : List ℕ) → read_row_outcome block rows row area ≡ answered (n ∷ []) → length (read_row_area block rows row area) ≡ length area
  pub absent_leaves : (block rows : List ℕ) (row : ℕ) (area : List ℕ) → read_row_outcome block rows row area ≡ absent [] → read_row_area block rows row area ≡ area

-- 6/13, "The file ends where the header says": of a call on an image
pub record EndOfFile (call : List ℕ → Meaning) : Type 0 where
  -- bytes that hang on behind the header's end change nothing of its answer, where both lengths are in the bounds of refusal 1 or neither is
  pub looks : LooksToEnd call
  -- what the header call is refused with, it is refused with: 1 at place 0 too, the one thing that hanging bytes may bring
  pub header_first : (image : List ℕ) (r : Refusal) → header_outcome image ≡ refusal_means r → call image ≡ refusal_means r

pub record SixthRequest : Type 0 where
  -- "A header number above the image length is refused with 1 and place 184, after the encoding test": exactly when all that is tested before holds; 7/13: "four bytes at 168, its place too"
  pub above : (image : List ℕ) → (header_outcome image ≡ refused 1 (end_place image) 0) ↔ Above image
  -- a length outside its bounds is refused with 1 and place 0
  pub out_of_bounds : (image : List ℕ) → length_fits image ≡ false → header_outcome image ≡ refused 1 0 0
  -- "pages and blocks must end at or before both it and the image's end, else 6 or 13", over any layout and any trailer
  pub both_ends : (image : List ℕ) (n : ℕ) → (n ≤ file_end image) ↔ ((n ≤ stated_end image) × (n ≤ length image))
  pub page_behind : (L : Layout) (image : List ℕ) (p : Link) → file_end image < p.offset + 512 → page_fits L image p ≡ Err (PageOffset at p.offset)
  pub block_behind : (t : Trailer) (image : List ℕ) (b : Listed) → file_end image < b.offset + room_for t b.size → block_fits t image b ≡ Err (BlockOffset at b.offset)
  -- every call on an image
  pub header : EndOfFile header_outcome
  pub check_nodes : EndOfFile nodes_outcome
  pub check_blocks : EndOfFile blocks_outcome
  pub find_node : (node : ℕ) → EndOfFile (λ image. node_outcome image node)
  pub find_block : (block : ℕ) → EndOfFile (λ image. block_outcome image block)
  pub next_node : (from : ℕ) → EndOfFile (λ image. next_node_outcome image from)
  pub next_block : (from : ℕ) → EndOfFile (λ image. next_block_outcome image from)
  pub test_block : (block : ℕ) → EndOfFile (λ image. test_outcome image block)
  pub read_block : (block : ℕ) (out : List ℕ) → EndOfFile (λ image. read_outcome image block out)
  pub read_node : (node : ℕ) (out : List ℕ) → EndOfFile (λ image. data_outcome image node out)
  -- and what stands in the buffers at exit; whether a list of nodes is taken is no matter of the image
  pub find_nodes_area : (nodes area : List ℕ) → LooksToEnd (λ image. list_area image nodes area)
  pub read_block_buffer : (block : ℕ) (out : List ℕ) → LooksToEnd (λ image. read_buffer image block out)
  pub read_node_buffer : (node : ℕ) (out : List ℕ) → LooksToEnd (λ image. data_buffer image node out)

-- 7/13, "Older 32-bit files": "What demands 2 and 3 say of trees, blocks and lookups is proved once over the two layouts, with the field sizes as parameters", of any fair edition
pub record InEdition (E : Edition) : Type 0 where
  -- a tree is accepted exactly when its rules hold; where it is, the lookup answers as the plain scan does, and the listing too
  pub node_tree : (image : List ℕ) → (tree_fits E.nodes image ≡ Ok tt) ↔ TreeSound E.nodes image
  pub block_tree : (image : List ℕ) → (tree_fits E.blocks image ≡ Ok tt) ↔ TreeSound E.blocks image
  pub node_lookups : (image : List ℕ) → tree_fits E.nodes image ≡ Ok tt → Demand3 E.nodes image
  pub block_lookups : (image : List ℕ) → tree_fits E.blocks image ≡ Ok tt → Demand3 E.blocks image
  pub node_listings : (image : List ℕ) → tree_fits E.nodes image ≡ Ok tt → Listing E.nodes image
  pub block_listings : (image : List ℕ) → tree_fits E.blocks image ≡ Ok tt → Listing E.blocks image
  -- a block passes its tests exactly when it is listed and its rules hold
  pub block : (image : List ℕ) (number : ℕ) (listed : Listed) → (checked_block E image number ≡ Ok listed) ↔ ListedSound E image number listed
  -- a node's data is the byte string s exactly when its blocks, as named, hand it out; and there is a most of it
  pub node_data : (image : List ℕ) (node : ℕ) (s : List ℕ) → (node_content E image node ≡ bytes s) ↔ Named E image node s
  pub node_most : (image : List ℕ) (node : ℕ) (s : List ℕ) → node_content E image node ≡ bytes s → length s ≤ most_data E

-- "64-bit files answer as before": the header's rules, what it says and where the file ends have the former numbers, and each call goes by the layouts and the trailer of the 64-bit edition
pub record AsBefore (image : List ℕ) : Type 0 where
  pub rules : header_rules image ≡ rules64 image
  pub header_says : says image ≡ says64 image
  pub end : file_end image ≡ end64 image
  pub header : header_outcome image ≡ header_means (after Err (in_order (rules64 image)) (Ok (says64 image)))
  pub check_nodes : nodes_outcome image ≡ verdict_means (tree_fits nbt64 image)
  pub check_blocks : blocks_outcome image ≡ verdict_means (tree_fits bbt64 image)
  pub find_node : (node : ℕ) → node_outcome image node ≡ node_means (node_of nbt64 image node)
  pub find_block : (block : ℕ) → block_outcome image block ≡ block_means (block_of bbt64 image block)
  pub next_node : (from : ℕ) → next_node_outcome image from ≡ node_means (next_node_of nbt64 image from)
  pub next_block : (from : ℕ) → next_block_outcome image from ≡ block_means (next_block_of bbt64 image from)
  pub find_nodes_area : (nodes area : List ℕ) → list_area image nodes area ≡ area_of nbt64 image nodes area
  pub test_block : (block : ℕ) → test_outcome image block ≡ sized_means (test_of edition64 image block)
  pub read_block : (block : ℕ) (out : List ℕ) → read_outcome image block out ≡ sized_means (read_of edition64 image block (length out))
  pub read_block_buffer : (block : ℕ) (out : List ℕ) → read_buffer image block out ≡ filled_of edition64 image block out
  pub read_node : (node : ℕ) (out : List ℕ) → data_outcome image node out ≡ data_means (answer_to (node_content edition64 image node) (length out))
  pub read_node_buffer : (node : ℕ) (out : List ℕ) → data_buffer image node out ≡ filled_by (node_content edition64 image node) out

-- an image of one of the two versions
abbrev pub OlderVersion : List ℕ → Type 0
OlderVersion image = (version_of image ≡ 14) ⊎ (version_of image ≡ 15)

pub record SeventhRequest : Type 0 where
  -- the edition goes by the version, and `header` hands it out as 64 or 32
  pub by_version : (image : List ℕ) → (edition_of image ≡ edition32) ↔ OlderVersion image
  pub one_of_two : (image : List ℕ) → (edition_of image ≡ edition64) ⊎ (edition_of image ≡ edition32)
  pub bits : (edition64.bits ≡ 64) × (edition32.bits ≡ 32)
  -- "Refusal 3 is now for any other version", where the length and the marks before it are right
  pub other_version : (image : List ℕ) → length_fits image ≡ true → magic_fits image ≡ true → client_fits image ≡ true
      → (header_outcome image ≡ refused 3 10 0) ↔ ((version_of image ≢ 23) × (version_of image ≢ 14) × (version_of image ≢ 15))
  -- demands 2 and 3, of any fair edition, and so of the two
  pub any_edition : (E : Edition) → FairEdition E → InEdition E
  pub fair_64 : FairEdition edition64
  pub fair_32 : FairEdition edition32
  -- "node data up to 16,711,740 bytes"
  pub most : (most_data edition64 ≡ 8347696) × (most_data edition32 ≡ 16711740)
  -- "64-bit files answer as before": whatever is of neither version does, a file of version 23 too
  pub as_before : (image : List ℕ) → (OlderVersion image → ⊥) → AsBefore image
  pub version_23 : (image : List ℕ) → version_of image ≡ 23 → OlderVersion image → ⊥
  -- a block number of 2^32 or more is compared as a number: where the block tree of a 32-bit file is accepted it is absent
  pub large_absent : (image : List ℕ) (number : ℕ) → Bytes image → OlderVersion image → blocks_outcome image ≡ answered [] → 2 ^ 32 ≤ number → number < 2 ^ 64
      → block_outcome image number ≡ absent (length (path bbt32 image number) ∷ [])
  -- both sides of the lines of a room with a trailer of 12 bytes
  pub rooms : (room32_outcome 1 ≡ 64) × (room32_outcome 52 ≡ 64) × (room32_outcome 53 ≡ 128) × (room32_outcome 8180 ≡ 8192)

-- Beyond the demands: the listings of one tree. The entry or absent, with some count
pub record FirstFrom (says : Answer (List ℕ) → Meaning) (outcome : Meaning) (entry : Option (List ℕ)) : Type 0 where
  pub pages : ℕ
  pub is : outcome ≡ says (answer entry pages)

-- an answer whose first value is this number
pub record FirstValue (number : ℕ) (outcome : Meaning) : Type 0 where
  pub others : List ℕ
  pub is : outcome ≡ answered (number ∷ others)

pub record Listings (L : List ℕ → Layout) (says : Layout → Answer (List ℕ) → Meaning) (check : List ℕ → Meaning) (next : List ℕ → ℕ → Meaning) : Type 0 where
  -- where the whole-tree check accepts: the first entry of the scan whose key is at least the number as given, and never a refusal; going from 0, each time one above the number found, lists exactly the scan, and ends
  pub answers : (image : List ℕ) (from : ℕ) → check image ≡ answered [] → FirstFrom (says (L image)) (next image from) (from_key (key_in (L image)) (as_given (L image) from) (scan (L image) image))
  pub never_refused : (image : List ℕ) (from : ℕ) → check image ≡ answered [] → refuses (next image from) ≡ false
  pub lists : (image : List ℕ) → Bytes image → check image ≡ answered [] → TreeLists (L image) image 0 (scan (L image) image)
  -- the number of an entry found is the first value handed out
  pub handed_out : (image entry : List ℕ) (pages : ℕ) → FirstValue (number_in (L image) entry) (says (L image) (found entry pages))
  -- in any image at all: the count is the number of pages read, at most twice the root's level plus one are read, and nothing else changes the answer
  pub found_count : (image : List ℕ) (from : ℕ) (entry : List ℕ) (pages : ℕ) → next image from ≡ says (L image) (found entry pages) → pages ≡ length (pages_read AtLeast (L image) image from)
  pub absent_count : (image : List ℕ) (from pages : ℕ) → next image from ≡ says (L image) (search.absent pages) → pages ≡ length (pages_read AtLeast (L image) image from)
  pub few : (image : List ℕ) (from : ℕ) → length (pages_read AtLeast (L image) image from) ≤ 2 * root_level (L image) image + 1
  pub off_read : (from : ℕ) (one other : List ℕ) → AgreeOnRead AtLeast (L one) from one other → next one from ≡ next other from
