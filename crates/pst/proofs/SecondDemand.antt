-- Demand 2. Assumes nothing.
use Prim.Native.Nat.{ℕ, ◌≤◌}
use mathlib.Core.Path.{◌≡◌, refl, sym, ap, ◌∙◌, subst}
use mathlib.Core.Bool.{Bool, true, false, cond}
use mathlib.Core.Logic.{◌↔◌}
use mathlib.Core.List.{List, [], ◌∷◌, ◌++◌, map}
use native.Mathlib.Omega.{arith}
use lib.Dec.{leb}
use lib.ListN.{length}
use borrow.Author.Tests.{leb-true, le-leb}
use Rattle.laws.proofs.Tests.{not_both}
use Rattle.refusal.specs.declared.Fault.TheVariants.{ShortBuffer}
use Rattle.refusal.specs.Order.{Verdict, ◌needing◌, after, AllHold}
use Rattle.refusal.proofs.OrderLaws.{goes, accepted_exactly}
use Rattle.coding.specs.Coding.{cyclic, word}
use Rattle.coding.specs.Table.{R, I}
use Rattle.coding.proofs.CodingLaws.{coded_permute, coded_cyclic}
use Rattle.coding.proofs.RoundTrip.{decoded_encoded, encoded_decoded}
use Rattle.le.specs.Bytes.{Bytes}
use Rattle.keys.specs.Search.{with_key}
use Rattle.search.specs.SearchTree.{test}
use Rattle.search.specs.Answer.{answer}
use Rattle.header.specs.declared.Header.{Header}
use Rattle.header.specs.Header.{edition_of, nodes_of, blocks_of, header_fits, header_of, says}
use Rattle.header.specs.Sound.{HeaderSound}
use Rattle.header.proofs.EditionLaws.{fair_edition}
use Rattle.header.proofs.HeaderLaws.{header_exactly}
use Rattle.tree.specs.declared.Listed.{Listed}
use Rattle.tree.specs.Tree.{tree_fits}
use Rattle.tree.specs.Sound.{TreeSound}
use Rattle.tree.proofs.Exactly.{tree_exactly}
use Rattle.laws.specs.Front.{fronted}
use Rattle.block.specs.Block.{checked_block, size_in, test_of, fitting, read_in, read_of, block_bytes}
use Rattle.block.proofs.BlockLaws.{read_fills}
use Rattle.block.proofs.Exactly.{checked_exactly}
use Rattle.node.specs.Content.{Content, node_content, answer_to, filled_by, most_data}
use Rattle.node.specs.Content as content
use Rattle.node.specs.Named.{Named}
use Rattle.node.proofs.Exactly.{node_exactly}
use Rattle.node.proofs.Most.{node_most}
use Rattle.heap.specs.Shape.{Heap, shape_rules, heap_test}
use Rattle.heap.specs.Items.{Numbered, item_test, item_start, item_length, item_part}
use Rattle.heap.proofs.ShapeLaws.{heap_exactly}
use Rattle.heap.proofs.ItemLaws.{item_exactly, item_taken, span_taken}
use Rattle.heaptree.specs.declared.Branch.{Branch}
use Rattle.heaptree.specs.Branches.{branch_rules}
use Rattle.heaptree.specs.Sound.{BranchSound}
use Rattle.heaptree.proofs.SoundLaws.{branch_exactly}
use Rattle.property.specs.declared.Property.TheVariants as property
use Rattle.property.specs.Context.{properties, Context, context_rules, context_test}
use Rattle.property.specs.Lookup.{property_from, property_rules}
use Rattle.property.specs.Lookup as lookup
use Rattle.property.specs.Scan.{PropertiesSound, id_of, property_records}
use Rattle.property.proofs.ContextLaws.{context_exactly}
use Rattle.property.proofs.TriedLaws.{property_answered_exactly}
use Rattle.refusal.proofs.OrderLaws.{refusal_in}
use Rattle.property.proofs.ScanLaws.{scan_holds}
use Rattle.pst.specs.Meaning.{answered, refuses, refusal_means, verdict_means, header_means, block_means, sized_means, data_means, span_means, property_means}
use Rattle.pst.specs.Outcomes.{header_outcome, nodes_outcome, blocks_outcome, block_outcome, test_outcome, read_outcome, read_buffer, data_outcome, data_buffer, encode_buffer, decode_buffer, heap_outcome, test_item_outcome, item_outcome, span_outcome, property_outcome}
use Rattle.pst.specs.Demands.{SoundBlock, BlockOfSize, DataOfSize, SecondDemand}
use Rattle.pst.proofs.Injective.{verdict_injective, header_injective, block_injective, sized_injective, data_injective}
use Rattle.std.specs.Prelude.{Option, Some, None, Result, Ok, Err}
use Rattle.refusal.specs.declared.Refusal.{Refusal}
use Rattle.property.specs.declared.Property.{Property}
use Rattle.tree.specs.declared.Found.TheVariants.{Entry}

both_ways : {A B C : Type 0} → A ↔ B → B ↔ C → A ↔ C
both_ways p q = ((λ a. q.0 (p.0 a)), (λ c. p.1 (q.1 c)))

-- an acceptance and what it means
accepted_means : (v : Verdict) → (verdict_means v ≡ answered []) ↔ (v ≡ Ok tt)
unfolding verdict_means
accepted_means v = ((λ e. verdict_injective v (Ok tt) e), (λ e. ap verdict_means e))

-- the header
header_says : (v : Verdict) (h : Header) → after Err v (Ok h) ≡ Ok h → v ≡ Ok tt
unfolding after
header_says (Ok tt) h e = refl
header_says (Err r) h e = cc

header_holds : (image : List ℕ) → (header_outcome image ≡ header_means (Ok (says image))) ↔ HeaderSound image
unfolding header_outcome header_of
header_holds image = (
  (λ e. (header_exactly image).0 (header_says (header_fits image) (says image) (header_injective _ _ e))),
  (λ s. ap header_means (goes Err _ _ ((header_exactly image).1 s))),
)

-- the trees
node_tree_holds : (image : List ℕ) → (nodes_outcome image ≡ answered []) ↔ TreeSound (nodes_of image) image
unfolding nodes_outcome
node_tree_holds image = both_ways (accepted_means (tree_fits (nodes_of image) image)) (tree_exactly (nodes_of image) image)

block_tree_holds : (image : List ℕ) → (blocks_outcome image ≡ answered []) ↔ TreeSound (blocks_of image) image
unfolding blocks_outcome
block_tree_holds image = both_ways (accepted_means (tree_fits (blocks_of image) image)) (tree_exactly (blocks_of image) image)

size_is : {m n : ℕ} → ◌≡◌ {A = Result ℕ Refusal} (Ok m) (Ok n) → m ≡ n
size_is e = cc

block_size : (b : Listed) (size : ℕ) → b.size ≡ size → sized_means (Ok b.size) ≡ answered (size ∷ [])
unfolding sized_means
block_size b size e = ap (λ (n : ℕ). answered (n ∷ [])) e

read_is : (image : List ℕ) (number space : ℕ) → read_in (checked_block (edition_of image) image number) space ≡ read_of (edition_of image) image number space
unfolding read_of
read_is image number space = refl

-- a block that passed its tests
module _ (image : List ℕ) (number : ℕ) where
  -- what the public lookup says of it
  checked_sound : (b : Listed) → checked_block (edition_of image) image number ≡ Ok b → SoundBlock image number b
  unfolding block_outcome
  checked_sound b e = let h = (checked_exactly (edition_of image) image number b).0 e in record { pages = h.pages; found = ap block_means h.found; sound = h.sound }

  sound_checked : (b : Listed) → SoundBlock image number b → checked_block (edition_of image) image number ≡ Ok b
  unfolding block_outcome
  sound_checked b s =
      (checked_exactly (edition_of image) image number b).1 (record { pages = s.pages; found = block_injective _ (Ok (Entry b s.pages)) s.found; sound = s.sound })

  size_block : (c : Result Listed Refusal) (size : ℕ) → checked_block (edition_of image) image number ≡ c → size_in c ≡ Ok size → BlockOfSize image number size
  unfolding size_in
  size_block (Ok b) size e q = record { listed = b; sound = checked_sound b e; same_size = size_is q }
  size_block (Err r) size e q = let clash : ◌≡◌ {A = ℕ} 0 1 = cc in absurd (omega arith)

  tested_holds : (size : ℕ) → (test_outcome image number ≡ answered (size ∷ [])) ↔ BlockOfSize image number size
  unfolding test_outcome test_of sized_means size_in
  tested_holds size = (
    (λ e. size_block (checked_block (edition_of image) image number) size refl (sized_injective _ (Ok size) e)),
    (λ b. ap (λ c. sized_means (size_in c)) (sound_checked b.listed b.sound) ∙ block_size b.listed size b.same_size),
  )

  -- a read asks for room besides
  space_block : (c : Result Listed Refusal) (size space : ℕ) → checked_block (edition_of image) image number ≡ c → read_in c space ≡ Ok size → BlockOfSize image number size × (size ≤ space)
  unfolding read_in fitting
  space_block (Ok b) size space e q = by (leb b.size space) refl q
    where
      by : (w : Bool) → leb b.size space ≡ w → cond w (Ok b.size) (Err (ShortBuffer needing b.size)) ≡ Ok size → BlockOfSize image number size × (size ≤ space)
      by true t z =
          let same : b.size ≡ size = size_is z in
          (record { listed = b; sound = checked_sound b e; same_size = same }, subst (λ (n : ℕ). n ≤ space) same (leb-true b.size space t))
      by false t z = let clash : ◌≡◌ {A = ℕ} 0 1 = cc in absurd (omega arith)
  space_block (Err r) size space e q = let clash : ◌≡◌ {A = ℕ} 0 1 = cc in absurd (omega arith)

  read_holds : (size : ℕ) (out : List ℕ) → (read_outcome image number out ≡ answered (size ∷ [])) ↔ (BlockOfSize image number size × (size ≤ length out))
  unfolding read_outcome sized_means
  read_holds size out = (
    (λ e. space_block (checked_block (edition_of image) image number) size (length out) refl (read_is image number (length out) ∙ sized_injective _ (Ok size) e)),
    (λ b. ap sized_means (sym (read_fills (edition_of image) image number out b.0.listed (sound_checked b.0.listed b.0.sound) (rw b.0.same_size b.1)).0)
        ∙ block_size b.0.listed size b.0.same_size),
  )

  bytes_hold : (out : List ℕ) (b : Listed) → SoundBlock image number b → b.size ≤ length out → read_buffer image number out ≡ fronted (block_bytes image b) out
  unfolding read_buffer
  bytes_hold out b s h = sym (read_fills (edition_of image) image number out b (sound_checked b s) h).1

-- node data
length_is : {m n : ℕ} → ◌≡◌ {A = Result (Option ℕ) Refusal} (Ok (Some m)) (Ok (Some n)) → m ≡ n
length_is e = cc

module _ (image : List ℕ) (node : ℕ) where
  content_data : (c : Content) (size space : ℕ) → node_content (edition_of image) image node ≡ c → answer_to c space ≡ Ok (Some size) → DataOfSize image node space size
  unfolding answer_to
  content_data (content.bytes s) size space e q = by (leb (length s) space) refl q
    where
      by : (w : Bool) → leb (length s) space ≡ w → cond w (Ok (Some (length s))) (Err (ShortBuffer needing length s)) ≡ Ok (Some size) → DataOfSize image node space size
      by true t z =
          let same : length s ≡ size = length_is z in
          record { bytes = s; named = (node_exactly (edition_of image) image node s).0 e; long = same; fits = subst (λ (n : ℕ). n ≤ space) same (leb-true (length s) space t) }
      by false t z = let clash : ◌≡◌ {A = ℕ} 0 1 = cc in absurd (omega arith)
  content_data content.absent size space e q = let clash : ◌≡◌ {A = ℕ} 0 1 = cc in absurd (omega arith)
  content_data (content.refused r) size space e q = let clash : ◌≡◌ {A = ℕ} 0 1 = cc in absurd (omega arith)

  answer_fits : (s : List ℕ) (size space : ℕ) → length s ≡ size → size ≤ space → answer_to (content.bytes s) space ≡ Ok (Some size)
  unfolding answer_to
  answer_fits s size space e h = rw (e, le-leb size space h)

  data_holds : (size : ℕ) (out : List ℕ) → (data_outcome image node out ≡ answered (size ∷ [])) ↔ DataOfSize image node (length out) size
  unfolding data_outcome data_means
  data_holds size out = (
    (λ e. content_data (node_content (edition_of image) image node) size (length out) refl (data_injective _ (Ok (Some size)) e)),
    (λ d. ap data_means (ap (λ c. answer_to c (length out)) ((node_exactly (edition_of image) image node d.bytes).1 d.named) ∙ answer_fits d.bytes size (length out) d.long d.fits)),
  )

  buffer_fits : (s out : List ℕ) → length s ≤ length out → filled_by (content.bytes s) out ≡ fronted s out
  unfolding filled_by
  buffer_fits s out h = rw (le-leb (length s) (length out) h)

  data_fills : (out bytes : List ℕ) → Named (edition_of image) image node bytes → length bytes ≤ length out → data_buffer image node out ≡ fronted bytes out
  unfolding data_buffer
  data_fills out bytes n h = ap (λ c. filled_by c out) ((node_exactly (edition_of image) image node bytes).1 n) ∙ buffer_fits bytes out h

  data_most : (size : ℕ) (out : List ℕ) → data_outcome image node out ≡ answered (size ∷ []) → size ≤ most_data (edition_of image)
  data_most size out e =
      let d = (data_holds size out).0 e in
      subst (λ (n : ℕ). n ≤ most_data (edition_of image)) d.long
      (node_most (edition_of image) (fair_edition image) image node d.bytes ((node_exactly (edition_of image) image node d.bytes).1 d.named))

-- heaps and items
heap_holds : (block : List ℕ) → (heap_outcome block ≡ answered []) ↔ Heap block
unfolding heap_outcome
heap_holds block = both_ways (accepted_means (heap_test block)) (heap_exactly block)

item_holds : (block : List ℕ) (item : ℕ) → (test_item_outcome block item ≡ answered []) ↔ (Heap block × Numbered block item)
unfolding test_item_outcome
item_holds block item = both_ways (accepted_means (item_test block item)) (item_exactly block item)

item_bytes_hold : (block : List ℕ) (item : ℕ) → Heap block → Numbered block item → item_outcome block item ≡ item_part block item
unfolding item_outcome
item_bytes_hold block item h n = item_taken block item ((item_exactly block item).1 (h, n))

item_place_holds : (block : List ℕ) (item : ℕ) → Heap block → Numbered block item → span_outcome block item ≡ answered (item_start block item ∷ item_length block item ∷ [])
unfolding span_outcome span_means
item_place_holds block item h n = ap span_means (span_taken block item ((item_exactly block item).1 (h, n)))

-- properties
not_refused : (p : Result (Option Property) Refusal) → (refuses (property_means p) ≡ false) ↔ (refusal_in p ≡ Ok tt)
unfolding refuses property_means refusal_means refusal_in
not_refused (Ok (Some (property.Number type value))) = ((λ e. refl), (λ e. refl))
not_refused (Ok (Some (property.Empty type))) = ((λ e. refl), (λ e. refl))
not_refused (Ok (Some (property.Item type item))) = ((λ e. refl), (λ e. refl))
not_refused (Ok (Some (property.Subnode type subnode))) = ((λ e. refl), (λ e. refl))
not_refused (Ok None) = ((λ e. refl), (λ e. refl))
not_refused (Err r) = ((λ e. not_both true refl e), (λ e. cc))

property_holds : (block : List ℕ) (id : ℕ) → (refuses (property_outcome block id) ≡ false) ↔ AllHold (property_rules block id)
unfolding property_outcome
property_holds block id = both_ways (not_refused (lookup.property block id)) (property_answered_exactly block id)

swap : {A B : Type 0} → A ↔ B → B ↔ A
swap p = (p.1, p.0)

context_holds : (block : List ℕ) → AllHold (shape_rules block ++ context_rules block) ↔ (Heap block × Context block)
unfolding context_test
context_holds block = both_ways (swap (accepted_exactly (shape_rules block ++ context_rules block))) (context_exactly block)

branch_holds : (block : List ℕ) (levels : ℕ) (branch : Branch) → AllHold (branch_rules properties block levels branch) ↔ BranchSound properties block levels branch
unfolding test
branch_holds block levels branch = both_ways (swap (accepted_exactly (branch_rules properties block levels branch))) (branch_exactly properties block levels branch)

scanned_holds : (block : List ℕ) (id : ℕ) → PropertiesSound block → property_outcome block id ≡ property_means (property_from block (answer (with_key id_of id (property_records block)) 0))
unfolding property_outcome
scanned_holds block id sound = ap property_means ((scan_holds block sound).answers id)

-- the encodings
permuted_holds : (block : ℕ) (bytes : List ℕ) → (encode_buffer 1 block bytes ≡ map R bytes) × (decode_buffer 1 block bytes ≡ map I bytes)
unfolding encode_buffer decode_buffer
permuted_holds block bytes = (coded_permute R 1 block bytes refl, coded_permute I 1 block bytes refl)

cycled_holds : (block : ℕ) (bytes : List ℕ) → (encode_buffer 2 block bytes ≡ cyclic (word block) bytes) × (decode_buffer 2 block bytes ≡ cyclic (word block) bytes)
unfolding encode_buffer decode_buffer
cycled_holds block bytes = (coded_cyclic R 2 block bytes refl, coded_cyclic I 2 block bytes refl)

there_and_back : (method block : ℕ) (bytes : List ℕ) → Bytes bytes → decode_buffer method block (encode_buffer method block bytes) ≡ bytes
unfolding encode_buffer decode_buffer
there_and_back method block bytes h = decoded_encoded method block bytes h

back_and_there : (method block : ℕ) (bytes : List ℕ) → Bytes bytes → encode_buffer method block (decode_buffer method block bytes) ≡ bytes
unfolding encode_buffer decode_buffer
back_and_there method block bytes h = encoded_decoded method block bytes h

pub second_demand : SecondDemand
second_demand =
    record {
      header = header_holds;
      node_tree = node_tree_holds;
      block_tree = block_tree_holds;
      block_tested = tested_holds;
      block_read = read_holds;
      block_bytes_lem = bytes_hold;
      data_read = data_holds;
      data_bytes = data_fills;
      data_most = data_most;
      heap = heap_holds;
      item_tested = item_holds;
      item_bytes = item_bytes_hold;
      item_place = item_place_holds;
      property = property_holds;
      context = context_holds;
      branch = branch_holds;
      property_scanned = scanned_holds;
      permuted = permuted_holds;
      cycled = cycled_holds;
      decoded_encoded = there_and_back;
      encoded_decoded = back_and_there;
    }
