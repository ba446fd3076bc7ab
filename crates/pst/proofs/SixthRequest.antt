-- The calls on an image, and where the file ends. Assumes nothing.
use Prim.Native.Nat.{ℕ}
use mathlib.Core.Path.{◌≡◌, ap, ◌∙◌}
use mathlib.Core.Bool.{false}
use mathlib.Core.Logic.{◌↔◌}
use mathlib.Core.List.{List}
use lib.ListN.{length}
use Rattle.refusal.specs.declared.Fault.TheVariants.{ImageLength}
use Rattle.refusal.specs.declared.Refusal.{Refusal}
use Rattle.refusal.specs.Order.{◌at◌, Rule, FirstFault, here}
use Rattle.keys.specs.declared.Sought.TheVariants.{Equal, AtLeast}
use Rattle.edition.specs.declared.Edition.{Edition}
use Rattle.header.specs.Header.{length_fits, edition_of, nodes_of, blocks_of, end_place, mark_rules, header_rules}
use Rattle.header.specs.End.{Above, AlikeToEnd}
use Rattle.header.proofs.HeaderLaws.{end_both}
use Rattle.header.proofs.EditionLaws.{fair_nodes, fair_blocks, fair_edition}
use Rattle.header.proofs.EndLaws.{looks, edition_alike, answer_alike, end_refused}
use Rattle.page.proofs.EndLaws.{page_behind}
use Rattle.tree.specs.Tree.{tree_fits}
use Rattle.tree.specs.Answers.{node_of, block_of, next_node_of, next_block_of}
use Rattle.tree.proofs.EndLaws.{check_alike, node_alike, block_alike, next_node_alike, next_block_alike, search_first, check_first}
use Rattle.nodelist.specs.Places.{area_of}
use Rattle.nodelist.proofs.EndLaws.{area_alike}
use Rattle.block.specs.Block.{test_of, read_of, filled_of}
use Rattle.block.proofs.EndLaws.{sized_alike, read_alike, filled_alike, test_first, read_first, block_behind}
use Rattle.node.specs.Content.{Content, node_content, answer_to, filled_by}
use Rattle.node.proofs.EndLaws.{content_alike, data_first}
use Rattle.pst.specs.Meaning.{Meaning, refused, refusal_means, verdict_means, header_means, node_means, block_means, sized_means, data_means}
use Rattle.pst.specs.Outcomes.{header_outcome, nodes_outcome, blocks_outcome, node_outcome, list_area, block_outcome, next_node_outcome, next_block_outcome, test_outcome, read_outcome, read_buffer, data_outcome, data_buffer}
use Rattle.pst.specs.Demands.{Told, EndOfFile, SixthRequest}
use Rattle.pst.proofs.FirstDemand.{first_demand}

bounds_first : (image : List ℕ) → length_fits image ≡ false → FirstFault (header_rules image) (ImageLength at 0)
unfolding mark_rules
bounds_first image e = here e

above_holds : (image : List ℕ) → (header_outcome image ≡ refused 1 (end_place image) 0) ↔ Above image
unfolding refusal_means
above_holds image =
    let told = (first_demand.header image).first_fault (ImageLength at end_place image) in
    let first = end_refused image in
    ((λ e. first.0 (told.0 e)), (λ h. told.1 (first.1 h)))

bounds_hold : (image : List ℕ) → length_fits image ≡ false → header_outcome image ≡ refused 1 0 0
unfolding refusal_means
bounds_hold image e = ((first_demand.header image).first_fault (ImageLength at 0)).1 (bounds_first image e)

-- a call that answers alike images that are alike to the end, and refuses what the header is refused with
ends : {A : Type 0} {means : A → Meaning} {rules : List ℕ → List Rule} (call : List ℕ → Meaning) → ((image : List ℕ) → Told means (rules image) (call image))
    → ((one other : List ℕ) → AlikeToEnd one other → call one ≡ call other)
    → ((image : List ℕ) (r : Refusal) → FirstFault (header_rules image) r → FirstFault (rules image) r) → EndOfFile call
ends call told alike first =
    record {
      looks = looks call alike;
      header_first = λ image r e. ((told image).first_fault r).1 (first image r (((first_demand.header image).first_fault r).0 e));
    }

-- what the calls say of what the layers below answer
header_same : (one other : List ℕ) → AlikeToEnd one other → header_outcome one ≡ header_outcome other
unfolding header_outcome
header_same one other alike = ap header_means (answer_alike one other alike)

nodes_same : (one other : List ℕ) → AlikeToEnd one other → nodes_outcome one ≡ nodes_outcome other
unfolding nodes_outcome
nodes_same one other alike =
    ap verdict_means (check_alike (nodes_of one) one other alike (fair_nodes one)) ∙ ap (λ (E : Edition). verdict_means (tree_fits E.nodes other)) (edition_alike one other alike)

blocks_same : (one other : List ℕ) → AlikeToEnd one other → blocks_outcome one ≡ blocks_outcome other
unfolding blocks_outcome
blocks_same one other alike =
    ap verdict_means (check_alike (blocks_of one) one other alike (fair_blocks one)) ∙ ap (λ (E : Edition). verdict_means (tree_fits E.blocks other)) (edition_alike one other alike)

node_same : (node : ℕ) (one other : List ℕ) → AlikeToEnd one other → node_outcome one node ≡ node_outcome other node
unfolding node_outcome
node_same node one other alike =
    ap node_means (node_alike (nodes_of one) (fair_nodes one) one other alike node) ∙ ap (λ (E : Edition). node_means (node_of E.nodes other node)) (edition_alike one other alike)

block_same : (block : ℕ) (one other : List ℕ) → AlikeToEnd one other → block_outcome one block ≡ block_outcome other block
unfolding block_outcome
block_same block one other alike =
    ap block_means (block_alike (blocks_of one) (fair_blocks one) one other alike block) ∙ ap (λ (E : Edition). block_means (block_of E.blocks other block)) (edition_alike one other alike)

next_node_same : (from : ℕ) (one other : List ℕ) → AlikeToEnd one other → next_node_outcome one from ≡ next_node_outcome other from
unfolding next_node_outcome
next_node_same from one other alike =
    ap node_means (next_node_alike (nodes_of one) (fair_nodes one) one other alike from) ∙ ap (λ (E : Edition). node_means (next_node_of E.nodes other from)) (edition_alike one other alike)

next_block_same : (from : ℕ) (one other : List ℕ) → AlikeToEnd one other → next_block_outcome one from ≡ next_block_outcome other from
unfolding next_block_outcome
next_block_same from one other alike =
    ap block_means (next_block_alike (blocks_of one) (fair_blocks one) one other alike from) ∙ ap (λ (E : Edition). block_means (next_block_of E.blocks other from)) (edition_alike one other alike)

test_same : (block : ℕ) (one other : List ℕ) → AlikeToEnd one other → test_outcome one block ≡ test_outcome other block
unfolding test_outcome
test_same block one other alike =
    ap sized_means (sized_alike (edition_of one) (fair_edition one) one other alike block) ∙ ap (λ (E : Edition). sized_means (test_of E other block)) (edition_alike one other alike)

read_same : (block : ℕ) (out one other : List ℕ) → AlikeToEnd one other → read_outcome one block out ≡ read_outcome other block out
unfolding read_outcome
read_same block out one other alike =
    ap sized_means (read_alike (edition_of one) (fair_edition one) one other alike block (length out)) ∙ ap (λ (E : Edition). sized_means (read_of E other block (length out))) (edition_alike one other alike)

content_same : (node : ℕ) (one other : List ℕ) → AlikeToEnd one other → node_content (edition_of one) one node ≡ node_content (edition_of other) other node
content_same node one other alike =
    content_alike (edition_of one) (fair_edition one) one other alike node ∙ ap (λ (E : Edition). node_content E other node) (edition_alike one other alike)

data_same : (node : ℕ) (out one other : List ℕ) → AlikeToEnd one other → data_outcome one node out ≡ data_outcome other node out
unfolding data_outcome
data_same node out one other alike = ap (λ (c : Content). data_means (answer_to c (length out))) (content_same node one other alike)

area_same : (nodes area one other : List ℕ) → AlikeToEnd one other → list_area one nodes area ≡ list_area other nodes area
unfolding list_area
area_same nodes area one other alike =
    area_alike (nodes_of one) (fair_nodes one) one other alike nodes area ∙ ap (λ (E : Edition). area_of E.nodes other nodes area) (edition_alike one other alike)

buffer_same : (block : ℕ) (out one other : List ℕ) → AlikeToEnd one other → read_buffer one block out ≡ read_buffer other block out
unfolding read_buffer
buffer_same block out one other alike =
    filled_alike (edition_of one) (fair_edition one) one other alike block out ∙ ap (λ (E : Edition). filled_of E other block out) (edition_alike one other alike)

data_buffer_same : (node : ℕ) (out one other : List ℕ) → AlikeToEnd one other → data_buffer one node out ≡ data_buffer other node out
unfolding data_buffer
data_buffer_same node out one other alike = ap (λ (c : Content). filled_by c out) (content_same node one other alike)

pub sixth_request : SixthRequest
sixth_request =
    record {
      above = above_holds;
      out_of_bounds = bounds_hold;
      both_ends = end_both;
      page_behind = page_behind;
      block_behind = block_behind;
      header = ends header_outcome first_demand.header header_same (λ image r f. f);
      check_nodes = ends nodes_outcome first_demand.check_nodes nodes_same (λ image r f. check_first (nodes_of image) image r f);
      check_blocks = ends blocks_outcome first_demand.check_blocks blocks_same (λ image r f. check_first (blocks_of image) image r f);
      find_node = λ node. ends (λ image. node_outcome image node) (λ image. first_demand.find_node image node) (node_same node) (λ image r f. search_first (nodes_of image) image r f Equal node);
      find_block = λ block. ends (λ image. block_outcome image block) (λ image. first_demand.find_block image block) (block_same block) (λ image r f. search_first (blocks_of image) image r f Equal block);
      next_node = λ from. ends (λ image. next_node_outcome image from) (λ image. first_demand.next_node image from) (next_node_same from) (λ image r f. search_first (nodes_of image) image r f AtLeast from);
      next_block = λ from. ends (λ image. next_block_outcome image from) (λ image. first_demand.next_block image from) (next_block_same from) (λ image r f. search_first (blocks_of image) image r f AtLeast from);
      test_block = λ block. ends (λ image. test_outcome image block) (λ image. first_demand.test_block image block) (test_same block) (λ image r f. test_first (edition_of image) image r f block);
      read_block = λ block out. ends (λ image. read_outcome image block out) (λ image. first_demand.read_block image block out) (read_same block out) (λ image r f. read_first (edition_of image) image r f block (length out));
      read_node = λ node out. ends (λ image. data_outcome image node out) (λ image. first_demand.read_node image node out) (data_same node out) (λ image r f. data_first (edition_of image) image r f node (length out));
      find_nodes_area = λ nodes area. looks (λ image. list_area image nodes area) (area_same nodes area);
      read_block_buffer = λ block out. looks (λ image. read_buffer image block out) (buffer_same block out);
      read_node_buffer = λ node out. looks (λ image. data_buffer image node out) (data_buffer_same node out);
    }
