-- Refusals 11 and 21 of the public calls. Assumes nothing.
use mathlib.Core.List.{List}
use lib.ListN.{length}
use Rattle.refusal.specs.declared.Refusal.{Refusal}
use Rattle.refusal.specs.Order.{Rule}
use Rattle.keys.specs.declared.Sought.TheVariants.{Equal, AtLeast}
use Rattle.page.proofs.KeyFaults.{key_faults}
use Rattle.tree.proofs.KeyFaults.{KeysTell, tree_tells, search_tells, root_never}
use Rattle.block.proofs.KeyFaults.{test_tells, read_tells}
use Rattle.node.proofs.KeyFaults.{data_tells}
use Rattle.header.specs.Header.{edition_of, nodes_of, blocks_of}
use Rattle.pst.specs.Meaning.{Meaning}
use Rattle.pst.specs.Demands.{Told, KeysTold, SecondRequest}
use Rattle.pst.proofs.FirstDemand.{first_demand}

-- a call is refused with the first fault of the rules that it tries
told_keys : {A : Type 0} {means : A → Meaning} {rules : List Rule} {outcome : Meaning} {P : Refusal → Type 0} → Told means rules outcome → KeysTell P rules → KeysTold P outcome
told_keys told tells r refused k = tells r ((told.first_fault r).0 refused) k

pub second_request : SecondRequest
second_request =
    record {
      pages = key_faults;
      root_never = root_never;
      check_nodes = λ image. told_keys (first_demand.check_nodes image) (tree_tells (nodes_of image) image);
      check_blocks = λ image. told_keys (first_demand.check_blocks image) (tree_tells (blocks_of image) image);
      find_node = λ image node. told_keys (first_demand.find_node image node) (search_tells (nodes_of image) image Equal node);
      find_block = λ image block. told_keys (first_demand.find_block image block) (search_tells (blocks_of image) image Equal block);
      next_node = λ image from. told_keys (first_demand.next_node image from) (search_tells (nodes_of image) image AtLeast from);
      next_block = λ image from. told_keys (first_demand.next_block image from) (search_tells (blocks_of image) image AtLeast from);
      test_block = λ image block. told_keys (first_demand.test_block image block) (test_tells (edition_of image) image block);
      read_block = λ image block out. told_keys (first_demand.read_block image block out) (read_tells (edition_of image) image block (length out));
      read_node = λ image node out. told_keys (first_demand.read_node image node out) (data_tells (edition_of image) image node (length out));
    }
