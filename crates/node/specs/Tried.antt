-- The rules that a node read tries, in the order in which it tries them. Assumes nothing: these are definitions.
use Rattle.std.specs.Prelude.{ℕ, cond, List, [], ◌∷◌, ◌++◌, leb, eqb, length, Result, Ok, Err}
use Rattle.le.specs.Bytes.{part, field}
use Rattle.refusal.specs.declared.Fault.TheVariants.{DataTree, ShortBuffer}
use Rattle.refusal.specs.Order.{◌at◌, ◌needing◌, Rule, rule}
use Rattle.keys.specs.declared.Sought.TheVariants.{Equal}
use Rattle.keys.specs.Records.{cleared}
use Rattle.keys.specs.Search.{joined}
use Rattle.tree.specs.Lookup.{search_rules}
use Rattle.tree.specs.Answers.{node_of}
use Rattle.block.specs.Block.{checked_block, internal}
use Rattle.block.specs.Tried.{test_rules}
use Rattle.edition.specs.declared.Edition.{Edition}
use Rattle.node.specs.Content.{Content, bytes, absent, refused, numbers_in, shape_fits, Kids, all, fault, kids_of, total, node_content}
use Rattle.refusal.specs.declared.Refusal.{Refusal}
use Rattle.tree.specs.declared.Found.{Found}
use Rattle.tree.specs.declared.Node.{Node}
use Rattle.tree.specs.declared.Listed.{Listed}
use Rattle.tree.specs.declared.Found.TheVariants.{Absent, Entry}

-- "then the sum of sizes equals the four bytes at 4, else 16"
unfoldable pub sum_rules : ℕ → List ℕ → Kids → List Rule
sum_rules offset g (all bs) = rule (eqb (total bs) (field g 4 4)) (DataTree at offset) ∷ []
sum_rules offset g (fault r) = []

-- a data tree whose root block, at this offset, has the bytes g: its shape, each child in turn, the sum
unfoldable pub data_tree_rules : Edition → List ℕ → ℕ → List ℕ → List Rule
data_tree_rules E image offset g =
    rule (shape_fits E.tree g) (DataTree at offset) ∷ (joined (test_rules E image) (numbers_in E.tree g) ++ sum_rules offset g (kids_of E image (numbers_in E.tree g)))

-- a data block that passed its tests
unfoldable pub passed_rules : Edition → List ℕ → Result Listed Refusal → List Rule
passed_rules E image (Ok b) = cond (internal b.block) (data_tree_rules E image b.offset (part image b.offset b.size)) []
passed_rules E image (Err r) = []

-- "Number 0: no bytes. Any other is looked up and tested (12 to 15)." "A data block number of 1 counts as 0."
unfoldable pub data_block_rules : Edition → List ℕ → ℕ → List Rule
data_block_rules E image number = cond (eqb (cleared number) 0) [] (test_rules E image number ++ passed_rules E image (checked_block E image number))

unfoldable pub found_rules : Edition → List ℕ → Result (Found Node) Refusal → List Rule
found_rules E image (Ok (Entry n pages)) = data_block_rules E image n.block
found_rules E image (Ok (Absent pages)) = []
found_rules E image (Err r) = []

-- "Node data: node lookup (absent is answered), then its data block."
unfoldable pub content_rules : Edition → List ℕ → ℕ → List Rule
content_rules E image number = search_rules Equal E.nodes image number ++ found_rules E image (node_of E.nodes image number)

-- "then 17"
unfoldable pub buffer_rules : Content → ℕ → List Rule
buffer_rules (bytes s) space = rule (leb (length s) space) (ShortBuffer needing length s) ∷ []
buffer_rules absent space = []
buffer_rules (refused r) space = []

-- a read into a buffer of this length
unfoldable pub data_rules : Edition → List ℕ → ℕ → ℕ → List Rule
data_rules E image number space = content_rules E image number ++ buffer_rules (node_content E image number) space
