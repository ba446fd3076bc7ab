-- What a node read hands out: the bytes of exactly the blocks that the node's data names, in order. Assumes nothing: these are definitions.
use Rattle.std.specs.Prelude.{ℕ, ◌+◌, ◌*◌, ◌≤◌, ◌≡◌, true, false, List, [], ◌∷◌, length, Ok}
use Rattle.le.specs.Bytes.{part, field, byte}
use Rattle.keys.specs.Plain.{All}
use Rattle.keys.specs.Records.{cleared}
use Rattle.keys.specs.Search.{joined}
use Rattle.tree.specs.declared.Listed.{Listed}
use Rattle.tree.specs.declared.Node.{Node}
use Rattle.tree.specs.Answers.{node_of}
use Rattle.block.specs.Block.{checked_block, internal, block_bytes}
use Rattle.edition.specs.declared.Edition.{Edition}
use Rattle.node.specs.Content.{count_in, numbers_in, total}
use Rattle.tree.specs.declared.Found.TheVariants.{Entry}

-- each number is listed in the block tree, as the block beside it, which passes its tests
pub data ListedAs (E : Edition) (image : List ℕ) : List ℕ → List Listed → Type 0 where
  none : ListedAs E image [] []
  one : {n : ℕ} {ns : List ℕ} {b : Listed} {bs : List Listed} → checked_block E image n ≡ Ok b → ListedAs E image ns bs → ListedAs E image (n ∷ ns) (b ∷ bs)

-- the rules of a data tree with the root bytes g and the children bs, as a plain conjunction
pub record DataTreeSound (E : Edition) (image g : List ℕ) (bs : List Listed) : Type 0 where
  pub first : (byte g 0 ≡ 1) × (byte g 1 ≡ 1)
  pub count : (1 ≤ count_in g) × (count_in g ≤ E.tree.most)
  pub size : length g ≡ 8 + count_in g * E.tree.word
  pub outer : All (λ n. internal n ≡ false) (numbers_in E.tree g)
  pub listed : ListedAs E image (numbers_in E.tree g) bs
  pub sum : total bs ≡ field g 4 4

-- what a listed data block b, which has passed its tests, hands out: its own bytes decoded, or those of its children in order
pub data Hands (E : Edition) (image : List ℕ) (b : Listed) : List ℕ → Type 0 where
  own : internal b.block ≡ false → Hands E image b (block_bytes image b)
  children : {bs : List Listed} → internal b.block ≡ true → DataTreeSound E image (part image b.offset b.size) bs
      → Hands E image b (joined (block_bytes image) bs)

-- the data of a node: none where its data block is 0 or counts as 0, else what its data block hands out
pub data Named (E : Edition) (image : List ℕ) (node : ℕ) : List ℕ → Type 0 where
  nothing : {n : Node} {pages : ℕ} → node_of E.nodes image node ≡ Ok (Entry n pages) → cleared n.block ≡ 0 → Named E image node []
  something : {n : Node} {pages : ℕ} {b : Listed} {s : List ℕ} → node_of E.nodes image node ≡ Ok (Entry n pages) → (cleared n.block ≡ 0 → ⊥)
      → checked_block E image n.block ≡ Ok b → Hands E image b s → Named E image node s
