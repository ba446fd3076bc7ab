-- Document 01, "Node data". Assumes nothing: these are definitions.
use Rattle.std.specs.Prelude.{ℕ, zero, suc, ◌+◌, ◌*◌, Bool, true, not, ◌&&◌, cond, List, [], ◌∷◌, leb, eqb, length, Option, Some, None, Result, Ok, Err}
use Rattle.le.specs.Bytes.{part, field, byte}
use Rattle.refusal.specs.declared.Refusal.{Refusal}
use Rattle.refusal.specs.declared.Fault.TheVariants.{DataTree, ShortBuffer}
use Rattle.refusal.specs.Order.{◌at◌, ◌needing◌, demand, after}
use Rattle.keys.specs.Records.{cleared}
use Rattle.keys.specs.Search.{joined}
use Rattle.tree.specs.declared.Listed.{Listed}
use Rattle.tree.specs.Answers.{node_of}
use Rattle.laws.specs.Front.{fronted}
use Rattle.block.specs.Block.{checked_block, internal, block_bytes}
use Rattle.edition.specs.declared.Edition.{Edition}
use Rattle.edition.specs.declared.RootBlock.{RootBlock}
use Rattle.tree.specs.declared.Found.{Found}
use Rattle.tree.specs.declared.Node.{Node}
use Rattle.tree.specs.declared.Found.TheVariants.{Absent, Entry}

-- what a node's data is: its bytes; absent; or a refusal
pub data Content : Type 0 where
  bytes : List ℕ → Content
  absent : Content
  refused : Refusal → Content

-- of a data tree's root block g: "count c (two bytes at 2)", and its c numbers from 8, each as wide as the edition has them
unfoldable pub count_in : List ℕ → ℕ
count_in g = field g 2 2

unfoldable pub number_at : RootBlock → List ℕ → ℕ → ℕ
number_at d g i = field g (8 + i * d.word) d.word

unfoldable pub numbers_from : RootBlock → List ℕ → ℕ → ℕ → List ℕ
numbers_from d g i zero = []
numbers_from d g i (suc n) = number_at d g i ∷ numbers_from d g (i + 1) n

unfoldable pub numbers_in : RootBlock → List ℕ → List ℕ
numbers_in d g = numbers_from d g 0 (count_in g)

-- "all c numbers not internal"
unfoldable pub none_internal : List ℕ → Bool
none_internal [] = true
none_internal (n ∷ ns) = not (internal n) && none_internal ns

-- "byte 0 is 1, byte 1 is 1, count c is 1 to 1,021, size is 8 + 8c, all c numbers not internal"; 02, 7/13: "data trees of 8 + 4c bytes, c to 2,043". A block under 8 bytes has no such shape.
unfoldable pub shape_fits : RootBlock → List ℕ → Bool
shape_fits d g =
    leb 8 (length g) && eqb (byte g 0) 1 && eqb (byte g 1) 1 && leb 1 (count_in g) && leb (count_in g) d.most
    && eqb (length g) (8 + count_in g * d.word) && none_internal (numbers_in d g)

-- "each child, a number 0 too, looked up and tested (12 to 15) in turn": the blocks, or the first refusal
pub data Kids : Type 0 where
  all : List Listed → Kids
  fault : Refusal → Kids

unfoldable pub and_kids : Result Listed Refusal → Kids → Kids
and_kids (Ok b) (all bs) = all (b ∷ bs)
and_kids (Ok b) (fault r) = fault r
and_kids (Err r) kids = fault r

unfoldable pub kids_of : Edition → List ℕ → List ℕ → Kids
kids_of E image [] = all []
kids_of E image (n ∷ ns) = and_kids (checked_block E image n) (kids_of E image ns)

-- "the sum of sizes"
unfoldable pub total : List Listed → ℕ
total [] = 0
total (b ∷ bs) = b.size + total bs

-- "then the sum of sizes equals the four bytes at 4, else 16"; "Each child's bytes go into the buffer right behind those of the child before."
unfoldable pub gathered : List ℕ → ℕ → List ℕ → Kids → Content
gathered image offset g (fault r) = refused r
gathered image offset g (all bs) =
    after refused (demand (eqb (total bs) (field g 4 4)) (DataTree at offset)) (bytes (joined (block_bytes image) bs))

-- the data of a data tree whose root block, at this offset, has the bytes g as stored
unfoldable pub tree_content : Edition → List ℕ → ℕ → List ℕ → Content
tree_content E image offset g = after refused (demand (shape_fits E.tree g) (DataTree at offset)) (gathered image offset g (kids_of E image (numbers_in E.tree g)))

-- "Not internal: ... that block, decoded. Internal: ..."
unfoldable pub block_content : Edition → List ℕ → Listed → Content
block_content E image b = cond (internal b.block) (tree_content E image b.offset (part image b.offset b.size)) (bytes (block_bytes image b))

unfoldable pub checked_content : Edition → List ℕ → Result Listed Refusal → Content
checked_content E image (Ok b) = block_content E image b
checked_content E image (Err r) = refused r

-- "Number 0: no bytes. Any other is looked up and tested (12 to 15)." 02, 1/13: "A data block number of 1 counts as 0."
unfoldable pub data_of : Edition → List ℕ → ℕ → Content
data_of E image number = cond (eqb (cleared number) 0) (bytes []) (checked_content E image (checked_block E image number))

-- "Node data: node lookup (absent is answered), then its data block."
unfoldable pub found_content : Edition → List ℕ → Result (Found Node) Refusal → Content
found_content E image (Ok (Entry n pages)) = data_of E image n.block
found_content E image (Ok (Absent pages)) = absent
found_content E image (Err r) = refused r

unfoldable pub node_content : Edition → List ℕ → ℕ → Content
node_content E image number = found_content E image (node_of E.nodes image number)

-- how many bytes it has at most: "node data 0 to 8,347,696 bytes"; 02, 7/13: "up to 16,711,740 bytes"
unfoldable pub most_data : Edition → ℕ
most_data E = E.tree.most * E.trailer.most

-- the outcome of a read into a buffer of this length: "then 17". "The answer is the length, without a page count."
unfoldable pub answer_to : Content → ℕ → Result (Option ℕ) Refusal
answer_to (bytes s) space = cond (leb (length s) space) (Ok (Some (length s))) (Err (ShortBuffer needing length s))
answer_to absent space = Ok None
answer_to (refused r) space = Err r

-- and the buffer at exit: the data at its front, or as it was
unfoldable pub filled_by : Content → List ℕ → List ℕ
filled_by (bytes s) out = cond (leb (length s) (length out)) (fronted s out) out
filled_by absent out = out
filled_by (refused r) out = out
