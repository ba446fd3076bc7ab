-- What the steps of a node read come to. Assumes nothing: these are definitions.
use Rattle.std.specs.Prelude.{ℕ, ◌≡◌, List, [], Option, None, Result, Ok, Err}
use Rattle.keys.specs.Plain.{All}
use Rattle.tree.specs.declared.Found.{Found}
use Rattle.tree.specs.declared.Listed.{Listed}
use Rattle.tree.specs.declared.Node.{Node}
use Rattle.block.specs.Block.{checked_block, block_bytes}
use Rattle.edition.specs.declared.Edition.{Edition}
use Rattle.node.specs.Content.{Kids, all, fault, total}
use Rattle.refusal.specs.declared.Refusal.{Refusal}

-- the tests of the children: the sum of their sizes, or the first refusal
unfoldable pub measured_in : Kids → Result ℕ Refusal
measured_in (all bs) = Ok (total bs)
measured_in (fault r) = Err r

-- a number that is listed as a block which passes its tests
pub record IsListed (E : Edition) (image : List ℕ) (n : ℕ) : Type 0 where
  pub block : Listed
  pub is : checked_block E image n ≡ Ok block

abbrev pub AllListed : Edition → List ℕ → List ℕ → Type 0
AllListed E image ns = All (IsListed E image) ns

-- the bytes of the block that is listed under a number
unfoldable pub bytes_in : List ℕ → Result Listed Refusal → List ℕ
bytes_in image (Ok b) = block_bytes image b
bytes_in image (Err r) = []

unfoldable pub bytes_at : Edition → List ℕ → ℕ → List ℕ
bytes_at E image n = bytes_in image (checked_block E image n)

-- what a read answers where the lookup found no node
unfoldable pub gone_read : Result (Found Node) Refusal → Result (Option ℕ) Refusal
gone_read (Ok f) = Ok None
gone_read (Err r) = Err r
