-- The rules that a block test and a block read try, in the order in which they try them. Assumes nothing: these are definitions.
use Rattle.std.specs.Prelude.{ℕ, false, List, [], ◌∷◌, ◌++◌, leb, Result, Ok, Err}
use Rattle.refusal.specs.declared.Fault.TheVariants.{BlockUnlisted, ShortBuffer}
use Rattle.refusal.specs.Order.{◌at◌, ◌needing◌, Rule, rule}
use Rattle.keys.specs.declared.Sought.TheVariants.{Equal}
use Rattle.tree.specs.Lookup.{search_rules}
use Rattle.tree.specs.Answers.{block_of}
use Rattle.edition.specs.declared.Edition.{Edition}
use Rattle.block.specs.Block.{block_rules, checked_block}
use Rattle.refusal.specs.declared.Refusal.{Refusal}
use Rattle.tree.specs.declared.Found.{Found}
use Rattle.tree.specs.declared.Listed.{Listed}
use Rattle.tree.specs.declared.Found.TheVariants.{Absent, Entry}

-- of what the lookup found: "12; then 13 ...; 14 ...; 15 ..."
unfoldable pub listed_rules : Edition → List ℕ → Result (Found Listed) Refusal → List Rule
listed_rules E image (Ok (Entry b n)) = block_rules E.trailer image b
listed_rules E image (Ok (Absent n)) = rule false (BlockUnlisted at 0) ∷ []
listed_rules E image (Err r) = []

-- a block test: the lookup's rules, then those
unfoldable pub test_rules : Edition → List ℕ → ℕ → List Rule
test_rules E image number = search_rules Equal E.blocks image number ++ listed_rules E image (block_of E.blocks image number)

-- 17, of a block that passed its tests
unfoldable pub space_rules : Result Listed Refusal → ℕ → List Rule
space_rules (Ok b) space = rule (leb b.size space) (ShortBuffer needing b.size) ∷ []
space_rules (Err r) space = []

-- a block read into a buffer of this length: "the tests, then 17"
unfoldable pub read_rules : Edition → List ℕ → ℕ → ℕ → List Rule
read_rules E image number space = test_rules E image number ++ space_rules (checked_block E image number) space
