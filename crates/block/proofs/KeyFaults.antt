-- Refusals 11 and 21 of a block test and a block read: those of the block tree. Assumes nothing.
use Prim.Native.Nat.{ℕ}
use mathlib.Core.Path.{refl}
use mathlib.Core.List.{List}
use Rattle.keys.specs.declared.Sought.TheVariants.{Equal}
use Rattle.tree.specs.Answers.{block_of}
use Rattle.tree.specs.KeyFaults.{KeyFault}
use Rattle.tree.proofs.KeyFaults.{Quiet, KeysTell, quiet_tell, append_tell, search_tells}
use Rattle.edition.specs.declared.Edition.{Edition}
use Rattle.block.specs.Block.{trailer_rules, block_rules, checked_block}
use Rattle.block.specs.Tried.{listed_rules, test_rules, space_rules, read_rules}
use Rattle.std.specs.Prelude.{Result, Ok, Err}
use Rattle.refusal.specs.declared.Refusal.{Refusal}
use Rattle.tree.specs.declared.Found.{Found}
use Rattle.tree.specs.declared.Listed.{Listed}
use Rattle.tree.specs.declared.Found.TheVariants.{Absent, Entry}

listed_quiet : (E : Edition) (image : List ℕ) (found : Result (Found Listed) Refusal) → Quiet (listed_rules E image found)
unfolding listed_rules block_rules trailer_rules
listed_quiet E image (Ok (Entry b n)) = (refl, (refl, (refl, tt)))
listed_quiet E image (Ok (Absent n)) = (refl, tt)
listed_quiet E image (Err r) = tt

space_quiet : (found : Result Listed Refusal) (space : ℕ) → Quiet (space_rules found space)
unfolding space_rules
space_quiet (Ok b) space = (refl, tt)
space_quiet (Err r) space = tt

pub test_tells : (E : Edition) (image : List ℕ) (number : ℕ) → KeysTell (KeyFault E.blocks image) (test_rules E image number)
unfolding test_rules
test_tells E image number = append_tell (KeyFault E.blocks image) _ _ (search_tells E.blocks image Equal number) (quiet_tell (KeyFault E.blocks image) _ (listed_quiet E image (block_of E.blocks image number)))

pub read_tells : (E : Edition) (image : List ℕ) (number space : ℕ) → KeysTell (KeyFault E.blocks image) (read_rules E image number space)
unfolding read_rules
read_tells E image number space = append_tell (KeyFault E.blocks image) _ _ (test_tells E image number) (quiet_tell (KeyFault E.blocks image) _ (space_quiet (checked_block E image number) space))
