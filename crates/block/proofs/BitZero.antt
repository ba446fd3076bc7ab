-- Blocks under numbers that differ only in bit 0 are one block. Assumes nothing.
use Prim.Native.Nat.{ℕ}
use mathlib.Core.Path.{◌≡◌, ap}
use mathlib.Core.List.{List}
use Rattle.keys.specs.Records.{cleared}
use Rattle.tree.specs.Answers.{shown, as_block, block_of}
use Rattle.tree.proofs.BitZero.{bit_zero_unread}
use Rattle.edition.specs.declared.Edition.{Edition}
use Rattle.edition.specs.Fair.{FairEdition}
use Rattle.block.specs.Block.{block_fits, tested_by, checked_block}

module _ (E : Edition) (fair : FairEdition E) (image : List ℕ) (one other : ℕ) (same : cleared one ≡ cleared other) where
  pub found_alike : block_of E.blocks image one ≡ block_of E.blocks image other
  unfolding block_of
  found_alike = ap (λ a. as_block (shown E.blocks a)) (bit_zero_unread E.blocks image one other fair.blocks fair.reserved same).answers

  pub checked_alike : checked_block E image one ≡ checked_block E image other
  unfolding checked_block
  checked_alike = ap (tested_by (block_fits E.trailer image)) found_alike
