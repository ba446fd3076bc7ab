-- A block's rules 13 to 15 as a plain conjunction, with no order in it. Assumes nothing: these are definitions.
use Rattle.std.specs.Prelude.{ℕ, ◌+◌, ◌%◌, ◌≤◌, ◌≡◌, List, Ok}
use Rattle.le.specs.Bytes.{field}
use Rattle.crc.specs.Checksum.{checksum}
use Rattle.keys.specs.Records.{cleared}
use Rattle.header.specs.Header.{file_end}
use Rattle.page.specs.Page.{signature}
use Rattle.tree.specs.declared.Listed.{Listed}
use Rattle.tree.specs.Answers.{block_of}
use Rattle.edition.specs.declared.Trailer.{Trailer}
use Rattle.edition.specs.declared.Edition.{Edition}
use Rattle.block.specs.Block.{room_for, stored, trailer_of}
use Rattle.tree.specs.declared.Found.TheVariants.{Entry}

pub record BlockSound (t : Trailer) (image : List ℕ) (b : Listed) : Type 0 where
  pub size_low : 1 ≤ b.size
  pub size_high : b.size ≤ t.most
  pub step : b.offset % 64 ≡ 0
  pub least : 17408 ≤ b.offset
  pub ends : b.offset + room_for t b.size ≤ file_end image
  pub size_same : field (trailer_of t image b) 0 2 ≡ b.size
  pub number_same : cleared (field (trailer_of t image b) t.number t.word) ≡ cleared b.block
  pub signed : field (trailer_of t image b) 2 2 ≡ signature b.offset b.block
  pub summed : field (trailer_of t image b) t.checksum 4 ≡ checksum (stored t image b)

-- a block that the block tree lists under this number, and whose rules hold
pub record ListedSound (E : Edition) (image : List ℕ) (number : ℕ) (b : Listed) : Type 0 where
  pub pages : ℕ
  pub found : block_of E.blocks image number ≡ Ok (Entry b pages)
  pub sound : BlockSound E.trailer image b
