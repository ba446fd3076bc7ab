-- Document 01, "Blocks and their encoding" (003, 2.2.2.8): a block's room, its tests 12 to 15, its bytes. Assumes nothing: these are definitions.
use Rattle.std.specs.Prelude.{ℕ, ◌+◌, ◌-◌, ◌*◌, ◌/◌, ◌%◌, Bool, ◌&&◌, cond, List, [], ◌∷◌, leb, eqb, length, Result, Ok, Err}
use Rattle.laws.specs.Front.{fronted}
use Rattle.le.specs.Bytes.{part, field}
use Rattle.crc.specs.Checksum.{checksum}
use Rattle.coding.specs.Coding.{decoded}
use Rattle.refusal.specs.declared.Fault.TheVariants.{BlockUnlisted, BlockOffset, BlockTrailer, BlockChecksum, ShortBuffer}
use Rattle.refusal.specs.Order.{Verdict, ◌at◌, ◌needing◌, Rule, rule, in_order, after}
use Rattle.keys.specs.Records.{cleared}
use Rattle.header.specs.Header.{file_end, method_of}
use Rattle.page.specs.Page.{signature}
use Rattle.tree.specs.declared.Listed.{Listed}
use Rattle.tree.specs.Answers.{block_of}
use Rattle.edition.specs.declared.Trailer.{Trailer}
use Rattle.edition.specs.declared.Edition.{Edition}
use Rattle.edition.specs.Editions.{trailer64, trailer32}
use Rattle.refusal.specs.declared.Refusal.{Refusal}
use Rattle.tree.specs.declared.Found.{Found}
use Rattle.tree.specs.declared.Found.TheVariants.{Absent, Entry}

-- "the smallest multiple of 64 that holds size + 16"; 02, 7/13: "trailers of 12 bytes"
unfoldable pub room_for : Trailer → ℕ → ℕ
room_for t size = (size + t.length + 63) / 64 * 64

unfoldable pub room : ℕ → ℕ
room size = room_for trailer64 size

unfoldable pub room32 : ℕ → ℕ
room32 size = room_for trailer32 size

-- 14: "size and number equal the BBT entry's, signature right", of a trailer's bytes. 02, 1/13: the number with bit 0 cleared on both sides; "Signature and cyclic key use the number as stored in the BBT leaf entry"
unfoldable pub trailer_fits : Trailer → Listed → List ℕ → Bool
trailer_fits t b bytes =
    eqb (field bytes 0 2) b.size && eqb (cleared (field bytes t.number t.word)) (cleared b.block)
    && eqb (field bytes 2 2) (signature b.offset b.block)

-- 15: "checksum of the size bytes as stored, before decoding"
unfoldable pub sum_fits : Trailer → List ℕ → List ℕ → Bool
sum_fits t bytes body = eqb (field bytes t.checksum 4) (checksum body)

unfoldable pub trailer_rules : Trailer → Listed → List ℕ → List ℕ → List Rule
trailer_rules t b bytes body =
    rule (trailer_fits t b bytes) (BlockTrailer at b.offset)
    ∷ rule (sum_fits t bytes body) (BlockChecksum at b.offset)
    ∷ []

module _ (t : Trailer) (image : List ℕ) (b : Listed) where
  -- a block's bytes as stored, and its trailer
  unfoldable pub stored : List ℕ
  stored = part image b.offset b.size

  unfoldable pub trailer_of : List ℕ
  trailer_of = part image (b.offset + (room_for t b.size - t.length)) t.length

  -- 13: "size 1 to 8,176 (7/13: or 8,180), offset a multiple of 64, at least 17,408, room inside the image"
  unfoldable pub place_fits : Bool
  place_fits =
      leb 1 b.size && leb b.size t.most && eqb (b.offset % 64) 0 && leb 17408 b.offset
      && leb (b.offset + room_for t b.size) (file_end image)

  unfoldable pub block_rules : List Rule
  block_rules = rule place_fits (BlockOffset at b.offset) ∷ trailer_rules t b trailer_of stored

  unfoldable pub block_fits : Verdict
  block_fits = in_order block_rules

-- a block that is looked up and tested: "12; then 13 ...; 14 ...; 15 ...". "A refusal out of an inner lookup is handed on unchanged"
unfoldable pub tested_by : (Listed → Verdict) → Result (Found Listed) Refusal → Result Listed Refusal
tested_by fits (Ok (Entry b n)) = after Err (fits b) (Ok b)
tested_by fits (Ok (Absent n)) = Err (BlockUnlisted at 0)
tested_by fits (Err r) = Err r

unfoldable pub checked_block : Edition → List ℕ → ℕ → Result Listed Refusal
checked_block E image number = tested_by (block_fits E.trailer image) (block_of E.blocks image number)

-- the outcome of the block test: its size, or the refusal
unfoldable pub size_in : Result Listed Refusal → Result ℕ Refusal
size_in (Ok b) = Ok b.size
size_in (Err r) = Err r

unfoldable pub test_of : Edition → List ℕ → ℕ → Result ℕ Refusal
test_of E image number = size_in (checked_block E image number)

-- "Bit 1 (value 2) of a block number marks an internal block. Internal blocks are never encoded; all others are, by the header's method."
unfoldable pub internal : ℕ → Bool
internal number = eqb (number / 2 % 2) 1

unfoldable pub plain : ℕ → ℕ → List ℕ → List ℕ
plain method number bytes = cond (internal number) bytes (decoded method number bytes)

-- a block's bytes, decoded unless it is internal
unfoldable pub block_bytes : List ℕ → Listed → List ℕ
block_bytes image b = plain (method_of image) b.block (part image b.offset b.size)

-- 17: "output buffer shorter than the data", with the length needed
unfoldable pub fitting : ℕ → ℕ → Result ℕ Refusal
fitting size space = cond (leb size space) (Ok size) (Err (ShortBuffer needing size))

-- the outcome of a block read: the tests, then 17
unfoldable pub read_in : Result Listed Refusal → ℕ → Result ℕ Refusal
read_in (Ok b) space = fitting b.size space
read_in (Err r) space = Err r

unfoldable pub read_of : Edition → List ℕ → ℕ → ℕ → Result ℕ Refusal
read_of E image number space = read_in (checked_block E image number) space

-- and the buffer at exit: the block's bytes at its front, or as it was
unfoldable pub filled_in : List ℕ → Result Listed Refusal → List ℕ → List ℕ
filled_in image (Ok b) out = cond (leb b.size (length out)) (fronted (block_bytes image b) out) out
filled_in image (Err r) out = out

unfoldable pub filled_of : Edition → List ℕ → ℕ → List ℕ → List ℕ
filled_of E image number out = filled_in image (checked_block E image number) out
