-- Document 01, "Header" (003, 2.2.2.5 and 2.2.2.6), and document 02, 6/13: where the file ends, and 7/13: which edition it is of. Assumes nothing: these are definitions.
use Rattle.std.specs.Prelude.{ℕ, ◌+◌, min, Bool, true, ◌&&◌, ◌||◌, cond, List, [], ◌∷◌, ◌++◌, eqb, leb, length, Result, Ok, Err}
use Rattle.le.specs.Bytes.{part, field, byte}
use Rattle.crc.specs.Checksum.{checksum}
use Rattle.refusal.specs.declared.Fault.TheVariants.{ImageLength, Magic, Version, HeaderChecksum, Encoding}
use Rattle.refusal.specs.Order.{Verdict, ◌at◌, Rule, rule, in_order, after}
use Rattle.edition.specs.declared.HeaderPlaces.{HeaderPlaces}
use Rattle.edition.specs.declared.Layout.{Layout}
use Rattle.edition.specs.declared.Edition.{Edition}
use Rattle.edition.specs.Editions.{edition64, edition32}
use Rattle.header.specs.declared.Reference.{Reference}
use Rattle.header.specs.declared.Header.{Header}
use Rattle.refusal.specs.declared.Refusal.{Refusal}

-- "image 564 to 1,073,741,824 bytes"
unfoldable pub length_fits : List ℕ → Bool
length_fits image = leb 564 (length image) && leb (length image) 1073741824

-- "bytes 0 to 3 are 21 42 44 4E (hex)"
unfoldable pub magic_fits : List ℕ → Bool
magic_fits image = eqb (byte image 0) 0x21 && eqb (byte image 1) 0x42 && eqb (byte image 2) 0x44 && eqb (byte image 3) 0x4E

-- "bytes 8, 9 are 53 4D"
unfoldable pub client_fits : List ℕ → Bool
client_fits image = eqb (byte image 8) 0x53 && eqb (byte image 9) 0x4D

-- "the two bytes at 10 are 23"; 02, 7/13: "Accept versions 14 and 15"
unfoldable pub version_of : List ℕ → ℕ
version_of image = field image 10 2

unfoldable pub older : List ℕ → Bool
older image = eqb (version_of image) 14 || eqb (version_of image) 15

unfoldable pub version_fits : List ℕ → Bool
version_fits image = eqb (version_of image) 23 || older image

-- the edition of an image: by these two versions the 32-bit one, else the 64-bit one
unfoldable pub edition_of : List ℕ → Edition
edition_of image = cond (older image) edition32 edition64

-- where its header has what differs, and the layouts of its two trees
abbrev pub places_of : List ℕ → HeaderPlaces
places_of image = (edition_of image).header

abbrev pub nodes_of : List ℕ → Layout
nodes_of image = (edition_of image).nodes

abbrev pub blocks_of : List ℕ → Layout
blocks_of image = (edition_of image).blocks

-- "the four bytes at 4 equal the checksum of 471 bytes from 8; the four bytes at 524 equal the checksum of 516 bytes from 8"
unfoldable pub header_sum_fits : List ℕ → ℕ → ℕ → Bool
header_sum_fits image place size = eqb (field image place 4) (checksum (part image 8 size))

-- 7/13: "These versions have only the partial header checksum."
unfoldable pub whole_fits : List ℕ → Bool
whole_fits image = cond (places_of image).whole (header_sum_fits image 524 516) true

-- "byte 512 is 80 hex"
unfoldable pub sentinel_fits : List ℕ → Bool
sentinel_fits image = eqb (byte image (places_of image).sentinel) 0x80

-- where the encoding method stands: right behind the sentinel
abbrev pub method_place : List ℕ → ℕ
method_place image = (places_of image).sentinel + 1

-- the encoding method: "byte 513 is 0 (none), 1 (permute) or 2 (cyclic)"
unfoldable pub method_of : List ℕ → ℕ
method_of image = byte image (method_place image)

unfoldable pub encoding_fits : List ℕ → Bool
encoding_fits image = leb (method_of image) 2

-- 02, 6/13: "The end-of-file number in the header (eight bytes at 184)"; 7/13: "is four bytes at 168, its place too"
abbrev pub end_place : List ℕ → ℕ
end_place image = (places_of image).end.place

unfoldable pub stated_end : List ℕ → ℕ
stated_end image = field image (end_place image) (places_of image).end.width

-- "A header number above the image length is refused with 1 and place 184, after the encoding test."
unfoldable pub end_fits : List ℕ → Bool
end_fits image = leb (stated_end image) (length image)

-- the header's tests, in their order: its marks, its seals, and last the encoding method and the end of the file
unfoldable pub mark_rules : List ℕ → List Rule
mark_rules image =
    rule (length_fits image) (ImageLength at 0)
    ∷ rule (magic_fits image) (Magic at 0)
    ∷ rule (client_fits image) (Magic at 8)
    ∷ rule (version_fits image) (Version at 10)
    ∷ []

unfoldable pub seal_rules : List ℕ → List Rule
seal_rules image =
    rule (header_sum_fits image 4 471) (HeaderChecksum at 4)
    ∷ rule (whole_fits image) (HeaderChecksum at 524)
    ∷ rule (sentinel_fits image) (Encoding at (places_of image).sentinel)
    ∷ []

unfoldable pub last_rules : List ℕ → List Rule
last_rules image =
    rule (encoding_fits image) (Encoding at method_place image)
    ∷ rule (end_fits image) (ImageLength at end_place image)
    ∷ []

abbrev pub header_rules : List ℕ → List Rule
header_rules image = (mark_rules image ++ seal_rules image) ++ last_rules image

unfoldable pub header_fits : List ℕ → Verdict
header_fits image = in_order (header_rules image)

-- a page's number, and its offset behind it, "eight bytes each", or as wide as the edition has them
unfoldable pub reference_at : List ℕ → ℕ → ℕ → Reference
reference_at image place width = record { number = field image place width; offset = field image (place + width) width }

-- where the root page of a tree of this layout is
abbrev pub root_at : List ℕ → Layout → Reference
root_at image L = reference_at image L.root L.word

-- the encoding method; the root references: "NBT page number at 216, its offset at 224; BBT page number at 232, its offset at 240"; the end-of-file number; and the edition, 64 or 32
unfoldable pub says : List ℕ → Header
says image =
    record {
      method = method_of image;
      nodes = root_at image (nodes_of image);
      blocks = root_at image (blocks_of image);
      end = stated_end image;
      edition = (edition_of image).bits;
    }

-- the outcome of the header call
unfoldable pub header_of : List ℕ → Result Header Refusal
header_of image = after Err (header_fits image) (Ok (says image))

-- where pages and blocks must end at the latest: "at or before both it and the image's end"
unfoldable pub file_end : List ℕ → ℕ
file_end image = min (stated_end image) (length image)
