-- Document 01, "Pages and trees" (003, 2.2.2.7), and document 02, 2/13: a page and its tests 6 to 11 and 21, over the layout of any edition (7/13); quoted are the places of the 64-bit one. Assumes nothing: these are definitions.
use Rattle.std.specs.Prelude.{ℕ, ◌+◌, ◌/◌, ◌%◌, Bool, false, ◌&&◌, ◌||◌, List, [], ◌∷◌, ◌++◌, map, leb, ltb, eqb, take}
use Rattle.std.specs.Int.Bits.{bit_xor}
use Rattle.le.specs.Bytes.{part, field, byte}
use Rattle.crc.specs.Checksum.{checksum}
use Rattle.refusal.specs.declared.Fault.TheVariants.{PageOffset, PageKind, PageNumber, PageChecksum, PageCounts, KeyOrder, KeyRange}
use Rattle.refusal.specs.Order.{Verdict, ◌at◌, at_entry, Rule, rule, in_order}
use Rattle.keys.specs.Records.{records, key_of}
use Rattle.keys.specs.Range.{in_range}
use Rattle.header.specs.Header.{file_end}
use Rattle.edition.specs.declared.Layout.{Layout}
use Rattle.page.specs.declared.Level.{Level}
use Rattle.page.specs.declared.Level.TheVariants.{AtRoot, Exactly}
use Rattle.page.specs.declared.Link.{Link}
use Rattle.page.specs.Layout.{entry_size, most_room, shape}

-- "x is offset xor number; the result is bits 0 to 15 of x xor bits 16 to 31 of x"
unfoldable pub signature : ℕ → ℕ → ℕ
signature offset number = bit_xor (bit_xor offset number % 65536) (bit_xor offset number / 65536 % 65536)

-- "A page is 512 bytes and is read as a part of the image starting at the page's offset."
unfoldable pub page : List ℕ → ℕ → List ℕ
page image offset = part image offset 512

module _ (L : Layout) (g : List ℕ) where
  -- the four bytes of a page g that say its shape
  unfoldable pub count_of : ℕ
  count_of = byte g L.counts

  unfoldable pub room_of : ℕ
  room_of = byte g (L.counts + 1)

  unfoldable pub size_of : ℕ
  size_of = byte g (L.counts + 2)

  unfoldable pub level_of : ℕ
  level_of = byte g (L.counts + 3)

  -- its entries
  unfoldable pub entries : List (List ℕ)
  entries = records (shape L level_of) count_of g

-- the number at the front of an entry, as stored
unfoldable pub number_in : Layout → List ℕ → ℕ
number_in L entry = field entry 0 L.key

-- the key of an entry, as it is compared
unfoldable pub key_in : Layout → List ℕ → ℕ
key_in L entry = key_of (shape L 0) entry

-- 6: "the offset is a multiple of 64, at least 17,408 (0x4400), and offset + 512 is at most the image length"
unfoldable pub offset_fits : List ℕ → ℕ → Bool
offset_fits image offset = eqb (offset % 64) 0 && leb 17408 offset && leb (offset + 512) (file_end image)

-- 7: "bytes 496 and 497 are both 81 hex (NBT) or both 80 hex (BBT)"
unfoldable pub kind_fits : Layout → List ℕ → Bool
kind_fits L g = eqb (byte g L.trailer) L.kind && eqb (byte g (L.trailer + 1)) L.kind

-- 8: "the eight bytes at 504 equal the number in the reference; the two at 498 equal the signature of offset and number"
unfoldable pub number_fits : Layout → Link → List ℕ → Bool
number_fits L p g =
    eqb (field g L.number L.word) p.number
    && eqb (field g (L.trailer + 2) 2) (signature p.offset p.number)

-- 9: "the four bytes at 500 are the checksum of bytes 0 to 495"
unfoldable pub checksum_fits : Layout → List ℕ → Bool
checksum_fits L g = eqb (field g L.checksum 4) (checksum (take L.trailer g))

-- 10: "byte 491 is the level: 0 to 7 at the root, otherwise exactly one below the parent's"
unfoldable pub level_fits : Level → ℕ → Bool
level_fits AtRoot level = leb level 7
level_fits (Exactly wanted) level = eqb level wanted

-- "a root of level 0 may have 0"
unfoldable pub may_be_empty : Level → ℕ → Bool
may_be_empty AtRoot level = eqb level 0
may_be_empty (Exactly wanted) level = false

-- 10: the level, the entry size, the room, and the count: "at most the room, and at least 1, except that a root of level 0 may have 0"
unfoldable pub counts_fit : Layout → Link → List ℕ → Bool
counts_fit L p g =
    level_fits p.level (level_of L g)
    && eqb (size_of L g) (entry_size L (level_of L g))
    && leb (room_of L g) (most_room L (level_of L g))
    && leb (count_of L g) (room_of L g)
    && (leb 1 (count_of L g) || may_be_empty p.level (level_of L g))

-- tests 7 to 10, of a page's bytes
unfoldable pub bytes_rules : Layout → Link → List ℕ → List Rule
bytes_rules L p g =
    rule (kind_fits L g) (PageKind at p.offset)
    ∷ rule (number_fits L p g) (PageNumber at p.offset)
    ∷ rule (checksum_fits L g) (PageChecksum at p.offset)
    ∷ rule (counts_fit L p g) (PageCounts at p.offset)
    ∷ []

unfoldable pub six_to_ten : Layout → List ℕ → Link → List Rule
six_to_ten L image p = rule (offset_fits image p.offset) (PageOffset at p.offset) ∷ bytes_rules L p (page image p.offset)

-- the keys of a page's entries, from left to right
unfoldable pub keys_in : Layout → List ℕ → List ℕ
keys_in L g = map (key_in L) (entries L g)

-- "Entries are tested from left to right, order before range at each entry": from the i-th key on, the one before it being `last`
unfoldable pub key_rules_after : Link → ℕ → ℕ → List ℕ → List Rule
key_rules_after p i last [] = []
key_rules_after p i last (key ∷ keys) =
    rule (ltb last key) (at_entry KeyOrder p.offset i)
    ∷ rule (in_range p.range key) (at_entry KeyRange p.offset i)
    ∷ key_rules_after p (i + 1) key keys

-- 11 and 21: each key is above the one before it, and lies in the page's range. The first has none before it
unfoldable pub key_rules : Link → List ℕ → List Rule
key_rules p [] = []
key_rules p (key ∷ keys) = rule (in_range p.range key) (at_entry KeyRange p.offset 0) ∷ key_rules_after p 1 key keys

-- the page's tests, in their order
unfoldable pub page_rules : Layout → List ℕ → Link → List Rule
page_rules L image p = six_to_ten L image p ++ key_rules p (keys_in L (page image p.offset))

unfoldable pub page_fits : Layout → List ℕ → Link → Verdict
page_fits L image p = in_order (page_rules L image p)
