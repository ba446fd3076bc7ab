-- Document 01 ("Header", "Pages and trees", "Blocks and their encoding") and document 02, 7/13, "Older 32-bit files" (003, 2.2.2.6 to 2.2.2.8): the two editions, as values. Assumes nothing: these are definitions.
use Rattle.std.specs.Prelude.{ℕ, true, false}
use Rattle.edition.specs.declared.Column.{Column}
use Rattle.edition.specs.declared.HeaderPlaces.{HeaderPlaces}
use Rattle.edition.specs.declared.Layout.{Layout}
use Rattle.edition.specs.declared.Trailer.{Trailer}
use Rattle.edition.specs.declared.RootBlock.{RootBlock}
use Rattle.edition.specs.declared.Edition.{Edition}

abbrev pub column : ℕ → ℕ → Column
column place width = record { place = place; width = width }

-- 64 bits. Header: checksums at 4 and 524; "byte 512 is 80 hex", the method behind it; 02, 6/13: "The end-of-file number in the header (eight bytes at 184)"
unfoldable pub places64 : HeaderPlaces
places64 = record { whole = true; sentinel = 512; end = column 184 8 }

-- NBT: root reference at 216; kind 81 hex; leaf entry "node 8 (only the low four bytes count), data block 8, subnode block 8, parent 4, padding 4"
unfoldable pub nbt64 : Layout
nbt64 =
    record {
      root = 216;
      word = 8;
      key = 4;
      sought = 4;
      reserved = false;
      kind = 0x81;
      counts = 488;
      trailer = 496;
      checksum = 500;
      number = 504;
      leafsize = 32;
      leafroom = 15;
      indexsize = 24;
      indexroom = 20;
      first = column 0 4;
      second = column 8 8;
      third = column 16 8;
      fourth = column 24 4;
    }

-- BBT: root reference at 232; kind 80 hex; leaf entry "block number 8, offset 8, size 2, reference count 2, padding 4"
unfoldable pub bbt64 : Layout
bbt64 =
    record {
      root = 232;
      word = 8;
      key = 8;
      sought = 8;
      reserved = true;
      kind = 0x80;
      counts = 488;
      trailer = 496;
      checksum = 500;
      number = 504;
      leafsize = 24;
      leafroom = 20;
      indexsize = 24;
      indexroom = 20;
      first = column 0 8;
      second = column 8 8;
      third = column 16 2;
      fourth = column 18 2;
    }

-- "The trailer is the room's last 16 bytes: size 2, signature 2, checksum 4, number 8." "size 1 to 8,176"
unfoldable pub trailer64 : Trailer
trailer64 = record { length = 16; checksum = 4; number = 8; word = 8; most = 8176 }

-- a data tree: "count c (two bytes at 2) is 1 to 1,021, size is 8 + 8c"
unfoldable pub root64 : RootBlock
root64 = record { word = 8; most = 1021 }

unfoldable pub edition64 : Edition
edition64 =
    record {
      bits = 64;
      header = places64;
      nodes = nbt64;
      blocks = bbt64;
      trailer = trailer64;
      tree = root64;
    }

-- 32 bits. Header: "These versions have only the partial header checksum"; "5 returns 460 or 461, and the end-of-file number is four bytes at 168"
unfoldable pub places32 : HeaderPlaces
places32 = record { whole = false; sentinel = 460; end = column 168 4 }

-- NBT: root reference at 184; "page entries of 12, 12 and 16 bytes, at most 41, 41 and 31 a page": index, block leaf, node leaf. A leaf entry: node, data block, subnode block, parent, four bytes each. In the page: count, room, entry size and level at 496, kinds at 500, "checksum over 500 bytes" at 508, number at 504
unfoldable pub nbt32 : Layout
nbt32 =
    record {
      root = 184;
      word = 4;
      key = 4;
      sought = 4;
      reserved = false;
      kind = 0x81;
      counts = 496;
      trailer = 500;
      checksum = 508;
      number = 504;
      leafsize = 16;
      leafroom = 31;
      indexsize = 12;
      indexroom = 41;
      first = column 0 4;
      second = column 4 4;
      third = column 8 4;
      fourth = column 12 4;
    }

-- BBT: root reference at 192; leaf entry: block number 4, offset 4, size 2, reference count 2. A number sought is compared whole: one of 2^32 or more is no key
unfoldable pub bbt32 : Layout
bbt32 =
    record {
      root = 192;
      word = 4;
      key = 4;
      sought = 8;
      reserved = true;
      kind = 0x80;
      counts = 496;
      trailer = 500;
      checksum = 508;
      number = 504;
      leafsize = 12;
      leafroom = 41;
      indexsize = 12;
      indexroom = 41;
      first = column 0 4;
      second = column 4 4;
      third = column 8 2;
      fourth = column 10 2;
    }

-- "trailers of 12 bytes with the number before the checksum"; "block data up to 8,180 bytes"
unfoldable pub trailer32 : Trailer
trailer32 = record { length = 12; checksum = 8; number = 4; word = 4; most = 8180 }

-- "data trees of 8 + 4c bytes, c to 2,043"
unfoldable pub root32 : RootBlock
root32 = record { word = 4; most = 2043 }

unfoldable pub edition32 : Edition
edition32 =
    record {
      bits = 32;
      header = places32;
      nodes = nbt32;
      blocks = bbt32;
      trailer = trailer32;
      tree = root32;
    }
