-- A page's rules 6 to 11 and 21 as a plain conjunction, with no order in it. Assumes nothing: these are definitions.
use Rattle.std.specs.Prelude.{ℕ, ◌+◌, ◌%◌, ◌≤◌, ◌≡◌, ◌⊎◌, List, take}
use Rattle.le.specs.Bytes.{field, byte}
use Rattle.crc.specs.Checksum.{checksum}
use Rattle.keys.specs.Plain.{All, Ascending, Inside}
use Rattle.header.specs.Header.{file_end}
use Rattle.edition.specs.declared.Layout.{Layout}
use Rattle.page.specs.declared.Level.{Level}
use Rattle.page.specs.declared.Level.TheVariants.{AtRoot, Exactly}
use Rattle.page.specs.declared.Link.{Link}
use Rattle.page.specs.Layout.{entry_size, most_room}
use Rattle.page.specs.Page.{signature, page, count_of, room_of, size_of, level_of, keys_in}

-- "0 to 7 at the root, otherwise exactly one below the parent's"
abbrev pub Wanted : Level → ℕ → Type 0
Wanted AtRoot level = level ≤ 7
Wanted (Exactly wanted) level = level ≡ wanted

-- "except that a root of level 0 may have 0"
abbrev pub MayBeEmpty : Level → ℕ → Type 0
MayBeEmpty AtRoot level = level ≡ 0
MayBeEmpty (Exactly wanted) level = ⊥

-- the rules of the page's bytes g
pub record BytesSound (L : Layout) (p : Link) (g : List ℕ) : Type 0 where
  pub kind : (byte g L.trailer ≡ L.kind) × (byte g (L.trailer + 1) ≡ L.kind)
  pub number : field g L.number L.word ≡ p.number
  pub signed : field g (L.trailer + 2) 2 ≡ signature p.offset p.number
  pub summed : field g L.checksum 4 ≡ checksum (take L.trailer g)
  pub level : Wanted p.level (level_of L g)
  pub size : size_of L g ≡ entry_size L (level_of L g)
  pub room : room_of L g ≤ most_room L (level_of L g)
  pub count : count_of L g ≤ room_of L g
  pub some : (1 ≤ count_of L g) ⊎ MayBeEmpty p.level (level_of L g)
  pub ascending : Ascending (keys_in L g)
  pub inside : All (Inside p.range) (keys_in L g)

pub record PageSound (L : Layout) (image : List ℕ) (p : Link) : Type 0 where
  pub step : p.offset % 64 ≡ 0
  pub least : 17408 ≤ p.offset
  pub ends : p.offset + 512 ≤ file_end image
  pub bytes : BytesSound L p (page image p.offset)
