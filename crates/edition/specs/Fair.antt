-- What every edition has, known or not: its places lie where they should, its numbers fit a machine word. All that is proved of pages, trees, blocks and node data is proved of any such edition. Assumes nothing: these are definitions.
use Rattle.std.specs.Prelude.{ℕ, ◌+◌, ◌*◌, ◌≤◌, ◌<◌, ◌≡◌, true, ◌⊎◌}
use Rattle.edition.specs.declared.Column.{Column}
use Rattle.edition.specs.declared.HeaderPlaces.{HeaderPlaces}
use Rattle.edition.specs.declared.Layout.{Layout}
use Rattle.edition.specs.declared.Trailer.{Trailer}
use Rattle.edition.specs.declared.RootBlock.{RootBlock}
use Rattle.edition.specs.declared.Edition.{Edition}

-- a column lies in so many bytes and fits a machine word
pub record Within (c : Column) (size : ℕ) : Type 0 where
  pub ends : c.place + c.width ≤ size
  pub word : c.width ≤ 8

pub record FairPlaces (p : HeaderPlaces) : Type 0 where
  pub sentinel : p.sentinel + 2 ≤ 524
  pub end : Within p.end 564
  -- the end-of-file number stands behind the version and before the sentinel
  pub between : (10 < p.end.place) × (p.end.place < p.sentinel)

pub record FairLayout (L : Layout) : Type 0 where
  pub word : L.word ≤ 8
  pub key : L.key ≤ L.word
  pub sought : (L.sought ≡ 4) ⊎ (L.sought ≡ 8)
  -- a number that stands in the tree can be asked for
  pub asked : L.key ≤ L.sought
  pub counts : L.counts + 4 ≤ 512
  pub trailer : L.trailer + 4 ≤ 512
  pub checksum : L.checksum + 4 ≤ 512
  pub number : L.number + L.word ≤ 512
  pub leafsize : L.word * 3 ≤ L.leafsize
  pub indexsize : L.word * 3 ≤ L.indexsize
  pub leafroom : L.leafroom * L.leafsize ≤ 512
  pub indexroom : L.indexroom * L.indexsize ≤ 512
  pub fewleaf : L.leafroom ≤ 255
  pub fewindex : L.indexroom ≤ 255
  pub root : L.root + L.word * 2 ≤ 564
  pub first : Within L.first L.leafsize
  pub second : Within L.second L.leafsize
  pub third : Within L.third L.leafsize
  pub fourth : Within L.fourth L.leafsize
  -- the first number of an entry is the one at its front, by which it is found
  pub front : (L.first.place ≡ 0) × (L.first.width ≡ L.key)

-- the room of the largest block is small
pub record FairTrailer (t : Trailer) : Type 0 where
  pub least : 4 ≤ t.length
  pub small : t.length ≤ 64
  pub checksum : t.checksum + 4 ≤ t.length
  pub number : t.number + t.word ≤ t.length
  pub word : t.word ≤ 8
  pub most : t.most ≤ 65535

pub record FairRootBlock (d : RootBlock) : Type 0 where
  pub word : d.word ≤ 8
  pub some : 1 ≤ d.most
  pub most : d.most ≤ 65535

pub record FairEdition (E : Edition) : Type 0 where
  pub header : FairPlaces E.header
  pub nodes : FairLayout E.nodes
  pub blocks : FairLayout E.blocks
  pub trailer : FairTrailer E.trailer
  pub tree : FairRootBlock E.tree
  -- 02, 1/13: bit 0 of a block number is reserved
  pub reserved : E.blocks.reserved ≡ true
