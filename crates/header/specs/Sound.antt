-- The header's rules as a plain conjunction, with no order in it. Assumes nothing: these are definitions.
use Rattle.std.specs.Prelude.{ℕ, ◌≤◌, ◌≡◌, true, ◌⊎◌, List, length}
use Rattle.le.specs.Bytes.{part, field, byte}
use Rattle.crc.specs.Checksum.{checksum}
use Rattle.header.specs.Header.{version_of, places_of, method_of, stated_end}

pub record HeaderSound (image : List ℕ) : Type 0 where
  pub length_low : 564 ≤ length image
  pub length_high : length image ≤ 1073741824
  pub magic : (byte image 0 ≡ 0x21) × (byte image 1 ≡ 0x42) × (byte image 2 ≡ 0x44) × (byte image 3 ≡ 0x4E)
  pub client : (byte image 8 ≡ 0x53) × (byte image 9 ≡ 0x4D)
  pub version : (version_of image ≡ 23) ⊎ (version_of image ≡ 14) ⊎ (version_of image ≡ 15)
  pub partial : field image 4 4 ≡ checksum (part image 8 471)
  -- where the edition has a second checksum
  pub full : (places_of image).whole ≡ true → field image 524 4 ≡ checksum (part image 8 516)
  pub sentinel : byte image (places_of image).sentinel ≡ 0x80
  pub encoding : method_of image ≤ 2
  pub end : stated_end image ≤ length image
