-- Document 02, 6/13, "The file ends where the header says": what a call on an image may look at. Assumes nothing: these are definitions.
use Rattle.std.specs.Prelude.{ℕ, ◌≤◌, ◌<◌, ◌≡◌, true, List, ◌++◌, length}
use Rattle.le.specs.Bytes.{part}
use Rattle.refusal.specs.Order.{AllHold}
use Rattle.header.specs.Header.{length_fits, encoding_fits, stated_end, end_fits, mark_rules, seal_rules, file_end}

-- the header's number is above the image's length, and all that is tested before it holds: the marks and seals, and the encoding method
pub record Above (image : List ℕ) : Type 0 where
  pub fields : AllHold (mark_rules image ++ seal_rules image)
  pub known : encoding_fits image ≡ true
  pub short : length image < stated_end image

-- two images that are alike in all that a call may look at: the header's bytes; whether the length is in its bounds, and whether it reaches the header's number; where the file ends; every byte before that
pub record AlikeToEnd (one other : List ℕ) : Type 0 where
  pub header : part one 0 564 ≡ part other 0 564
  pub bounds : length_fits one ≡ length_fits other
  pub reach : end_fits one ≡ end_fits other
  pub end : file_end one ≡ file_end other
  pub before : part one 0 (file_end one) ≡ part other 0 (file_end one)

-- two images that begin with the same bytes, which hold the whole header and reach its end-of-file number; other bytes hang on behind them, or none
pub record Hanging (kept one other : List ℕ) : Type 0 where
  pub whole : 564 ≤ length kept
  pub ended : stated_end kept ≤ length kept
  -- both lengths are in the bounds of refusal 1, or neither is
  pub bounds : length_fits (kept ++ one) ≡ length_fits (kept ++ other)

-- a call that looks at nothing else: it answers alike what is alike to the end, and so what hangs on behind changes nothing
pub record LooksToEnd {A : Type 0} (call : List ℕ → A) : Type 0 where
  pub alike : (one other : List ℕ) → AlikeToEnd one other → call one ≡ call other
  pub hanging : (kept one other : List ℕ) → Hanging kept one other → call (kept ++ one) ≡ call (kept ++ other)
