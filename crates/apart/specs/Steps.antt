-- What the quick pass over columns keeps. Assumes nothing: these are definitions.
use Rattle.std.specs.Prelude.{ℕ, zero, suc, ◌+◌, ◌<◌, ◌≡◌, true, List, get_or, set}
use Rattle.columns.specs.Columns.{column_at, all_apart}
use Rattle.columns.specs.Sound.{Takes}

-- n marks from a place on
unfoldable pub marked : List ℕ → ℕ → ℕ → List ℕ
marked marks from zero = marks
marked marks from (suc n) = set (marked marks from n) (from + n) 1

-- no mark among n places from a place on
abbrev pub Free : List ℕ → ℕ → ℕ → Type 0
Free marks from n = (i : ℕ) → i < n → get_or marks (from + i) 0 ≡ 0

-- a tag is none of the first n of these
abbrev pub New : List ℕ → ℕ → ℕ → Type 0
New tags n tag = (i : ℕ) → i < n → get_or tags i 0 ≡ tag → ⊥

-- these begin with the tags of the first n columns
abbrev pub Kept : List ℕ → List ℕ → ℕ → Type 0
Kept table tags n = (i : ℕ) → i < n → get_or tags i 0 ≡ (column_at table i).tag

-- no two of the first n columns have one tag
abbrev pub Differ : List ℕ → ℕ → Type 0
Differ table n = (i j : ℕ) → i < j → j < n → (column_at table i).tag ≡ (column_at table j).tag → ⊥

-- the first n columns are apart, and the marks of their bytes and bits are set
pub record Surely (table : List ℕ) (n : ℕ) (bytes bits : List ℕ) : Type 0 where
  pub apart : all_apart table n ≡ true
  pub bytes_marked : (j place : ℕ) → j < n → Takes (column_at table j) place → get_or bytes place 0 ≡ 1
  pub bits_marked : (j : ℕ) → j < n → get_or bits (column_at table j).bit 0 ≡ 1
