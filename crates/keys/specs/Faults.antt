-- Document 02, 2/13: the first key at fault, in words that name no test. Assumes nothing: these are definitions.
use Rattle.std.specs.Prelude.{ℕ, ◌-◌, ◌≤◌, ◌<◌, List, length, take, get_or}
use Rattle.keys.specs.declared.Range.{Range}
use Rattle.keys.specs.Plain.{All, Ascending, Inside}

module _ (range : Range) (keys : List ℕ) where
  -- there is an i-th key, from 0, and the keys before it strictly ascend and lie in the range
  pub record GoodBefore (i : ℕ) : Type 0 where
    pub there : i < length keys
    pub ascending : Ascending (take i keys)
    pub inside : All (Inside range) (take i keys)

  -- 11: the i-th key is not above the one before it, and those before it are good
  pub record OutOfOrder (i : ℕ) : Type 0 where
    pub good : GoodBefore i
    pub not_first : 1 ≤ i
    pub not_above : get_or keys i 0 ≤ get_or keys (i - 1) 0

  -- 21: the i-th key is above the one before it, or is the first, and lies outside the range, and those before it are good
  pub record OutOfRange (i : ℕ) : Type 0 where
    pub good : GoodBefore i
    pub above : 1 ≤ i → get_or keys (i - 1) 0 < get_or keys i 0
    pub outside : Inside range (get_or keys i 0) → ⊥
