-- Keys that strictly ascend, the first at or above where a range starts and the last before its end, all lie in it. Assumes nothing.
use Prim.Native.Nat.{ℕ, ◌+◌, ◌≤◌, ◌<◌}
use mathlib.Core.Path.{◌≡◌, refl}
use mathlib.Core.Bool.{true}
use mathlib.Core.List.{List, [], ◌∷◌}
use native.Mathlib.Nat.{le_of_lt, le_trans}
use borrow.Author.Tests.{lt-ltb}
use Rattle.keys.specs.declared.Range.{Range}
use Rattle.keys.specs.Plain.{BeforeEnd}
use Rattle.keys.specs.Range.{is_before, ordered_after, ordered}
use Rattle.keys.proofs.Climbs.{under_less, before_under, inside_range}
use Rattle.std.specs.Prelude.{Option, Ok}

-- the keys behind the key `last` rise above it, one above the other, and the last of all is before the end
unfoldable pub Rise : Option ℕ → ℕ → List ℕ → Type 0
Rise to last [] = BeforeEnd to last
Rise to last (key ∷ keys) = (last < key) × Rise to key keys

module _ (range : Range) where
  -- then the first is before the end too
  rise_under : (last : ℕ) (keys : List ℕ) → Rise range.to last keys → BeforeEnd range.to last
  unfolding Rise
  rise_under last [] u = u
  rise_under last (key ∷ keys) r = under_less range.to last key (le_of_lt r.0) (rise_under key keys r.1)

  rise_after : (i last : ℕ) (keys : List ℕ) → range.from ≤ last → Rise range.to last keys → ordered_after range i last keys ≡ Ok tt
  unfolding Rise ordered_after
  rise_after i last [] from r = refl
  rise_after i last (key ∷ keys) from r =
      let up = le_trans from (le_of_lt r.0) in
      rw (lt-ltb last key r.0, inside_range range key (up, rise_under key keys r.1)) (rise_after (i + 1) key keys up r.1)

  pub rise_climbs : (first : ℕ) (rest keys : List ℕ) → keys ≡ first ∷ rest → range.from ≤ first → Rise range.to first rest → ordered range keys ≡ Ok tt
  unfolding ordered
  rise_climbs first rest keys e from r = rw (e, inside_range range first (from, rise_under first rest r)) (rise_after 1 first rest from r)

-- one key more, and none
pub rise_on : (to : Option ℕ) (last key : ℕ) (rest keys : List ℕ) → keys ≡ key ∷ rest → last < key → Rise to key rest → Rise to last keys
unfolding Rise
rise_on to last key rest keys e up r = rw e (up, r)

pub rise_ends : (to : Option ℕ) (last : ℕ) (keys : List ℕ) → keys ≡ [] → is_before to last ≡ true → Rise to last keys
unfolding Rise
rise_ends to last keys e b = rw e (before_under to last b)
