-- The numbers in a data tree's root block, from the i-th on. Assumes nothing.
use Prim.Native.Nat.{ℕ, suc, ◌+◌, ◌-◌, ◌*◌, ◌≤◌, ◌<◌}
use mathlib.Core.Path.{◌≡◌, refl, sym, ap, ◌∙◌}
use mathlib.Core.Bool.{Bool, true, false, ◌&&◌}
use mathlib.Core.List.{List, [], ◌∷◌, ◌++◌}
use native.Mathlib.Nat.{sub-zero, le_refl, mul-le-mul_right}
use native.Mathlib.Omega.{arith}
use lib.Dec.{leb, eqb}
use lib.ListN.{length}
use Rattle.le.specs.Bytes.{byte}
use borrow.Author.Tests.{lt-leb, ne_eqb}
use Rattle.keys.specs.Search.{joined}
use Rattle.keys.proofs.RecordLaws.{record_inside}
use Rattle.keys.proofs.SearchLaws.{joined_nil, joined_more}
use Rattle.block.specs.Block.{internal}
use Rattle.edition.specs.declared.RootBlock.{RootBlock}
use Rattle.node.specs.Content.{count_in, number_at, numbers_from, numbers_in, none_internal, shape_fits}

-- of n numbers those from the i-th on
abbrev pub rest : RootBlock → List ℕ → ℕ → ℕ → List ℕ
rest d g n i = numbers_from d g i (n - i)

module _ (d : RootBlock) (g : List ℕ) (n : ℕ) where
  pub rest_all : rest d g n 0 ≡ numbers_from d g 0 n
  rest_all = ap (numbers_from d g 0) (sub-zero n)

  pub rest_at : (i : ℕ) → i < n → rest d g n i ≡ number_at d g i ∷ rest d g n (i + 1)
  unfolding numbers_from
  rest_at i h = let more : n - i ≡ suc (n - (i + 1)) = omega arith in ap (numbers_from d g i) more

  pub rest_none : (i : ℕ) → n ≤ i → rest d g n i ≡ []
  unfolding numbers_from
  rest_none i h = let end : n - i ≡ 0 = omega arith in ap (numbers_from d g i) end

  -- a number that is internal, and one that is not
  pub internal_here : (i : ℕ) → i < n → internal (number_at d g i) ≡ true → none_internal (rest d g n i) ≡ false
  unfolding none_internal
  internal_here i h e = ap none_internal (rest_at i h) ∙ rw e

  pub internal_on : (i : ℕ) → i < n → internal (number_at d g i) ≡ false → none_internal (rest d g n i) ≡ none_internal (rest d g n (i + 1))
  unfolding none_internal
  internal_on i h e = ap none_internal (rest_at i h) ∙ rw e

  pub internal_none : (i : ℕ) → n ≤ i → none_internal (rest d g n i) ≡ true
  unfolding none_internal
  internal_none i h = ap none_internal (rest_none i h)

-- the lists under the numbers: the first, and then the others
pub joined_rest : (f : ℕ → List ℕ) (d : RootBlock) (g : List ℕ) (n i : ℕ) → i < n → joined f (rest d g n i) ≡ f (number_at d g i) ++ joined f (rest d g n (i + 1))
joined_rest f d g n i h = ap (joined f) (rest_at d g n i h) ∙ joined_more f (number_at d g i) (rest d g n (i + 1))

pub joined_none : (f : ℕ → List ℕ) (d : RootBlock) (g : List ℕ) (n i : ℕ) → n ≤ i → joined f (rest d g n i) ≡ []
joined_none f d g n i h = ap (joined f) (rest_none d g n i h) ∙ joined_nil f

-- a root block that is too short for a count, or for its numbers
pub too_short : (d : RootBlock) (g : List ℕ) → length g < 8 → false ≡ shape_fits d g
unfolding shape_fits
too_short d g h = rw (lt-leb 8 (length g) h)

pub too_few : (d : RootBlock) (g : List ℕ) → length g < 8 + count_in g * d.word → false ≡ shape_fits d g
unfolding shape_fits
too_few d g h = rw (ne_eqb (length g) (8 + count_in g * d.word) (λ (e : length g ≡ 8 + count_in g * d.word). omega arith))
    (sym (and_false (leb 8 (length g) && eqb (byte g 0) 1 && eqb (byte g 1) 1 && leb 1 (count_in g) && leb (count_in g) d.most) (none_internal (numbers_in d g))))
  where
    and_false : (a b : Bool) → ((a && false) && b) ≡ false
    and_false true b = refl
    and_false false b = refl

-- a number lies in a root block that has room for all of them, at a place that fits a machine word
pub number_inside : (width count i : ℕ) (g : List ℕ) → 8 + count * width ≤ length g → i < count → 8 + i * width + width ≤ length g
number_inside width count i g h l = omega (arith, record_inside count width i (count * width) (le_refl (count * width)) l)

pub place_small : (width i : ℕ) → width ≤ 8 → i ≤ 65535 → i * width ≤ 524280
place_small width i h l = omega (arith, mul-le-mul_right {m = i} {n = 65535} width l)

-- the same count takes the same bytes
pub same_whole : (width : ℕ) {one other : ℕ} → one ≡ other → one * width ≡ other * width
same_whole width e = ap (λ (n : ℕ). n * width) e
