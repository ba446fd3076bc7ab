-- Marks: those that are set stand, those before them stay, and the rest is as it was. Assumes nothing.
use Prim.Native.Nat.{ℕ, zero, suc, ◌+◌, ◌≤◌, ◌<◌}
use mathlib.Core.Path.{◌≡◌, refl, sym, ap, ◌∙◌}
use mathlib.Core.Bool.{Bool, true, false, ◌&&◌}
use mathlib.Core.List.{List}
use native.Mathlib.Numerals.{add-one}
use native.Mathlib.Omega.{arith}
use lib.Dec.{leb, eqb}
use lib.ListN.{length, get_or, set, length-set}
use lib.Seq.{get_or-set_same, get_or-set_other}
use borrow.Author.Tests.{leb-true, leb-false, eqb-true, eqb-false}
use Rattle.laws.proofs.Tests.{and_both}
use Rattle.apart.specs.Steps.{marked, Free}

-- a place that is set to 1 holds 1, and so does each that held 1 before
set_keeps : (l : List ℕ) (i p : ℕ) → i < length l → get_or l p 0 ≡ 1 → get_or (set l i 1) p 0 ≡ 1
set_keeps l i p h e = by (eqb p i) refl
  where
    by : (b : Bool) → eqb p i ≡ b → get_or (set l i 1) p 0 ≡ 1
    by true q = ap (λ (k : ℕ). get_or (set l i 1) k 0) (eqb-true p i q) ∙ get_or-set_same l i 1 0 h
    by false q = get_or-set_other l i p 1 0 (eqb-false p i q) ∙ e

module _ (marks : List ℕ) (from : ℕ) where
  pub marked_length : (n : ℕ) → length (marked marks from n) ≡ length marks
  unfolding marked
  marked_length zero = refl
  marked_length (suc n) = length-set (marked marks from n) (from + n) 1 ∙ marked_length n

  pub marked_none : marks ≡ marked marks from 0
  unfolding marked
  marked_none = refl

  pub marked_on : (n : ℕ) → set (marked marks from n) (from + n) 1 ≡ marked marks from (n + 1)
  unfolding marked
  marked_on n = ap (marked marks from) (sym (add-one n))

  pub marked_outside : (n place : ℕ) → ((i : ℕ) → i < n → place ≡ from + i → ⊥) → get_or (marked marks from n) place 0 ≡ get_or marks place 0
  unfolding marked
  marked_outside zero place out = refl
  marked_outside (suc n) place out =
      get_or-set_other (marked marks from n) (from + n) place 1 0 (out n (omega arith)) ∙ marked_outside n place (λ i h. out i (omega arith))

  pub marked_inside : (n : ℕ) → from + n ≤ length marks → (i : ℕ) → i < n → get_or (marked marks from n) (from + i) 0 ≡ 1
  unfolding marked
  marked_inside zero room i h = absurd (omega arith)
  marked_inside (suc n) room i h = by (marked_inside n (omega arith) i) (leb n i) refl
    where
      last : from + n < length (marked marks from n)
      last = let same = marked_length n in omega (arith, same)

      by : (i < n → get_or (marked marks from n) (from + i) 0 ≡ 1) → (t : Bool) → leb n i ≡ t → get_or (set (marked marks from n) (from + n) 1) (from + i) 0 ≡ 1
      by before true l =
          let m = leb-true n i l in
          let same : i ≡ n = omega (arith, m) in
          ap (λ (k : ℕ). get_or (set (marked marks from n) (from + n) 1) (from + k) 0) same ∙ get_or-set_same (marked marks from n) (from + n) 1 0 last
      by before false l = set_keeps (marked marks from n) (from + n) (from + i) last (before (leb-false n i l))

  pub marked_kept : (n : ℕ) → from + n ≤ length marks → (place : ℕ) → get_or marks place 0 ≡ 1 → get_or (marked marks from n) place 0 ≡ 1
  unfolding marked
  marked_kept zero room place e = e
  marked_kept (suc n) room place e =
      let same = marked_length n in
      set_keeps (marked marks from n) (from + n) place (omega (arith, same)) (marked_kept n (omega arith) place e)

  pub free_none : Free marks from 0
  free_none i h = absurd (omega arith)

  -- the next place had no mark, as was seen after those before it were marked
  pub free_on : (n : ℕ) (free : Bool) → (free ≡ true → Free marks from n) → (free && eqb (get_or (marked marks from n) (from + n) 0) 0) ≡ true → Free marks from (n + 1)
  free_on n free before e i h = by (leb n i) refl
    where
      both : (free ≡ true) × (eqb (get_or (marked marks from n) (from + n) 0) 0 ≡ true)
      both = and_both free (eqb (get_or (marked marks from n) (from + n) 0) 0) e

      unmarked : get_or marks (from + n) 0 ≡ 0
      unmarked = sym (marked_outside n (from + n) (λ j k (q : from + n ≡ from + j). omega (arith, k, q))) ∙ eqb-true _ _ both.1

      by : (t : Bool) → leb n i ≡ t → get_or marks (from + i) 0 ≡ 0
      by true l = let m = leb-true n i l in let same : i ≡ n = omega (arith, m) in ap (λ (k : ℕ). get_or marks (from + k) 0) same ∙ unmarked
      by false l = before both.0 i (leb-false n i l)
