-- The column with a tag is the one that is found. Assumes nothing.
use Prim.Native.Nat.{ℕ, zero, suc, ◌+◌, ◌*◌, ◌<◌, suc-le-suc}
use mathlib.Core.Path.{◌≡◌, refl, sym, ap, ◌∙◌}
use mathlib.Core.Bool.{Bool, true, false, cond}
use mathlib.Core.Logic.{◌↔◌}
use mathlib.Core.List.{List, [], ◌∷◌}
use native.Mathlib.Nat.{le_of_suc-le-suc, not-suc-le-zero, zero-lt-suc, mul_comm}
use native.Mathlib.Omega.{arith}
use lib.Dec.{eqb}
use lib.ListN.{length, get_or, length-map}
use borrow.Author.Tests.{eq-eqb, eqb-false, ne_eqb}
use Rattle.le.specs.Bytes.{field}
use Rattle.le.proofs.FieldLaws.{field_part}
use Rattle.keys.specs.declared.Sought.TheVariants.{Equal}
use Rattle.keys.specs.Plain.{Missing}
use Rattle.keys.specs.Records.{significant, records, key_at, key_of}
use Rattle.keys.specs.Search.{onward, meets, first_that}
use Rattle.keys.proofs.RecordLaws.{keys_from, keys_all, keys_at, key_is, records_length}
use Rattle.keys.proofs.FoundLaws.{found_inside, keys_are}
use Rattle.columns.specs.Record.{column_count}
use Rattle.columns.specs.Columns.{column_at, column_shape, column_bytes, tags, seat_of}
use Rattle.columns.specs.Sound.{RecordSound, ColumnsSound}
use Rattle.std.specs.Prelude.{Option, Some, None}

-- the first of some numbers that equals k
module _ (k : ℕ) where
  onward_not : (s : Option ℕ) → onward s ≡ None → s ≡ None
  unfolding onward
  onward_not (Some i) e = cc
  onward_not None e = refl

  -- nowhere exactly when it is missing
  seat_missing : (xs : List ℕ) → first_that Equal k xs ≡ None → Missing k xs
  unfolding first_that meets
  seat_missing [] e = tt
  seat_missing (x ∷ xs) e = by (eqb x k) refl e (seat_missing xs)
    where
      by : (b : Bool) → eqb x k ≡ b → cond b (Some 0) (onward (first_that Equal k xs)) ≡ None → (first_that Equal k xs ≡ None → Missing k xs) → Missing k (x ∷ xs)
      by true t e rest = cc
      by false t e rest = (λ same. eqb-false x k t (sym same), rest (onward_not _ e))

  missing_seat : (xs : List ℕ) → Missing k xs → first_that Equal k xs ≡ None
  unfolding first_that meets onward
  missing_seat [] m = refl
  missing_seat (x ∷ xs) m = rw (ne_eqb x k (λ same. m.0 (sym same)), missing_seat xs m.1)

  pub nowhere_exactly : (xs : List ℕ) → (first_that Equal k xs ≡ None) ↔ Missing k xs
  nowhere_exactly xs = (seat_missing xs, missing_seat xs)

  -- at a number that equals it, where none before does
  pub seat_first : (xs : List ℕ) (i : ℕ) → i < length xs → get_or xs i 0 ≡ k → ((j : ℕ) → j < i → get_or xs j 0 ≡ k → ⊥) → first_that Equal k xs ≡ Some i
  unfolding first_that meets onward
  seat_first [] i h e d = absurd (not-suc-le-zero h)
  seat_first (x ∷ xs) zero h e d = rw (eq-eqb x k e)
  seat_first (x ∷ xs) (suc i) h e d =
      rw (ne_eqb x k (d 0 (zero-lt-suc i)), seat_first xs i (le_of_suc-le-suc h) e (λ j l. d (suc j) (suc-le-suc l)))

module _ (table : List ℕ) (sound : RecordSound table) where
  abbrev count : ℕ
  count = column_count table

  -- the tags, one by one
  tag_at : (i : ℕ) → i < count → key_at column_shape (column_bytes table) i ≡ (column_at table i).tag
  unfolding column_bytes column_at significant
  tag_at i h =
      let place : 22 + i * 8 ≡ 22 + 8 * i = ap (λ (n : ℕ). 22 + n) (mul_comm i 8) in
      key_is column_shape (column_bytes table) i (omega arith)
      ∙ field_part table 22 (8 * count) (i * 8) 4 (omega arith)
      ∙ ap (λ (n : ℕ). field table n 4) place

  from_tag : (n i : ℕ) → i + n < count → get_or (keys_from column_shape count (column_bytes table) i) n 0 ≡ (column_at table (i + n)).tag
  from_tag zero i h =
      let none : i + 0 ≡ i = omega arith in
      ap (λ (l : List ℕ). get_or l 0 0) (keys_at column_shape count (column_bytes table) i (omega arith)) ∙ tag_at i (omega arith) ∙ ap (λ (m : ℕ). (column_at table m).tag) (sym none)
  from_tag (suc n) i h =
      let on : i + 1 + n ≡ i + suc n = omega arith in
      ap (λ (l : List ℕ). get_or l (suc n) 0) (keys_at column_shape count (column_bytes table) i (omega arith))
      ∙ from_tag n (i + 1) (omega arith)
      ∙ ap (λ (m : ℕ). (column_at table m).tag) on

  pub tag_is : (i : ℕ) → i < count → get_or (tags table) i 0 ≡ (column_at table i).tag
  unfolding tags
  tag_is i h =
      let none : 0 + i ≡ i = omega arith in
      ap (λ (l : List ℕ). get_or l i 0) (sym (keys_all column_shape count (column_bytes table)))
      ∙ from_tag i 0 (omega arith)
      ∙ ap (λ (m : ℕ). (column_at table m).tag) none

  pub tags_length : length (tags table) ≡ count
  unfolding tags
  tags_length =
      ap length (keys_are column_shape count (column_bytes table)) ∙ length-map (records column_shape count (column_bytes table)) (key_of column_shape) ∙ records_length column_shape count (column_bytes table)

  -- a column that is found is one of them
  pub seat_inside : (tag i : ℕ) → Some i ≡ seat_of table tag → i < count
  unfolding seat_of tags
  seat_inside tag i e = found_inside column_shape count (column_bytes table) Equal tag i e

  -- none is found exactly when none has the tag
  pub unknown_exactly : (tag : ℕ) → (seat_of table tag ≡ None) ↔ Missing tag (tags table)
  unfolding seat_of
  unknown_exactly tag = nowhere_exactly tag (tags table)

  -- and where no two share a tag each is found by its own
  module _ (columns : ColumnsSound table) where
    pub seat_own : (i : ℕ) → i < count → seat_of table (get_or (tags table) i 0) ≡ Some i
    unfolding seat_of
    seat_own i h =
        seat_first (get_or (tags table) i 0) (tags table) i (rw tags_length h) refl
        (λ j l e. (columns.any_two j i (omega (arith, l, h)) h (λ (same : j ≡ i). omega (arith, l, same))).tag (sym (tag_is j (omega (arith, l, h))) ∙ e ∙ tag_is i h))
