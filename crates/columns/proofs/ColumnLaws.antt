-- Columns are accepted exactly when each rule holds of each of them and of any two. Assumes nothing.
use Prim.Native.Nat.{ℕ, zero, suc, ◌+◌, ◌*◌, ◌-◌, ◌≤◌, ◌<◌}
use mathlib.Core.Path.{◌≡◌, refl, sym, ap, ◌∙◌, subst}
use mathlib.Core.Bool.{Bool, true, false, cond, not, ◌&&◌, ◌||◌}
use mathlib.Core.Logic.{◌↔◌, ◌⊎◌, inl, inr, ⊎_elim}
use mathlib.Core.List.{List}
use native.Mathlib.Numerals.{add-one}
use native.Mathlib.Omega.{arith}
use lib.Dec.{leb, eqb}
use borrow.Author.Tests.{leb-true, le-leb, leb-false, eqb-true, eq-eqb, eqb-false, ne_eqb, not-true}
use Rattle.laws.proofs.Tests.{and_both, both_and, either}
use Rattle.columns.specs.declared.Column.{Column}
use Rattle.columns.specs.Record.{column_count, existence_start, row_size_of}
use Rattle.columns.specs.Columns.{column_at, refers, width_fits, column_fits, apart, each_fits, apart_from, all_apart, columns_fit}
use Rattle.columns.specs.Sound.{Takes, NumberWidth, ColumnSound, Apart, ColumnsSound}

-- the widths of numbers
one_of : (w : ℕ) → (eqb w 1 || eqb w 2 || eqb w 4 || eqb w 8) ≡ true → NumberWidth w
one_of w e =
    ⊎_elim
    (λ (h : (eqb w 1 || eqb w 2 || eqb w 4) ≡ true).
    ⊎_elim
    (λ (k : (eqb w 1 || eqb w 2) ≡ true). ⊎_elim (λ (m : eqb w 1 ≡ true). inl (eqb-true w 1 m)) (λ (m : eqb w 2 ≡ true). inr (inl (eqb-true w 2 m))) (either (eqb w 1) (eqb w 2) k))
    (λ (k : eqb w 4 ≡ true). inr (inr (inl (eqb-true w 4 k))))
    (either (eqb w 1 || eqb w 2) (eqb w 4) h))
    (λ (h : eqb w 8 ≡ true). inr (inr (inr (eqb-true w 8 h))))
    (either (eqb w 1 || eqb w 2 || eqb w 4) (eqb w 8) e)

abbrev number_width_lem : ℕ → Bool
number_width_lem w = eqb w 1 || eqb w 2 || eqb w 4 || eqb w 8

of_one : (w : ℕ) → NumberWidth w → number_width_lem w ≡ true
of_one w (inl e) = ap number_width_lem e
of_one w (inr (inl e)) = ap number_width_lem e
of_one w (inr (inr (inl e))) = ap number_width_lem e
of_one w (inr (inr (inr e))) = ap number_width_lem e

-- a number's width lies between 1 and 8
pub number_width : (w : ℕ) → NumberWidth w → (1 ≤ w) × (w ≤ 8)
number_width w (inl e) = (omega arith, omega arith)
number_width w (inr (inl e)) = (omega arith, omega arith)
number_width w (inr (inr (inl e))) = (omega arith, omega arith)
number_width w (inr (inr (inr e))) = (omega arith, omega arith)

module _ (column : Column) where
  width_four : width_fits column ≡ true → refers column ≡ true → column.width ≡ 4
  unfolding width_fits
  width_four e r = eqb-true column.width 4 (sym (ap (λ (b : Bool). cond b (eqb column.width 4) (number_width_lem column.width)) r) ∙ e)

  width_number : width_fits column ≡ true → refers column ≡ false → NumberWidth column.width
  unfolding width_fits
  width_number e r = one_of column.width (sym (ap (λ (b : Bool). cond b (eqb column.width 4) (number_width_lem column.width)) r) ∙ e)

  width_fits_lem : (refers column ≡ true → column.width ≡ 4) → (refers column ≡ false → NumberWidth column.width) → width_fits column ≡ true
  unfolding width_fits
  width_fits_lem four number = by (refers column) refl
    where
      by : (b : Bool) → refers column ≡ b → cond (refers column) (eqb column.width 4) (eqb column.width 1 || eqb column.width 2 || eqb column.width 4 || eqb column.width 8) ≡ true
      by true r = rw r (eq-eqb _ _ (four r))
      by false r = rw r (of_one _ (number r))

  module _ (table : List ℕ) where
    sound : column_fits table column ≡ true → ColumnSound table column
    unfolding column_fits
    sound e =
        let width = and_both (leb (column.offset + column.width) (existence_start table) && leb (column.bit + 1) (8 * (row_size_of table - existence_start table))) (width_fits column) e in
        let both = and_both (leb (column.offset + column.width) (existence_start table)) (leb (column.bit + 1) (8 * (row_size_of table - existence_start table))) width.0 in
        record {
          before = leb-true _ _ both.0;
          within = let l = leb-true (column.bit + 1) (8 * (row_size_of table - existence_start table)) both.1 in omega (arith, l);
          four = width_four width.1;
          number = width_number width.1;
        }

    fits : ColumnSound table column → column_fits table column ≡ true
    unfolding column_fits
    fits s =
        both_and _ _ (both_and _ _ (le-leb _ _ s.before) (le-leb (column.bit + 1) (8 * (row_size_of table - existence_start table)) (omega (arith, s.within)))) (width_fits_lem s.four s.number)

    pub column_exactly : (column_fits table column ≡ true) ↔ ColumnSound table column
    column_exactly = (sound, fits)

    -- a sound column has at least one byte and at most eight
    pub width_bounds : ColumnSound table column → (1 ≤ column.width) × (column.width ≤ 8)
    width_bounds s = by (refers column) refl
      where
        by : (b : Bool) → refers column ≡ b → (1 ≤ column.width) × (column.width ≤ 8)
        by true r = let four = s.four r in (omega (arith, four), omega (arith, four))
        by false r = number_width _ (s.number r)

-- two columns
module _ (one other : Column) where
  abbrev separate : Bool
  separate = leb (one.offset + one.width) other.offset || leb (other.offset + other.width) one.offset

  no_byte : separate ≡ true → (place : ℕ) → Takes one place → Takes other place → ⊥
  no_byte e place h k =
      ⊎_elim
      (λ (l : leb (one.offset + one.width) other.offset ≡ true). let m = leb-true (one.offset + one.width) other.offset l in omega (arith, m, h.to, k.from))
      (λ (l : leb (other.offset + other.width) one.offset ≡ true). let m = leb-true (other.offset + other.width) one.offset l in omega (arith, m, h.from, k.to))
      (either (leb (one.offset + one.width) other.offset) (leb (other.offset + other.width) one.offset) e)

  pub apart_sound : apart one other ≡ true → Apart one other
  unfolding apart
  apart_sound e =
      let bit = and_both (not (eqb one.tag other.tag) && separate) (not (eqb one.bit other.bit)) e in
      let both = and_both (not (eqb one.tag other.tag)) separate bit.0 in
      record {
        tag = eqb-false _ _ (not-true _ both.0);
        byte = no_byte both.1;
        bit = eqb-false _ _ (not-true _ bit.1);
      }

  apart_by : (a b : Bool) → leb (one.offset + one.width) other.offset ≡ a → leb (other.offset + other.width) one.offset ≡ b
      → 1 ≤ one.width → 1 ≤ other.width → ((place : ℕ) → Takes one place → Takes other place → ⊥) → (a || b) ≡ true
  apart_by true b f g k l free = refl
  apart_by false true f g k l free = refl
  apart_by false false f g k l free =
      let m : other.offset < one.offset + one.width = leb-false _ _ f in
      let n : one.offset < other.offset + other.width = leb-false _ _ g in
      absurd (by (leb one.offset other.offset) refl m n)
    where
      by : (t : Bool) → leb one.offset other.offset ≡ t → other.offset < one.offset + one.width → one.offset < other.offset + other.width → ⊥
      by true t m n = let o = leb-true one.offset other.offset t in free other.offset (record { from = omega (arith, o); to = m }) (record { from = omega arith; to = omega (arith, l) })
      by false t m n = let o : other.offset < one.offset = leb-false _ _ t in free one.offset (record { from = omega arith; to = omega (arith, k) }) (record { from = omega (arith, o); to = n })

  pub apart_fits : 1 ≤ one.width → 1 ≤ other.width → Apart one other → apart one other ≡ true
  unfolding apart
  apart_fits k l a =
      both_and _ _ (both_and _ _ (ap not (ne_eqb _ _ a.tag)) (apart_by _ _ refl refl k l a.byte)) (ap not (ne_eqb _ _ a.bit))

pub apart_turned : (one other : Column) → Apart one other → Apart other one
apart_turned one other a = record { tag = λ e. a.tag (sym e); byte = λ place h k. a.byte place k h; bit = λ e. a.bit (sym e) }

module _ (table : List ℕ) where
  abbrev column : ℕ → Column
  column = column_at table

  -- one column more
  pub each_on : (n : ℕ) → each_fits table (n + 1) ≡ (each_fits table n && column_fits table (column n))
  unfolding each_fits
  each_on n = ap (each_fits table) (add-one n)

  pub from_on : (c : Column) (n : ℕ) → apart_from table c (n + 1) ≡ (apart_from table c n && apart (column n) c)
  unfolding apart_from
  from_on c n = ap (apart_from table c) (add-one n)

  pub all_on : (n : ℕ) → all_apart table (n + 1) ≡ (all_apart table n && apart_from table (column n) n)
  unfolding all_apart
  all_on n = ap (all_apart table) (add-one n)

  -- below the next is below this or this
  below_suc : (i n : ℕ) → i < suc n → (i < n) ⊎ (i ≡ n)
  below_suc i n h = by (leb n i) refl
    where
      by : (b : Bool) → leb n i ≡ b → (i < n) ⊎ (i ≡ n)
      by true e = let l = leb-true n i e in inr (omega (arith, l))
      by false e = inl (leb-false n i e)

  pub each_sound : (n : ℕ) → each_fits table n ≡ true → (i : ℕ) → i < n → ColumnSound table (column i)
  unfolding each_fits
  each_sound zero e i h = absurd (omega arith)
  each_sound (suc n) e i h =
      let both = and_both (each_fits table n) (column_fits table (column n)) e in
      ⊎_elim (λ (l : i < n). each_sound n both.0 i l)
      (λ (s : i ≡ n). subst (λ (k : ℕ). ColumnSound table (column k)) (sym s) ((column_exactly (column n) table).0 both.1)) (below_suc i n h)

  each_holds : (n : ℕ) → ((i : ℕ) → i < n → ColumnSound table (column i)) → each_fits table n ≡ true
  unfolding each_fits
  each_holds zero s = refl
  each_holds (suc n) s = both_and _ _ (each_holds n (λ i h. s i (omega arith))) ((column_exactly (column n) table).1 (s n (omega arith)))

  from_sound : (c : Column) (n : ℕ) → apart_from table c n ≡ true → (i : ℕ) → i < n → Apart (column i) c
  unfolding apart_from
  from_sound c zero e i h = absurd (omega arith)
  from_sound c (suc n) e i h =
      let both = and_both (apart_from table c n) (apart (column n) c) e in
      ⊎_elim (λ (l : i < n). from_sound c n both.0 i l)
      (λ (s : i ≡ n). subst (λ (k : ℕ). Apart (column k) c) (sym s) (apart_sound (column n) c both.1)) (below_suc i n h)

  pub from_holds : (c : Column) → 1 ≤ c.width → (n : ℕ) → ((i : ℕ) → i < n → (1 ≤ (column i).width) × Apart (column i) c) → apart_from table c n ≡ true
  unfolding apart_from
  from_holds c w zero s = refl
  from_holds c w (suc n) s =
      let last = s n (omega arith) in
      both_and _ _ (from_holds c w n (λ i h. s i (omega arith))) (apart_fits (column n) c last.0 w last.1)

  -- of any two, one comes before the other
  all_sound : (n : ℕ) → all_apart table n ≡ true → (i j : ℕ) → i < j → j < n → Apart (column i) (column j)
  unfolding all_apart
  all_sound zero e i j l h = absurd (omega arith)
  all_sound (suc n) e i j l h =
      let both = and_both (all_apart table n) (apart_from table (column n) n) e in
      ⊎_elim (λ (k : j < n). all_sound n both.0 i j l k)
      (λ (s : j ≡ n). subst (λ (k : ℕ). Apart (column i) (column k)) (sym s) (from_sound (column n) n both.1 i (omega (arith, s)))) (below_suc j n h)

  all_holds : (n : ℕ) → ((i : ℕ) → i < n → 1 ≤ (column i).width) → ((i j : ℕ) → i < j → j < n → Apart (column i) (column j)) → all_apart table n ≡ true
  unfolding all_apart
  all_holds zero w s = refl
  all_holds (suc n) w s =
      both_and _ _ (all_holds n (λ i h. w i (omega arith)) (λ i j l h. s i j l (omega arith)))
      (from_holds (column n) (w n (omega arith)) n (λ i h. (w i (omega arith), s i n h (omega arith))))

  either_way : (n : ℕ) → ((i j : ℕ) → i < j → j < n → Apart (column i) (column j)) → (i j : ℕ) → i < n → j < n → (i ≡ j → ⊥) → Apart (column i) (column j)
  either_way n s i j h k d = by (leb j i) refl
    where
      by : (b : Bool) → leb j i ≡ b → Apart (column i) (column j)
      by true e =
          let l = leb-true j i e in
          apart_turned (column j) (column i) (s j i (lower (leb i j) refl l) h)
        where
          lower : (b : Bool) → leb i j ≡ b → j ≤ i → j < i
          lower true f l = let m = leb-true i j f in let same : i ≡ j = omega (arith, l, m) in absurd (d same)
          lower false f l = leb-false i j f
      by false e = s i j (leb-false j i e) k

  columns_sound : columns_fit table ≡ true → ColumnsSound table
  unfolding columns_fit
  columns_sound e =
      let both = and_both (each_fits table (column_count table)) (all_apart table (column_count table)) e in
      record {
        each = each_sound (column_count table) both.0;
        any_two = either_way (column_count table) (all_sound (column_count table) both.1);
      }

  columns_fit_lem : ColumnsSound table → columns_fit table ≡ true
  unfolding columns_fit
  columns_fit_lem s =
      both_and _ _ (each_holds (column_count table) s.each)
      (all_holds (column_count table) (λ i h. (width_bounds (column i) table (s.each i h)).0)
      (λ i j l h. s.any_two i j (omega arith) h (λ (e : i ≡ j). omega (arith, e, l))))

  -- the theorem: accepted exactly when each rule holds of each column and of any two
  pub columns_exactly : (columns_fit table ≡ true) ↔ ColumnsSound table
  columns_exactly = (columns_sound, columns_fit_lem)
