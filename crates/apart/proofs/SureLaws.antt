-- The quick pass, column by column: a column whose tag differs from those before it, and whose bytes and bit
-- have no mark yet, is apart from each of them. Assumes nothing.
use Prim.Native.Nat.{ℕ, ◌+◌, ◌-◌, ◌≤◌, ◌<◌}
use mathlib.Core.Path.{◌≡◌, refl, sym, ap, ◌∙◌, subst}
use mathlib.Core.Bool.{Bool, true, false}
use mathlib.Core.List.{List}
use native.Mathlib.Omega.{arith}
use lib.Dec.{leb}
use lib.ListN.{length, get_or}
use borrow.Author.Tests.{leb-true, leb-false}
use Rattle.laws.proofs.Tests.{both_and}
use Rattle.columns.specs.declared.Column.{Column}
use Rattle.columns.specs.Record.{existence_start}
use Rattle.columns.specs.Columns.{column_at, all_apart}
use Rattle.columns.specs.Sound.{Takes, ColumnSound, Apart}
use Rattle.columns.proofs.ColumnLaws.{width_bounds, all_on, from_holds}
use Rattle.apart.specs.Steps.{marked, Free, Differ, Surely}
use Rattle.apart.proofs.MarkLaws.{marked_inside, marked_kept}

-- two marks that differ stand at two places
no_place : (marks : List ℕ) (one other : ℕ) → one ≡ other → get_or marks one 0 ≡ 1 → get_or marks other 0 ≡ 0 → ⊥
no_place marks one other e h k = let same = ap (λ (p : ℕ). get_or marks p 0) e in omega (arith, same, h, k)

free_byte : (bytes : List ℕ) (column : Column) → Free bytes column.offset column.width → (place : ℕ) → Takes column place → get_or bytes place 0 ≡ 0
free_byte bytes column free place t =
    let back : place ≡ column.offset + (place - column.offset) = omega (arith, t.from) in
    ap (λ (p : ℕ). get_or bytes p 0) back ∙ free (place - column.offset) (omega (arith, t.from, t.to))

byte_marked : (bytes : List ℕ) (column : Column) → column.offset + column.width ≤ length bytes → (place : ℕ) → Takes column place
    → get_or (marked bytes column.offset column.width) place 0 ≡ 1
byte_marked bytes column room place t =
    let back : place ≡ column.offset + (place - column.offset) = omega (arith, t.from) in
    ap (λ (p : ℕ). get_or (marked bytes column.offset column.width) p 0) back
    ∙ marked_inside bytes column.offset column.width room (place - column.offset) (omega (arith, t.from, t.to))

bit_marked : (bits : List ℕ) (bit : ℕ) → bit < length bits → get_or (marked bits bit 1) bit 0 ≡ 1
bit_marked bits bit room =
    let back : bit ≡ bit + 0 = omega arith in
    ap (λ (p : ℕ). get_or (marked bits bit 1) p 0) back ∙ marked_inside bits bit 1 (omega arith) 0 (omega arith)

-- what holds of those before and of the next holds of those up to it
up_to : (P : ℕ → Type 0) (n : ℕ) → ((j : ℕ) → j < n → P j) → P n → (j : ℕ) → j < n + 1 → P j
up_to P n before last j h = by (leb n j) refl
  where
    by : (t : Bool) → leb n j ≡ t → P j
    by true l = let m = leb-true n j l in let same : n ≡ j = omega (arith, m) in subst P same last
    by false l = before j (leb-false n j l)

module _ (table : List ℕ) where
  pub surely_none : (bytes bits : List ℕ) → Surely table 0 bytes bits
  unfolding all_apart
  surely_none bytes bits =
      record { apart = refl; bytes_marked = λ j place h t. absurd (omega arith); bits_marked = λ j h. absurd (omega arith) }

  module _ (n : ℕ) (bytes bits : List ℕ) (sure : Surely table n bytes bits)
      (each : (i : ℕ) → i < n + 1 → ColumnSound table (column_at table i)) where
    wide : (i : ℕ) → i < n + 1 → 1 ≤ (column_at table i).width
    wide i h = (width_bounds (column_at table i) table (each i h)).0

    beside : (column : Column) → ((i : ℕ) → i < n → (column_at table i).tag ≡ column.tag → ⊥) → Free bytes column.offset column.width → Free bits column.bit 1
        → (i : ℕ) → i < n → Apart (column_at table i) column
    beside column new no_byte no-bit i h =
        record {
          tag = new i h;
          byte = λ place t k. no_place bytes place place refl (sure.bytes_marked i place h t) (free_byte bytes column no_byte place k);
          bit = λ (e : (column_at table i).bit ≡ column.bit). no_place bits (column_at table i).bit (column.bit + 0) (omega (arith, e)) (sure.bits_marked i h) (no-bit 0 (omega arith));
        }

    step : existence_start table ≤ length bytes → (column_at table n).bit < length bits → Differ table (n + 1)
        → Free bytes (column_at table n).offset (column_at table n).width → Free bits (column_at table n).bit 1
        → Surely table (n + 1) (marked bytes (column_at table n).offset (column_at table n).width) (marked bits (column_at table n).bit 1)
    step row room differ no_byte no-bit =
        let column = column_at table n in
        let before = (each n (omega arith)).before in
        let inside : column.offset + column.width ≤ length bytes = omega (arith, before, row) in
        record {
          apart = all_on table n ∙ both_and _ _ sure.apart (from_holds table column (wide n (omega arith)) n (λ i h. (wide i (omega arith), beside column (λ j l. differ j n l (omega arith)) no_byte no-bit i h)));
          bytes_marked = λ j place h. up_to (λ (j : ℕ). Takes (column_at table j) place → get_or (marked bytes column.offset column.width) place 0 ≡ 1) n
              (λ j h t. marked_kept bytes column.offset column.width inside place (sure.bytes_marked j place h t)) (byte_marked bytes column inside place) j h;
          bits_marked = up_to (λ (j : ℕ). get_or (marked bits column.bit 1) (column_at table j).bit 0 ≡ 1) n
              (λ j h. marked_kept bits column.bit 1 (omega (arith, room)) (column_at table j).bit (sure.bits_marked j h)) (bit_marked bits column.bit room);
        }

  -- a column's bytes lie among the marks
  pub row_room : (n room : ℕ) (column : Column) → column_at table n ≡ column → ColumnSound table (column_at table n) → existence_start table ≤ room → column.offset + column.width ≤ room
  row_room n room column e sound row =
      let before = sound.before in
      let same = ap (λ (x : Column). x.offset + x.width) e in
      omega (arith, before, same, row)

  -- as the code has it: the column that was read, and the marks after it
  pub surely_on : (n : ℕ) (bytes bits bytes_after bits-after : List ℕ) (column : Column) → column_at table n ≡ column
      → ((i : ℕ) → i < n + 1 → ColumnSound table (column_at table i)) → existence_start table ≤ length bytes → column.bit < length bits
      → bytes_after ≡ marked bytes column.offset column.width → bits-after ≡ marked bits column.bit 1
      → Surely table n bytes bits → Free bytes column.offset column.width → Free bits column.bit 1 → Differ table (n + 1)
      → Surely table (n + 1) bytes_after bits-after
  surely_on n bytes bits bytes_after bits-after column e each row room byte-marks bit-marks before no_byte no-bit differ =
      subst (λ (x : List ℕ). Surely table (n + 1) x bits-after) (sym byte-marks)
      (subst (λ (x : List ℕ). Surely table (n + 1) (marked bytes column.offset column.width) x) (sym bit-marks)
      (subst (λ (x : Column). x.bit < length bits → Differ table (n + 1) → Free bytes x.offset x.width → Free bits x.bit 1
      → Surely table (n + 1) (marked bytes x.offset x.width) (marked bits x.bit 1))
      e (step n bytes bits before each row) room differ no_byte no-bit))
