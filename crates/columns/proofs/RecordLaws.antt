-- A table record is accepted exactly when each rule holds. Assumes nothing.
use Prim.Native.Nat.{ℕ, ◌+◌, ◌*◌, ◌<◌}
use mathlib.Core.Path.{◌≡◌}
use mathlib.Core.Bool.{true, false, ◌&&◌}
use mathlib.Core.Logic.{◌↔◌}
use mathlib.Core.List.{List}
use native.Mathlib.Omega.{arith}
use lib.Dec.{leb, eqb}
use lib.ListN.{length}
use borrow.Author.Tests.{leb-true, le-leb, eqb-true, eq-eqb, ne_eqb}
use Rattle.laws.proofs.Tests.{and_both, both_and}
use Rattle.le.specs.Bytes.{byte}
use Rattle.columns.specs.Record.{column_count, existence_start, row_size_of, record_fits}
use Rattle.columns.specs.Sound.{RecordSound}

module _ (table : List ℕ) where
  -- too short to have a count of columns
  pub record_short : length table < 22 → record_fits table ≡ false
  unfolding record_fits
  record_short h = rw (ne_eqb (length table) (22 + 8 * column_count table) (λ e. omega arith))

  sound : record_fits table ≡ true → RecordSound table
  unfolding record_fits
  sound e =
      let to = and_both (eqb (length table) (22 + 8 * column_count table) && eqb (byte table 0) 0x7C && leb 1 (row_size_of table)) (leb (existence_start table) (row_size_of table)) e in
      let row = and_both (eqb (length table) (22 + 8 * column_count table) && eqb (byte table 0) 0x7C) (leb 1 (row_size_of table)) to.0 in
      let both = and_both (eqb (length table) (22 + 8 * column_count table)) (eqb (byte table 0) 0x7C) row.0 in
      record {
        whole = eqb-true _ _ both.0;
        mark = eqb-true _ _ both.1;
        row = leb-true _ _ row.1;
        existence = leb-true _ _ to.1;
      }

  fits : RecordSound table → record_fits table ≡ true
  unfolding record_fits
  fits s = both_and _ _ (both_and _ _ (both_and _ _ (eq-eqb _ _ s.whole) (eq-eqb _ _ s.mark)) (le-leb _ _ s.row)) (le-leb _ _ s.existence)

  pub record_exactly : (record_fits table ≡ true) ↔ RecordSound table
  record_exactly = (sound, fits)
