-- Folder tables. Assumes nothing.
use Prim.Native.Nat.{ℕ, ◌+◌, ◌*◌, ◌≤◌, ◌<◌}
use mathlib.Core.Path.{◌≡◌, refl, sym, ap, ◌∙◌, subst}
use mathlib.Core.Bool.{Bool, true, false}
use mathlib.Core.Logic.{◌↔◌}
use mathlib.Core.List.{List, [], ◌∷◌, map}
use native.Mathlib.Omega.{arith}
use lib.Dec.{leb}
use borrow.Author.Tests.{leb-true, leb-false}
use lib.ListN.{length, drop}
use Rattle.laws.proofs.Tests.{not_both}
use Rattle.refusal.specs.Order.{Verdict, after, AllHold}
use Rattle.keys.specs.Plain.{Missing}
use Rattle.columns.specs.declared.Column.{Column}
use Rattle.columns.specs.Record.{column_count}
use Rattle.columns.specs.Columns.{column_at, tags}
use Rattle.columns.specs.Sound.{Apart}
use Rattle.columns.proofs.SeatLaws.{tag_is, unknown_exactly}
use Rattle.heaptree.specs.declared.HeapTree.{HeapTree}
use Rattle.table.specs.declared.Table.{Table}
use Rattle.table.specs.Context.{table_record, table_test, TableSound}
use Rattle.table.specs.Says.{table_in, table_of, column_of}
use Rattle.table.specs.RowIndex.{row_index, row_index32, row_id, row_of, IndexSound, row_records}
use Rattle.table.proofs.ContextLaws.{table_exactly}
use Rattle.table.proofs.IndexLaws.{table_on, column_on, column_refused}
use Rattle.table.proofs.SaidLaws.{column_past, column_there}
use Rattle.table.proofs.RowLaws.{row_answered_exactly, row_scan_holds}
use Rattle.refusal.proofs.OrderLaws.{refusal_in}
use Rattle.cells.specs.declared.Cell.TheVariants as cell
use Rattle.cells.specs.Rows.{Held, rows_named, row_bytes, rows_test, row_count, row_at, count_of}
use Rattle.cells.specs.Cells.{cell_at, cell_of}
use Rattle.cells.specs.Tried.{cell_rules}
use Rattle.cells.proofs.HeldLaws.{rows_exactly, count_on, cell_on}
use Rattle.cells.proofs.CellLaws as cells-laws
use Rattle.cells.proofs.TriedLaws as tried
use Rattle.cells.proofs.WithinLaws.{row_only, cell_within, cell_own}
use Rattle.rowcells.specs.RowCells.{cell_words, row_read}
use Rattle.rowcells.proofs.Words.{words_injective}
use Rattle.rowcells.proofs.ReadLaws.{cells_say, place_is, past_stays, area_length, left_alone}
use Rattle.pst.specs.Meaning.{answered, absent, refuses, refusal_means, table_means, column_means, count_means, cell_means, row_means, cells_means}
use Rattle.pst.specs.Outcomes.{table_outcome, column_outcome, count_outcome, cell_outcome, row_outcome, row32_outcome, read_row_outcome, read_row_area}
use Rattle.pst.specs.Demands.{cell_place_in, RowThere, RowsFound, FifthRequest}
use Rattle.pst.proofs.Injective.{table_injective, column_injective, count_injective, cell_injective, row_injective, cells_injective}
use Rattle.std.specs.Prelude.{Option, Some, None, Result, Ok, Err}
use Rattle.refusal.specs.declared.Refusal.{Refusal}
use Rattle.cells.specs.declared.Cell.{Cell}

both_ways : {A B C : Type 0} → A ↔ B → B ↔ C → A ↔ C
both_ways p q = ((λ a. q.0 (p.0 a)), (λ c. p.1 (q.1 c)))

-- no answer and no refusal are the same
module _ (block : List ℕ) where
  said : (v : Verdict) (t : Table) → after Err v (Ok t) ≡ Ok t → v ≡ Ok tt
  unfolding after
  said (Ok tt) t e = refl
  said (Err r) t e = cc

  accepted : (table_outcome block ≡ table_means (Ok (table_in (table_record block)))) ↔ TableSound block
  unfolding table_outcome table_of
  accepted = (
    (λ e. (table_exactly block).0 (said (table_test block) (table_in (table_record block)) (table_injective _ _ e))),
    (λ s. ap table_means (table_on block ((table_exactly block).1 s))),
  )

  column_found : (i : ℕ) → TableSound block → i < column_count (table_record block) → column_outcome block i ≡ column_means (Ok (Some (column_at (table_record block) i)))
  unfolding column_outcome
  column_found i s h = ap column_means (column_on block i ((table_exactly block).1 s) ∙ column_there (table_record block) i (omega (arith, h)))

  column_absent : (i : ℕ) → TableSound block → column_count (table_record block) ≤ i → column_outcome block i ≡ absent []
  unfolding column_outcome column_means
  column_absent i s h = ap column_means (column_on block i ((table_exactly block).1 s) ∙ column_past (table_record block) i (omega (arith, h)))

  -- a column that is handed out is one of a sound table
  handed_out : (i : ℕ) (one : Column) → column_of block i ≡ Ok (Some one) → TableSound block × (i < column_count (table_record block)) × (one ≡ column_at (table_record block) i)
  handed_out i one e = by (table_test block) refl
    where
      here : table_test block ≡ Ok tt → (b : Bool) → leb (i + 1) (column_count (table_record block)) ≡ b → TableSound block × (i < column_count (table_record block)) × (one ≡ column_at (table_record block) i)
      here t true b =
          let h = borrow_leb b in
          let is = sym e ∙ column_on block i t ∙ column_there (table_record block) i h in
          ((table_exactly block).0 t, omega (arith, h), cc)
        where
          borrow_leb : leb (i + 1) (column_count (table_record block)) ≡ true → i + 1 ≤ column_count (table_record block)
          borrow_leb = leb-true (i + 1) (column_count (table_record block))
      here t false b =
          let is = sym e ∙ column_on block i t ∙ column_past (table_record block) i (leb-false (i + 1) (column_count (table_record block)) b) in
          let clash : ◌≡◌ {A = ℕ} 0 1 = cc in absurd (omega arith)

      by : (v : Verdict) → table_test block ≡ v → TableSound block × (i < column_count (table_record block)) × (one ≡ column_at (table_record block) i)
      by (Ok tt) t = here t (leb (i + 1) (column_count (table_record block))) refl
      by (Err r) t = let is = sym e ∙ column_refused block i r t in let clash : ◌≡◌ {A = ℕ} 0 1 = cc in absurd (omega arith)

  columns_apart : (i j : ℕ) (one other : Column) → (i ≡ j → ⊥) → column_outcome block i ≡ column_means (Ok (Some one)) → column_outcome block j ≡ column_means (Ok (Some other)) → Apart one other
  unfolding column_outcome
  columns_apart i j one other d e f =
      let left = handed_out i one (column_injective _ _ e) in
      let right = handed_out j other (column_injective _ _ f) in
      subst (λ (c : Column). Apart c other) (sym left.2)
      (subst (λ (c : Column). Apart (column_at (table_record block) i) c) (sym right.2) (left.0.columns.any_two i j left.1 right.1 d))

module _ (block rows : List ℕ) where
  counted : (v : Verdict) (n : ℕ) → after Err v (Ok n) ≡ Ok n → v ≡ Ok tt
  unfolding after
  counted (Ok tt) n e = refl
  counted (Err r) n e = cc

  rows_counted : (count_outcome block rows ≡ answered (row_count (table_record block) (row_bytes block rows) ∷ [])) ↔ (TableSound block × Held block rows (rows_named block))
  unfolding count_outcome count_means count_of
  rows_counted = (
    (λ e. (rows_exactly block rows).0 (counted (rows_test block rows) (row_count (table_record block) (row_bytes block rows)) (count_injective _ (Ok (row_count (table_record block) (row_bytes block rows))) e))),
    (λ h. ap count_means (count_on block rows ((rows_exactly block rows).1 h))),
  )

  module _ (row : ℕ) where
    past_the_end : (tag : ℕ) → TableSound block → Held block rows (rows_named block) → row_count (table_record block) (row_bytes block rows) ≤ row → cell_outcome block rows row tag ≡ absent []
    unfolding cell_outcome cell_means
    past_the_end tag s h past =
        ap cell_means (cell_on block rows row tag ((rows_exactly block rows).1 (s, h)) ∙ cells-laws.past_the_end block (table_record block) (row_bytes block rows) row tag (omega (arith, past)))

    unknown_tag : (tag : ℕ) → RowThere block rows row → Missing tag (tags (table_record block)) → cell_outcome block rows row tag ≡ absent []
    unfolding cell_outcome cell_means
    unknown_tag tag t m =
        ap cell_means (cell_on block rows row tag ((rows_exactly block rows).1 (t.table, t.held))
        ∙ cells-laws.unknown_tag block (table_record block) (row_bytes block rows) row tag (omega (arith, t.there)) (sym ((unknown_exactly (table_record block) t.table.shape tag).1 m)))

    known_tag : (i : ℕ) → RowThere block rows row → i < column_count (table_record block)
        → cell_outcome block rows row (column_at (table_record block) i).tag ≡ cell_means (cell_at block (table_record block) (row_at (table_record block) (row_bytes block rows) row) (column_at (table_record block) i))
    unfolding cell_outcome
    known_tag i t h =
        ap cell_means (ap (cell_of block rows row) (sym (tag_is (table_record block) t.table.shape i h))
        ∙ cell_own block rows t.table ((rows_exactly block rows).1 (t.table, t.held)) row t.there i h)

-- answered or absent, and no refusal
not_refused : (c : Result (Option Cell) Refusal) → (refuses (cell_means c) ≡ false) ↔ (refusal_in c ≡ Ok tt)
unfolding refuses cell_means refusal_means refusal_in
not_refused (Ok (Some (cell.Number value))) = ((λ e. refl), (λ e. refl))
not_refused (Ok (Some cell.Empty)) = ((λ e. refl), (λ e. refl))
not_refused (Ok (Some (cell.Item item))) = ((λ e. refl), (λ e. refl))
not_refused (Ok (Some (cell.Subnode subnode))) = ((λ e. refl), (λ e. refl))
not_refused (Ok (Some cell.Missing)) = ((λ e. refl), (λ e. refl))
not_refused (Ok None) = ((λ e. refl), (λ e. refl))
not_refused (Err r) = ((λ e. not_both true refl e), (λ e. cc))

row_not_refused : (f : Result (Option ℕ) Refusal) → (refuses (row_means f) ≡ false) ↔ (refusal_in f ≡ Ok tt)
unfolding refuses row_means refusal_means refusal_in
row_not_refused (Ok (Some n)) = ((λ e. refl), (λ e. refl))
row_not_refused (Ok None) = ((λ e. refl), (λ e. refl))
row_not_refused (Err r) = ((λ e. not_both true refl e), (λ e. cc))

cell_answered : (block rows : List ℕ) (row tag : ℕ) → (refuses (cell_outcome block rows row tag) ≡ false) ↔ AllHold (cell_rules block rows row tag)
unfolding cell_outcome
cell_answered block rows row tag = both_ways (not_refused (cell_of block rows row tag)) (tried.cell_answered_exactly block rows row tag)

-- over any row index
module _ (tree : HeapTree) where
  row_absent_iff : (block : List ℕ) (id : ℕ) → IndexSound tree block → (row_means (row_of tree block id) ≡ absent []) ↔ Missing id (map (row_id tree) (row_records tree block))
  unfolding row_means
  row_absent_iff block id s =
      both_ways ((λ e. row_injective (row_of tree block id) (Ok None) e), (λ e. ap row_means e)) ((row_scan_holds tree block s).absent_iff id)

  rows_found : RowsFound tree (λ block id. row_means (row_of tree block id))
  rows_found =
      record {
        row_answered = λ block id. both_ways (row_not_refused (row_of tree block id)) (row_answered_exactly tree block id);
        row_scanned = λ block id s. ap row_means ((row_scan_holds tree block s).answers id);
        row_ascending = λ block s. (row_scan_holds tree block s).ascending;
        row_absent_iff = row_absent_iff;
      }

-- the cells of a row
module _ (block rows : List ℕ) (row n : ℕ) (area : List ℕ) (e : read_row_outcome block rows row area ≡ answered (n ∷ [])) where
  taken : row_read block rows row (length area) ≡ Ok (Some n)
  unfolding read_row_outcome cells_means
  taken = cells_injective _ (Ok (Some n)) e

  cells_counted : n ≡ column_count (table_record block)
  cells_counted = (cells_say block rows row (length area) n taken).3

  sound : TableSound block
  sound = ((rows_exactly block rows).0 (cells_say block rows row (length area) n taken).0).0

  here : (i : ℕ) → i < n → cell_place_in (read_row_area block rows row area) i ≡ cell_words (cell_of block rows row (column_at (table_record block) i).tag)
  unfolding read_row_area
  here i h =
      let inside : i < column_count (table_record block) = omega (arith, cells_counted, h) in
      place_is block rows area row n taken i inside
      ∙ ap (λ (tag : ℕ). cell_words (cell_of block rows row tag)) (tag_is (table_record block) sound.shape i inside)

  cell_places : (i : ℕ) (given : Result (Option Cell) Refusal) → i < n
      → (cell_place_in (read_row_area block rows row area) i ≡ cell_words given) ↔ (cell_means given ≡ cell_outcome block rows row (column_at (table_record block) i).tag)
  unfolding cell_outcome
  cell_places i given h = (
    (λ f. ap cell_means (sym (words_injective _ given (sym (here i h) ∙ f)))),
    (λ f. here i h ∙ ap cell_words (sym (cell_injective given _ f))),
  )

  past_the_places : drop (6 * n) (read_row_area block rows row area) ≡ drop (6 * n) area
  unfolding read_row_area
  past_the_places = rw cells_counted (past_stays block rows area row n taken)

  same_length : length (read_row_area block rows row area) ≡ length area
  unfolding read_row_area
  same_length = area_length block rows area row n taken

absent_leaves : (block rows : List ℕ) (row : ℕ) (area : List ℕ) → read_row_outcome block rows row area ≡ absent [] → read_row_area block rows row area ≡ area
unfolding read_row_outcome read_row_area cells_means
absent_leaves block rows row area e =
    left_alone block rows area row (Ok None) (cells_injective _ (Ok None) e) (λ n f. let clash : ◌≡◌ {A = ℕ} 0 1 = cc in omega arith)

pub fifth_request : FifthRequest
unfolding row_outcome row32_outcome cell_outcome
fifth_request =
    record {
      accepted = accepted;
      column_found = column_found;
      column_absent = column_absent;
      columns_apart = columns_apart;
      rows_counted = rows_counted;
      past_the_end = past_the_end;
      unknown_tag = unknown_tag;
      known_tag = known_tag;
      cell_answered = cell_answered;
      in_its_row = λ block one other row tag long same. ap cell_means (cell_within block one other row tag long same);
      in_any_row = row_only;
      row_index_lem = rows_found row_index;
      row_index32_lem = rows_found row_index32;
      cells_counted = cells_counted;
      cell_places = λ block rows row n area i given e h. cell_places block rows row n area e i given h;
      past_the_places = past_the_places;
      same_length = same_length;
      absent_leaves = absent_leaves;
    }
