-- All cells of a row in one call, beyond document 02: each as the call for one cell gives it. Assumes nothing: these are definitions.
use Rattle.std.specs.Prelude.{ℕ, ◌+◌, ◌/◌, Bool, cond, List, [], ◌∷◌, ◌++◌, leb, length, Option, Some, None, Result, Ok, Err}
use Rattle.laws.specs.Front.{fronted}
use Rattle.refusal.specs.declared.Fault.TheVariants.{ShortBuffer}
use Rattle.refusal.specs.Number.{number}
use Rattle.refusal.specs.Order.{◌needing◌, Rule, rule, in_order, after}
use Rattle.keys.specs.Search.{joined}
use Rattle.columns.specs.Record.{column_count}
use Rattle.columns.specs.Columns.{tags}
use Rattle.table.specs.Context.{table_record}
use Rattle.cells.specs.Rows.{rows_rules, rows_test, row_bytes, row_count}
use Rattle.cells.specs.Cells.{cell_of}
use Rattle.refusal.specs.declared.Refusal.{Refusal}
use Rattle.cells.specs.declared.Cell.{Cell}
use Rattle.cells.specs.declared.Cell.TheVariants.{Empty, Item, Missing, Number, Subnode}

-- an answer as the six words of a place: refusal, place, more, found, kind, value; 0 for what the answer does not have
unfoldable pub cell_words : Result (Option Cell) Refusal → List ℕ
cell_words (Ok (Some (Number value))) = 0 ∷ 0 ∷ 0 ∷ 1 ∷ 0 ∷ value ∷ []
cell_words (Ok (Some Empty)) = 0 ∷ 0 ∷ 0 ∷ 1 ∷ 1 ∷ 0 ∷ []
cell_words (Ok (Some (Item item))) = 0 ∷ 0 ∷ 0 ∷ 1 ∷ 2 ∷ item ∷ []
cell_words (Ok (Some (Subnode subnode))) = 0 ∷ 0 ∷ 0 ∷ 1 ∷ 3 ∷ subnode ∷ []
cell_words (Ok (Some Missing)) = 0 ∷ 0 ∷ 0 ∷ 1 ∷ 4 ∷ 0 ∷ []
cell_words (Ok None) = 0 ∷ 0 ∷ 0 ∷ 0 ∷ 0 ∷ 0 ∷ []
cell_words (Err r) = number r.fault ∷ r.place ∷ r.more ∷ 0 ∷ 0 ∷ 0 ∷ []

-- an area has its words divided by six places, rounded down; one with fewer places than there are columns is refused with 17
unfoldable pub area_rules : ℕ → ℕ → List Rule
area_rules columns words = rule (leb columns (words / 6)) (ShortBuffer needing columns) ∷ []

module _ (block rows : List ℕ) (row : ℕ) where
  -- the place of the column with a tag, and the places of all columns, in stored order
  abbrev pub place_of : ℕ → List ℕ
  place_of tag = cell_words (cell_of block rows row tag)

  abbrev pub places_of : List ℕ
  places_of = joined place_of (tags (table_record block))

  -- whether there is such a row
  abbrev pub is_there : Bool
  is_there = leb (row + 1) (row_count (table_record block) (row_bytes block rows))

  -- all rules that are tried: those of a cell before its row number, then that of the area
  unfoldable pub read_row_rules : ℕ → List Rule
  read_row_rules words = rows_rules block rows ++ cond is_there (area_rules (column_count (table_record block)) words) []

  -- a row number past the end is absent
  unfoldable pub row_read : ℕ → Result (Option ℕ) Refusal
  row_read words = after Err (rows_test block rows) (cond is_there (after Err (in_order (area_rules (column_count (table_record block)) words)) (Ok (Some (column_count (table_record block))))) (Ok None))

  -- the area at exit: nothing is written where the row is absent or the call refused, and what lies behind the places stays
  unfoldable pub row_area : List ℕ → List ℕ
  row_area area =
      after (λ r. area) (rows_test block rows) (cond is_there (after (λ r. area) (in_order (area_rules (column_count (table_record block)) (length area))) (fronted places_of area)) area)
