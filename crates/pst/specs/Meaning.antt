-- Document 01: "When an answer is an enum, a definition specifies this paper's number and values for each of its cases." Assumes nothing: these are definitions.
use Rattle.std.specs.Prelude.{ℕ, Bool, true, false, List, [], ◌∷◌, Option, Some, None, Result, Ok, Err}
use Rattle.refusal.specs.declared.Refusal.{Refusal}
use Rattle.refusal.specs.Number.{number}
use Rattle.property.specs.declared.Property.TheVariants as property
use Rattle.table.specs.declared.Named.{Named}
use Rattle.table.specs.declared.Named.TheVariants as named
use Rattle.cells.specs.declared.Cell.TheVariants as cell
use Rattle.refusal.specs.Order.{Verdict}
use Rattle.header.specs.declared.Header.{Header}
use Rattle.tree.specs.declared.Found.{Found}
use Rattle.tree.specs.declared.Node.{Node}
use Rattle.tree.specs.declared.Listed.{Listed}
use Rattle.heap.specs.declared.Span.{Span}
use Rattle.property.specs.declared.Property.{Property}
use Rattle.table.specs.declared.Table.{Table}
use Rattle.columns.specs.declared.Column.{Column}
use Rattle.cells.specs.declared.Cell.{Cell}
use Rattle.tree.specs.declared.Found.TheVariants.{Absent, Entry}

-- what an answer says, in document 01's numbers
pub data Meaning : Type 0 where
  -- its values, in the order in which the call's definition below lists them
  answered : List ℕ → Meaning
  -- absent; a lookup of a node or block says the count of pages
  absent : List ℕ → Meaning
  -- the refusal's number, its place, and what more it returns
  refused : ℕ → ℕ → ℕ → Meaning

-- whether it says a refusal
unfoldable pub refuses : Meaning → Bool
refuses (answered values) = false
refuses (absent values) = false
refuses (refused n place more) = true

unfoldable pub refusal_means : Refusal → Meaning
refusal_means r = refused (number r.fault) r.place r.more

-- an acceptance carries nothing
unfoldable pub verdict_means : Verdict → Meaning
verdict_means (Ok tt) = answered []
verdict_means (Err r) = refusal_means r

-- method; number and offset of the NBT's root page, and of the BBT's; end-of-file number; edition, 64 or 32
unfoldable pub header_means : Result Header Refusal → Meaning
header_means (Ok h) =
    answered (h.method ∷ h.nodes.number ∷ h.nodes.offset ∷ h.blocks.number ∷ h.blocks.offset ∷ h.end ∷ h.edition ∷ [])
header_means (Err r) = refusal_means r

-- node, data block, subnode block, parent; pages
unfoldable pub node_means : Result (Found Node) Refusal → Meaning
node_means (Ok (Entry n pages)) = answered (n.node ∷ n.block ∷ n.subnode ∷ n.parent ∷ pages ∷ [])
node_means (Ok (Absent pages)) = absent (pages ∷ [])
node_means (Err r) = refusal_means r

-- number as stored, offset, size, references; pages
unfoldable pub block_means : Result (Found Listed) Refusal → Meaning
block_means (Ok (Entry b pages)) = answered (b.block ∷ b.offset ∷ b.size ∷ b.references ∷ pages ∷ [])
block_means (Ok (Absent pages)) = absent (pages ∷ [])
block_means (Err r) = refusal_means r

-- size
unfoldable pub sized_means : Result ℕ Refusal → Meaning
sized_means (Ok n) = answered (n ∷ [])
sized_means (Err r) = refusal_means r

-- length
unfoldable pub data_means : Result (Option ℕ) Refusal → Meaning
data_means (Ok (Some n)) = answered (n ∷ [])
data_means (Ok None) = absent []
data_means (Err r) = refusal_means r

-- start, length
unfoldable pub span_means : Result Span Refusal → Meaning
span_means (Ok span) = answered (span.start ∷ span.length ∷ [])
span_means (Err r) = refusal_means r

-- type; 0 with a number in place, 1 for an empty value, 2 with an item's number, 3 with a subnode's
unfoldable pub property_means : Result (Option Property) Refusal → Meaning
property_means (Ok (Some (property.Number type value))) = answered (type ∷ 0 ∷ value ∷ [])
property_means (Ok (Some (property.Empty type))) = answered (type ∷ 1 ∷ [])
property_means (Ok (Some (property.Item type item))) = answered (type ∷ 2 ∷ item ∷ [])
property_means (Ok (Some (property.Subnode type subnode))) = answered (type ∷ 3 ∷ subnode ∷ [])
property_means (Ok None) = absent []
property_means (Err r) = refusal_means r

-- what holds a table's rows: 1 for none, 2 with an item's number, 3 with a subnode's
unfoldable pub kind_of : Named → ℕ
kind_of named.Nothing = 1
kind_of (named.Item item) = 2
kind_of (named.Subnode subnode) = 3

unfoldable pub number_of : Named → ℕ
number_of named.Nothing = 0
number_of (named.Item item) = item
number_of (named.Subnode subnode) = subnode

-- columns, size of a row, start of its existence bytes; what holds the rows, and its number
unfoldable pub table_means : Result Table Refusal → Meaning
table_means (Ok t) = answered (t.columns ∷ t.size ∷ t.existence ∷ kind_of t.rows ∷ number_of t.rows ∷ [])
table_means (Err r) = refusal_means r

-- tag, offset, width, bit
unfoldable pub column_means : Result (Option Column) Refusal → Meaning
column_means (Ok (Some c)) = answered (c.tag ∷ c.offset ∷ c.width ∷ c.bit ∷ [])
column_means (Ok None) = absent []
column_means (Err r) = refusal_means r

-- number of rows
unfoldable pub count_means : Result ℕ Refusal → Meaning
count_means (Ok n) = answered (n ∷ [])
count_means (Err r) = refusal_means r

-- 0 with a number, 1 for an empty value, 2 with an item's number, 3 with a subnode's, 4 for a missing cell
unfoldable pub cell_means : Result (Option Cell) Refusal → Meaning
cell_means (Ok (Some (cell.Number value))) = answered (0 ∷ value ∷ [])
cell_means (Ok (Some cell.Empty)) = answered (1 ∷ [])
cell_means (Ok (Some (cell.Item item))) = answered (2 ∷ item ∷ [])
cell_means (Ok (Some (cell.Subnode subnode))) = answered (3 ∷ subnode ∷ [])
cell_means (Ok (Some cell.Missing)) = answered (4 ∷ [])
cell_means (Ok None) = absent []
cell_means (Err r) = refusal_means r

-- row number
unfoldable pub row_means : Result (Option ℕ) Refusal → Meaning
row_means (Ok (Some n)) = answered (n ∷ [])
row_means (Ok None) = absent []
row_means (Err r) = refusal_means r

-- number of cells
unfoldable pub cells_means : Result (Option ℕ) Refusal → Meaning
cells_means (Ok (Some n)) = answered (n ∷ [])
cells_means (Ok None) = absent []
cells_means (Err r) = refusal_means r
