-- Each meaning names one answer: answers that mean the same are the same. Assumes nothing.
use mathlib.Core.Path.{◌≡◌, refl, sym, ap, ap₂, ◌∙◌}
use Prim.Native.Nat.{ℕ, zero, suc}
use lib.ListN.{get_or}
use Rattle.refusal.specs.declared.Fault.TheVariants.{ImageLength}
use Rattle.refusal.specs.declared.Refusal.{Refusal}
use Rattle.refusal.specs.Number.{number}
use Rattle.refusal.specs.Order.{Verdict, ◌at◌}
use Rattle.refusal.proofs.NumberLaws.{refusal_same}
use Rattle.property.specs.declared.Property.TheVariants as property
use Rattle.table.specs.declared.Named.{Named}
use Rattle.table.specs.declared.Named.TheVariants as named
use Rattle.cells.specs.declared.Cell.TheVariants as cell
use Rattle.pst.specs.Meaning.{Meaning, answered, absent, refused, refusal_means, verdict_means, header_means, node_means, block_means, sized_means, data_means, span_means, property_means, kind_of, number_of, table_means, column_means, count_means, cell_means, row_means, cells_means}
use Rattle.std.specs.Prelude.{Option, Some, None, Result, Ok, Err}
use Rattle.header.specs.declared.Header.{Header}
use Rattle.tree.specs.declared.Found.{Found}
use Rattle.tree.specs.declared.Node.{Node}
use Rattle.tree.specs.declared.Listed.{Listed}
use Rattle.heap.specs.declared.Span.{Span}
use Rattle.property.specs.declared.Property.{Property}
use Rattle.table.specs.declared.Table.{Table}
use Rattle.columns.specs.declared.Column.{Column}
use Rattle.cells.specs.declared.Cell.{Cell}
use Rattle.tree.specs.declared.Found.TheVariants.{Absent, Entry}

number_in : Meaning → ℕ
number_in (answered values) = 0
number_in (absent values) = 0
number_in (refused n place more) = n

place_in : Meaning → ℕ
place_in (answered values) = 0
place_in (absent values) = 0
place_in (refused n place more) = place

more_in : Meaning → ℕ
more_in (answered values) = 0
more_in (absent values) = 0
more_in (refused n place more) = more

pub refusal_injective : (r s : Refusal) → refusal_means r ≡ refusal_means s → r ≡ s
unfolding refusal_means number_in place_in more_in
refusal_injective r s e = refusal_same r s (ap number_in e) (ap place_in e) (ap more_in e)

-- a refusal to stand where an answer has none
nothing : Refusal
nothing = ImageLength at 0

refusal_part : Meaning → Meaning
refusal_part (answered values) = refusal_means nothing
refusal_part (absent values) = refusal_means nothing
refusal_part (refused n place more) = refused n place more

-- an answer, had back from its meaning and its refusal, which itself can be told from the meaning
record Told (A : Type 0) (means : A → Meaning) (answer : Refusal → Meaning → A) (x : A) : Type 0 where
  refusal : Refusal
  told : refusal_part (means x) ≡ refusal_means refusal
  back : answer refusal (means x) ≡ x

injective : (A : Type 0) (means : A → Meaning) (answer : Refusal → Meaning → A) → ((x : A) → Told A means answer x)
    → (x y : A) → means x ≡ means y → x ≡ y
injective A means answer t x y e =
    sym (t x).back
    ∙ ap₂ answer (refusal_injective (t x).refusal (t y).refusal (sym (t x).told ∙ ap refusal_part e ∙ (t y).told)) e
    ∙ (t y).back

verdict_answer_lem : Refusal → Meaning → Verdict
verdict_answer_lem r (answered v) = Ok tt
verdict_answer_lem r (absent v) = Ok tt
verdict_answer_lem r (refused n place more) = Err r

verdict_told : (x : Verdict) → Told Verdict verdict_means verdict_answer_lem x
unfolding verdict_means verdict_answer_lem refusal_part refusal_means
verdict_told (Ok tt) = record { refusal = nothing; told = refl; back = refl }
verdict_told (Err r) = record { refusal = r; told = refl; back = refl }

pub verdict_injective : (x y : Verdict) → verdict_means x ≡ verdict_means y → x ≡ y
verdict_injective = injective Verdict verdict_means verdict_answer_lem verdict_told

header_answer_lem : Refusal → Meaning → Result Header Refusal
header_answer_lem r (answered v) =
    Ok (record {
      method = get_or v 0 0;
      nodes = record { number = get_or v 1 0; offset = get_or v 2 0 };
      blocks = record { number = get_or v 3 0; offset = get_or v 4 0 };
      end = get_or v 5 0;
      edition = get_or v 6 0;
    })
header_answer_lem r (absent v) = Err r
header_answer_lem r (refused n place more) = Err r

header_told : (x : Result Header Refusal) → Told (Result Header Refusal) header_means header_answer_lem x
unfolding header_means header_answer_lem refusal_part refusal_means
header_told (Ok h) = record { refusal = nothing; told = refl; back = refl }
header_told (Err r) = record { refusal = r; told = refl; back = refl }

pub header_injective : (x y : Result Header Refusal) → header_means x ≡ header_means y → x ≡ y
header_injective = injective (Result Header Refusal) header_means header_answer_lem header_told

node_answer_lem : Refusal → Meaning → Result (Found Node) Refusal
node_answer_lem r (answered v) = Ok (Entry (record { node = get_or v 0 0; block = get_or v 1 0; subnode = get_or v 2 0; parent = get_or v 3 0 }) (get_or v 4 0))
node_answer_lem r (absent v) = Ok (Absent (get_or v 0 0))
node_answer_lem r (refused n place more) = Err r

node_told : (x : Result (Found Node) Refusal) → Told (Result (Found Node) Refusal) node_means node_answer_lem x
unfolding node_means node_answer_lem refusal_part refusal_means
node_told (Ok (Entry f pages)) = record { refusal = nothing; told = refl; back = refl }
node_told (Ok (Absent pages)) = record { refusal = nothing; told = refl; back = refl }
node_told (Err r) = record { refusal = r; told = refl; back = refl }

pub node_injective : (x y : Result (Found Node) Refusal) → node_means x ≡ node_means y → x ≡ y
node_injective = injective (Result (Found Node) Refusal) node_means node_answer_lem node_told

block_answer_lem : Refusal → Meaning → Result (Found Listed) Refusal
block_answer_lem r (answered v) = Ok (Entry (record { block = get_or v 0 0; offset = get_or v 1 0; size = get_or v 2 0; references = get_or v 3 0 }) (get_or v 4 0))
block_answer_lem r (absent v) = Ok (Absent (get_or v 0 0))
block_answer_lem r (refused n place more) = Err r

block_told : (x : Result (Found Listed) Refusal) → Told (Result (Found Listed) Refusal) block_means block_answer_lem x
unfolding block_means block_answer_lem refusal_part refusal_means
block_told (Ok (Entry f pages)) = record { refusal = nothing; told = refl; back = refl }
block_told (Ok (Absent pages)) = record { refusal = nothing; told = refl; back = refl }
block_told (Err r) = record { refusal = r; told = refl; back = refl }

pub block_injective : (x y : Result (Found Listed) Refusal) → block_means x ≡ block_means y → x ≡ y
block_injective = injective (Result (Found Listed) Refusal) block_means block_answer_lem block_told

sized_answer : Refusal → Meaning → Result ℕ Refusal
sized_answer r (answered v) = Ok (get_or v 0 0)
sized_answer r (absent v) = Ok (get_or v 0 0)
sized_answer r (refused n place more) = Err r

sized_told : (x : Result ℕ Refusal) → Told (Result ℕ Refusal) sized_means sized_answer x
unfolding sized_means sized_answer refusal_part refusal_means
sized_told (Ok n) = record { refusal = nothing; told = refl; back = refl }
sized_told (Err r) = record { refusal = r; told = refl; back = refl }

pub sized_injective : (x y : Result ℕ Refusal) → sized_means x ≡ sized_means y → x ≡ y
sized_injective = injective (Result ℕ Refusal) sized_means sized_answer sized_told

read_answer : Refusal → Meaning → Result (Option ℕ) Refusal
read_answer r (answered v) = Ok (Some (get_or v 0 0))
read_answer r (absent v) = Ok None
read_answer r (refused n place more) = Err r

read_told : (x : Result (Option ℕ) Refusal) → Told (Result (Option ℕ) Refusal) data_means read_answer x
unfolding data_means read_answer refusal_part refusal_means
read_told (Ok (Some n)) = record { refusal = nothing; told = refl; back = refl }
read_told (Ok None) = record { refusal = nothing; told = refl; back = refl }
read_told (Err r) = record { refusal = r; told = refl; back = refl }

pub data_injective : (x y : Result (Option ℕ) Refusal) → data_means x ≡ data_means y → x ≡ y
data_injective = injective (Result (Option ℕ) Refusal) data_means read_answer read_told

span_answer : Refusal → Meaning → Result Span Refusal
span_answer r (answered v) = Ok (record { start = get_or v 0 0; length = get_or v 1 0 })
span_answer r (absent v) = Ok (record { start = get_or v 0 0; length = get_or v 1 0 })
span_answer r (refused n place more) = Err r

span_told : (x : Result Span Refusal) → Told (Result Span Refusal) span_means span_answer x
unfolding span_means span_answer refusal_part refusal_means
span_told (Ok span) = record { refusal = nothing; told = refl; back = refl }
span_told (Err r) = record { refusal = r; told = refl; back = refl }

pub span_injective : (x y : Result Span Refusal) → span_means x ≡ span_means y → x ≡ y
span_injective = injective (Result Span Refusal) span_means span_answer span_told

property_value : ℕ → ℕ → ℕ → Result (Option Property) Refusal
property_value type zero value = Ok (Some (property.Number type value))
property_value type (suc zero) value = Ok (Some (property.Empty type))
property_value type (suc (suc zero)) value = Ok (Some (property.Item type value))
property_value type (suc (suc (suc n))) value = Ok (Some (property.Subnode type value))

property_answer_lem : Refusal → Meaning → Result (Option Property) Refusal
property_answer_lem r (answered v) = property_value (get_or v 0 0) (get_or v 1 0) (get_or v 2 0)
property_answer_lem r (absent v) = Ok None
property_answer_lem r (refused n place more) = Err r

property_told : (x : Result (Option Property) Refusal) → Told (Result (Option Property) Refusal) property_means property_answer_lem x
unfolding property_means property_answer_lem refusal_part refusal_means property_value
property_told (Ok (Some (property.Number type value))) = record { refusal = nothing; told = refl; back = refl }
property_told (Ok (Some (property.Empty type))) = record { refusal = nothing; told = refl; back = refl }
property_told (Ok (Some (property.Item type value))) = record { refusal = nothing; told = refl; back = refl }
property_told (Ok (Some (property.Subnode type value))) = record { refusal = nothing; told = refl; back = refl }
property_told (Ok None) = record { refusal = nothing; told = refl; back = refl }
property_told (Err r) = record { refusal = r; told = refl; back = refl }

pub property_injective : (x y : Result (Option Property) Refusal) → property_means x ≡ property_means y → x ≡ y
property_injective = injective (Result (Option Property) Refusal) property_means property_answer_lem property_told

named_back : ℕ → ℕ → Named
named_back zero number = named.Nothing
named_back (suc zero) number = named.Nothing
named_back (suc (suc zero)) number = named.Item number
named_back (suc (suc (suc n))) number = named.Subnode number

named_told : (n : Named) → named_back (kind_of n) (number_of n) ≡ n
unfolding named_back kind_of number_of
named_told named.Nothing = refl
named_told (named.Item item) = refl
named_told (named.Subnode subnode) = refl

table_answer_lem : Refusal → Meaning → Result Table Refusal
table_answer_lem r (answered v) = Ok (record { columns = get_or v 0 0; size = get_or v 1 0; existence = get_or v 2 0; rows = named_back (get_or v 3 0) (get_or v 4 0) })
table_answer_lem r (absent v) = Err r
table_answer_lem r (refused n place more) = Err r

table_told : (x : Result Table Refusal) → Told (Result Table Refusal) table_means table_answer_lem x
unfolding table_means table_answer_lem refusal_part refusal_means
table_told (Ok t) =
    record { refusal = nothing; told = refl; back = ap (λ (n : Named). Ok (record { columns = t.columns; size = t.size; existence = t.existence; rows = n })) (named_told t.rows) }
table_told (Err r) = record { refusal = r; told = refl; back = refl }

pub table_injective : (x y : Result Table Refusal) → table_means x ≡ table_means y → x ≡ y
table_injective = injective (Result Table Refusal) table_means table_answer_lem table_told

column_answer_lem : Refusal → Meaning → Result (Option Column) Refusal
column_answer_lem r (answered v) = Ok (Some (record { tag = get_or v 0 0; offset = get_or v 1 0; width = get_or v 2 0; bit = get_or v 3 0 }))
column_answer_lem r (absent v) = Ok None
column_answer_lem r (refused n place more) = Err r

column_told : (x : Result (Option Column) Refusal) → Told (Result (Option Column) Refusal) column_means column_answer_lem x
unfolding column_means column_answer_lem refusal_part refusal_means
column_told (Ok (Some c)) = record { refusal = nothing; told = refl; back = refl }
column_told (Ok None) = record { refusal = nothing; told = refl; back = refl }
column_told (Err r) = record { refusal = r; told = refl; back = refl }

pub column_injective : (x y : Result (Option Column) Refusal) → column_means x ≡ column_means y → x ≡ y
column_injective = injective (Result (Option Column) Refusal) column_means column_answer_lem column_told

count_answer_lem : Refusal → Meaning → Result ℕ Refusal
count_answer_lem r (answered v) = Ok (get_or v 0 0)
count_answer_lem r (absent v) = Ok (get_or v 0 0)
count_answer_lem r (refused n place more) = Err r

count_told : (x : Result ℕ Refusal) → Told (Result ℕ Refusal) count_means count_answer_lem x
unfolding count_means count_answer_lem refusal_part refusal_means
count_told (Ok n) = record { refusal = nothing; told = refl; back = refl }
count_told (Err r) = record { refusal = r; told = refl; back = refl }

pub count_injective : (x y : Result ℕ Refusal) → count_means x ≡ count_means y → x ≡ y
count_injective = injective (Result ℕ Refusal) count_means count_answer_lem count_told

cell_value : ℕ → ℕ → Result (Option Cell) Refusal
cell_value zero value = Ok (Some (cell.Number value))
cell_value (suc zero) value = Ok (Some cell.Empty)
cell_value (suc (suc zero)) value = Ok (Some (cell.Item value))
cell_value (suc (suc (suc zero))) value = Ok (Some (cell.Subnode value))
cell_value (suc (suc (suc (suc n)))) value = Ok (Some cell.Missing)

cell_answer_lem : Refusal → Meaning → Result (Option Cell) Refusal
cell_answer_lem r (answered v) = cell_value (get_or v 0 0) (get_or v 1 0)
cell_answer_lem r (absent v) = Ok None
cell_answer_lem r (refused n place more) = Err r

cell_told : (x : Result (Option Cell) Refusal) → Told (Result (Option Cell) Refusal) cell_means cell_answer_lem x
unfolding cell_means cell_answer_lem refusal_part refusal_means cell_value
cell_told (Ok (Some (cell.Number value))) = record { refusal = nothing; told = refl; back = refl }
cell_told (Ok (Some cell.Empty)) = record { refusal = nothing; told = refl; back = refl }
cell_told (Ok (Some (cell.Item item))) = record { refusal = nothing; told = refl; back = refl }
cell_told (Ok (Some (cell.Subnode subnode))) = record { refusal = nothing; told = refl; back = refl }
cell_told (Ok (Some cell.Missing)) = record { refusal = nothing; told = refl; back = refl }
cell_told (Ok None) = record { refusal = nothing; told = refl; back = refl }
cell_told (Err r) = record { refusal = r; told = refl; back = refl }

pub cell_injective : (x y : Result (Option Cell) Refusal) → cell_means x ≡ cell_means y → x ≡ y
cell_injective = injective (Result (Option Cell) Refusal) cell_means cell_answer_lem cell_told

row_answer_lem : Refusal → Meaning → Result (Option ℕ) Refusal
row_answer_lem r (answered v) = Ok (Some (get_or v 0 0))
row_answer_lem r (absent v) = Ok None
row_answer_lem r (refused n place more) = Err r

row_told : (x : Result (Option ℕ) Refusal) → Told (Result (Option ℕ) Refusal) row_means row_answer_lem x
unfolding row_means row_answer_lem refusal_part refusal_means
row_told (Ok (Some n)) = record { refusal = nothing; told = refl; back = refl }
row_told (Ok None) = record { refusal = nothing; told = refl; back = refl }
row_told (Err r) = record { refusal = r; told = refl; back = refl }

pub row_injective : (x y : Result (Option ℕ) Refusal) → row_means x ≡ row_means y → x ≡ y
row_injective = injective (Result (Option ℕ) Refusal) row_means row_answer_lem row_told

cells_answer_lem : Refusal → Meaning → Result (Option ℕ) Refusal
cells_answer_lem r (answered v) = Ok (Some (get_or v 0 0))
cells_answer_lem r (absent v) = Ok None
cells_answer_lem r (refused n place more) = Err r

cells_told : (x : Result (Option ℕ) Refusal) → Told (Result (Option ℕ) Refusal) cells_means cells_answer_lem x
unfolding cells_means cells_answer_lem refusal_part refusal_means
cells_told (Ok (Some n)) = record { refusal = nothing; told = refl; back = refl }
cells_told (Ok None) = record { refusal = nothing; told = refl; back = refl }
cells_told (Err r) = record { refusal = r; told = refl; back = refl }

pub cells_injective : (x y : Result (Option ℕ) Refusal) → cells_means x ≡ cells_means y → x ≡ y
cells_injective = injective (Result (Option ℕ) Refusal) cells_means cells_answer_lem cells_told
