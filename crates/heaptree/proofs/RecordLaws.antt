-- The records of an item, one at a time, and the children they name. Assumes nothing.
use Prim.Native.Nat.{ℕ, zero, suc, ◌+◌, ◌*◌, ◌/◌, ◌≤◌, ◌<◌}
use mathlib.Core.Path.{◌≡◌, refl, sym, ap, ◌∙◌}
use mathlib.Core.List.{List, [], ◌∷◌}
use native.Mathlib.Nat.{div-mul-le_self}
use native.Mathlib.Omega.{arith}
use lib.ListN.{length}
use Rattle.le.specs.Bytes.{part, field}
use Rattle.le.proofs.FieldLaws.{part_part}
use Rattle.keys.specs.declared.Range.{Range}
use Rattle.keys.specs.declared.Shape.{Shape}
use Rattle.keys.specs.declared.Sought.TheVariants.{Equal}
use Rattle.keys.specs.Records.{key_of, key_at, keys_of, records, records_from, record_at, RecordsIn}
use Rattle.keys.specs.Range.{range_at}
use Rattle.keys.specs.Search.{last_at_most, first_that, with_key}
use Rattle.keys.proofs.RecordLaws.{record_inside, field_at, key_same, record_is}
use Rattle.keys.proofs.RangeLaws.{end_same}
use Rattle.keys.proofs.FoundLaws.{found_inside, record_found, record_absent, chosen_inside}
use Rattle.search.specs.SearchTree.{offspring, children}
use Rattle.search.specs.Answer.{Answer, answer}
use Rattle.search.specs.Descent.{picked}
use Rattle.search.specs.Records.{child_at}
use Rattle.search.proofs.Records.{chosen_none, chosen_some}
use Rattle.heap.specs.Shape.{Heap}
use Rattle.heap.specs.Items.{Numbered, item_start, item_length, item_part}
use Rattle.heap.proofs.ItemLaws.{item_lies}
use Rattle.heaptree.specs.declared.Branch.{Branch}
use Rattle.heaptree.specs.declared.HeapTree.{HeapTree}
use Rattle.heaptree.specs.Value.{FairTree, leaf_shape, index_shape, record_key, shape_at}
use Rattle.heaptree.specs.Branches.{record_count, records_of, child_of, tree_on}
use Rattle.heaptree.specs.Lookup.{Shows}
use Rattle.heaptree.proofs.ShownLaws.{stands, nowhere}
use Rattle.std.specs.Prelude.{Option, Some, None, Ok}

-- as many records as the bytes hold lie in the bytes
pub records_hold : (shape : Shape) (bytes : List ℕ) → shape.width ≤ shape.size → shape.width ≤ 8 → RecordsIn shape (record_count shape bytes) bytes
unfolding record_count
records_hold shape bytes k w = record { inside = div-mul-le_self (length bytes) shape.size; key = k; word = w }

-- one of them lies in the bytes
pub record_lies : (shape : Shape) (bytes : List ℕ) (i : ℕ) → i < record_count shape bytes → i * shape.size + shape.size ≤ length bytes
unfolding record_count
record_lies shape bytes i h = record_inside (length bytes / shape.size) shape.size i (length bytes) (div-mul-le_self (length bytes) shape.size) h

-- the key of a record is the tree's, whatever its shape
module _ (tree : HeapTree) where
  pub index_keyed : (e : List ℕ) → key_of (index_shape tree) e ≡ record_key tree e
  index_keyed e = key_same (index_shape tree) (leaf_shape tree) refl refl e

  pub keyed : (levels : ℕ) (e : List ℕ) → key_of (shape_at tree levels) e ≡ record_key tree e
  unfolding shape_at
  keyed zero e = refl
  keyed (suc levels) e = index_keyed e

-- the leaf record that is found, in an item of the heap
module _ (tree : HeapTree) (block : List ℕ) (heap : Heap block) (item : ℕ) (named : Numbered block item) (key : ℕ) where
  abbrev bytes : List ℕ
  bytes = item_part block item

  abbrev told : Answer (List ℕ)
  told = answer (with_key (record_key tree) key (records_of (leaf_shape tree) bytes)) 1

  abbrev sought : ℕ → Type 0
  sought i = Some i ≡ first_that Equal key (keys_of (leaf_shape tree) (record_count (leaf_shape tree) bytes) bytes)

  pub leaf_lies : (i : ℕ) → sought i → item_start block item + i * (tree.key + tree.entry) + (tree.key + tree.entry) ≤ length block
  leaf_lies i e =
      let lies = item_lies block heap item named in
      let inside = record_lies (leaf_shape tree) bytes i (found_inside (leaf_shape tree) (record_count (leaf_shape tree) bytes) bytes Equal key i e) in
      omega (arith, lies.inside, lies.whole, inside)

  same_part : (i : ℕ) → sought i → record_at (leaf_shape tree) bytes i ≡ part block (item_start block item + i * (tree.key + tree.entry)) (tree.key + tree.entry)
  unfolding item_part
  same_part i e =
      let lies = item_lies block heap item named in
      let inside = record_lies (leaf_shape tree) bytes i (found_inside (leaf_shape tree) (record_count (leaf_shape tree) bytes) bytes Equal key i e) in
      record_is (leaf_shape tree) bytes i (tree.key + tree.entry) refl
      ∙ part_part block (item_start block item) (item_length block item) (i * (tree.key + tree.entry)) (tree.key + tree.entry) (omega (arith, lies.whole, inside))

  pub leaf_at : (i : ℕ) → sought i → Shows tree block (Ok (Some (item_start block item + i * (tree.key + tree.entry)))) told
  unfolding records_of
  leaf_at i e =
      stands tree block _ 1 _ (leaf_lies i e) (record_found (leaf_shape tree) (record_count (leaf_shape tree) bytes) bytes Equal key i e ∙ ap Some (same_part i e))

  pub leaf_none : None ≡ first_that Equal key (keys_of (leaf_shape tree) (record_count (leaf_shape tree) bytes) bytes) → Shows tree block (Ok None) told
  unfolding records_of
  leaf_none e = nowhere tree block 1 _ (record_absent (leaf_shape tree) (record_count (leaf_shape tree) bytes) bytes Equal key e)

-- the child of a record, read from the item's bytes
pub child_is : (shape : Shape) → shape.width + 4 ≤ shape.size → (to : Option ℕ) (n : ℕ) (bytes : List ℕ) (i item : ℕ) (range : Range)
    → item ≡ field bytes (i * shape.size + shape.width) 4 → range ≡ range_at shape n bytes i to
    → ◌≡◌ {A = Branch} (record { item = item; range = range }) (child_at (key_of shape) (child_of shape.width) to shape n bytes i)
unfolding child_of
child_is shape wide to n bytes i item range ei er = rw (ei, er, field_at shape bytes i shape.width 4 wide)

-- the child that is chosen, among `count` records, the bytes of the branch's item
module _ (tree : HeapTree) (block : List ℕ) (branch : Branch) (key count : ℕ) (many : count ≡ record_count (index_shape tree) (item_part block branch.item))
    (bytes : List ℕ) (same : bytes ≡ item_part block branch.item) where
  abbrev kid : Range → List ℕ → Branch
  kid = child_of tree.key

  kids_are : (l : ℕ) → children (tree_on tree block) l branch ≡ offspring (record_key tree) kid branch.range.to (records (index_shape tree) count bytes)
  unfolding children shape_at records_of
  kids_are l = rw (many, same)

  ranged : (r : Range) (e : List ℕ) → (kid r e).range ≡ r
  unfolding child_of
  ranged r e = refl

  pub child_inside : (i : ℕ) → Some i ≡ last_at_most key (keys_of (index_shape tree) count bytes) → i < count
  child_inside i e = chosen_inside (index_shape tree) count bytes key i e

  pub child_none : None ≡ last_at_most key (keys_of (index_shape tree) count bytes)
      → (l : ℕ) → [] ≡ picked (tree_on tree block) Equal key (children (tree_on tree block) l branch)
  child_none e l =
      sym (ap (picked (tree_on tree block) Equal key) (kids_are l)
      ∙ chosen_none (record_key tree) (index_shape tree) (index_keyed tree) count bytes branch.range.to kid (λ (b : Branch). b.range) ranged key e)

  pub child_chosen : (i : ℕ) → Some i ≡ last_at_most key (keys_of (index_shape tree) count bytes)
      → (l : ℕ) → child_at (key_of (index_shape tree)) kid branch.range.to (index_shape tree) count bytes i ∷ [] ≡ picked (tree_on tree block) Equal key (children (tree_on tree block) l branch)
  child_chosen i e l =
      ap (λ (end : Option ℕ). kid (record { from = key_at (index_shape tree) bytes i; to = end }) (record_at (index_shape tree) bytes i) ∷ [])
      (end_same (key_of (index_shape tree)) (record_key tree) (index_keyed tree) branch.range.to (records_from (index_shape tree) count bytes (i + 1)))
      ∙ sym (ap (picked (tree_on tree block) Equal key) (kids_are l)
      ∙ chosen_some (record_key tree) (index_shape tree) (index_keyed tree) count bytes branch.range.to kid (λ (b : Branch). b.range) ranged key i e)

-- the two shapes
pub shape_leaf : (tree : HeapTree) (levels : ℕ) → levels ≡ 0 → leaf_shape tree ≡ shape_at tree levels
unfolding shape_at
shape_leaf tree zero h = refl
shape_leaf tree (suc levels) h = absurd (omega arith)

pub shape_index : (tree : HeapTree) (levels : ℕ) → (levels ≡ 0 → ⊥) → index_shape tree ≡ shape_at tree levels
unfolding shape_at
shape_index tree zero h = absurd (h refl)
shape_index tree (suc levels) h = refl

pub shape_fair : (tree : HeapTree) → FairTree tree → (levels : ℕ)
    → (0 < (shape_at tree levels).size) × ((shape_at tree levels).width ≤ (shape_at tree levels).size) × ((shape_at tree levels).width ≤ 8)
unfolding shape_at
shape_fair tree fair zero = (omega (arith, fair.0), omega arith, fair.1)
shape_fair tree fair (suc levels) = (omega arith, omega arith, fair.1)
