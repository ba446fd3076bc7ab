-- Document 01, "Heap and properties": the items of a tree and their records. Assumes nothing: these are definitions.
use Rattle.std.specs.Prelude.{ℕ, ◌/◌, ◌%◌, Bool, ◌&&◌, List, [], ◌∷◌, leb, eqb, length}
use Rattle.le.specs.Bytes.{field}
use Rattle.refusal.specs.Order.{Rule, rule}
use Rattle.keys.specs.declared.Range.{Range}
use Rattle.keys.specs.declared.Shape.{Shape}
use Rattle.keys.specs.Records.{records, keys_of}
use Rattle.keys.specs.Range.{ordered, climbing}
use Rattle.search.specs.SearchTree.{SearchTree}
use Rattle.heap.specs.Items.{item_fits, bad_item, item_part}
use Rattle.heaptree.specs.declared.Branch.{Branch}
use Rattle.heaptree.specs.declared.HeapTree.{HeapTree}
use Rattle.heaptree.specs.Value.{bad_tree, shape_at, record_key}

-- as many records as the bytes hold
unfoldable pub record_count : Shape → List ℕ → ℕ
record_count shape bytes = length bytes / shape.size

-- "non-empty, a whole number of records, strictly ascending, in range as in pages"
unfoldable pub records_fit : Shape → Range → List ℕ → Bool
records_fit shape range bytes =
    leb 1 (length bytes) && eqb (length bytes % shape.size) 0 && climbing (ordered range (keys_of shape (record_count shape bytes) bytes))

-- the records
unfoldable pub records_of : Shape → List ℕ → List (List ℕ)
records_of shape bytes = records shape (record_count shape bytes) bytes

-- the item to which an index record refers, behind its key
unfoldable pub child_of : ℕ → Range → List ℕ → Branch
child_of key range entry = record { item = field entry key 4; range = range }

module _ (tree : HeapTree) (block : List ℕ) where
  -- an item of the tree: 19 for its number, then its shape
  unfoldable pub branch_rules : ℕ → Branch → List Rule
  branch_rules levels branch =
      rule (item_fits block branch.item) bad_item
      ∷ rule (records_fit (shape_at tree levels) branch.range (item_part block branch.item)) (bad_tree tree)
      ∷ []

  -- the tree, as a search tree
  abbrev pub tree_on : SearchTree Branch (List ℕ)
  tree_on =
      record {
        rules = λ levels branch. branch_rules levels branch;
        entries = λ levels branch. records_of (shape_at tree levels) (item_part block branch.item);
        key = record_key tree;
        range = λ branch. branch.range;
        child = λ levels range entry. child_of tree.key range entry;
      }
