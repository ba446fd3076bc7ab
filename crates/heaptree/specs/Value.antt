-- What a tree on a heap is told by, and the records that follow from it. Assumes nothing: these are definitions.
use Rattle.std.specs.Prelude.{ℕ, zero, suc, ◌+◌, ◌≤◌, false, List}
use Rattle.refusal.specs.declared.Refusal.{Refusal}
use Rattle.refusal.specs.Order.{◌at◌}
use Rattle.keys.specs.declared.Shape.{Shape}
use Rattle.keys.specs.Records.{key_of}
use Rattle.heaptree.specs.declared.HeapTree.{HeapTree}

-- sizes that a root record can state, and a key that fits a machine word
abbrev pub FairTree : HeapTree → Type 0
FairTree tree = (1 ≤ tree.key) × (tree.key ≤ 8) × (tree.entry ≤ 255)

module _ (tree : HeapTree) where
  -- the refusal of a wrong shape
  abbrev pub bad_tree : Refusal
  bad_tree = tree.fault at 0

  -- a leaf record is a key and an entry; an index record a key and an item number
  abbrev pub leaf_shape : Shape
  leaf_shape = record { size = tree.key + tree.entry; width = tree.key; reserved = false }

  abbrev pub index_shape : Shape
  index_shape = record { size = tree.key + 4; width = tree.key; reserved = false }

  -- the records of an item so many levels above the leaves
  unfoldable pub shape_at : ℕ → Shape
  shape_at zero = leaf_shape
  shape_at (suc levels) = index_shape

  -- the key of a record, leaf or index
  abbrev pub record_key : List ℕ → ℕ
  record_key entry = key_of leaf_shape entry
