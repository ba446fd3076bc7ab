-- The rules of a tree on a heap as plain facts, with no order among them. Assumes nothing: these are definitions.
use Rattle.std.specs.Prelude.{ℕ, ◌%◌, ◌≤◌, ◌≡◌, List, length}
use Rattle.keys.specs.Plain.{All, Ascending, Inside}
use Rattle.keys.specs.Records.{keys_of}
use Rattle.search.specs.SearchTree.{Reached}
use Rattle.heap.specs.Items.{Numbered, item_part}
use Rattle.heaptree.specs.declared.Branch.{Branch}
use Rattle.heaptree.specs.declared.HeapTree.{HeapTree}
use Rattle.heaptree.specs.Value.{shape_at}
use Rattle.heaptree.specs.Root.{index_levels, root_item, Rooted}
use Rattle.heaptree.specs.Branches.{record_count, tree_on}
use Rattle.heaptree.specs.Lookup.{root_branch}

module _ (tree : HeapTree) (block : List ℕ) where
  -- the keys in an item so many levels above the leaves
  abbrev pub keys_in : ℕ → Branch → List ℕ
  keys_in levels branch = keys_of (shape_at tree levels) (record_count (shape_at tree levels) (item_part block branch.item)) (item_part block branch.item)

  -- "Every item on the path is non-empty, a whole number of records, strictly ascending, in range as in pages"
  pub record BranchSound (levels : ℕ) (branch : Branch) : Type 0 where
    pub named : Numbered block branch.item
    pub filled : 1 ≤ length (item_part block branch.item)
    pub whole : length (item_part block branch.item) % (shape_at tree levels).size ≡ 0
    pub ascending : Ascending (keys_in levels branch)
    pub inside : All (Inside branch.range) (keys_in levels branch)

  -- the whole tree is sound: every item reached from the root obeys the rules with its level and range; root item 0 reaches nothing
  pub record HeapTreeSound (root : ℕ) : Type 0 where
    pub record_fits_lem : Rooted tree block root
    pub items : (root_item block root ≡ 0 → ⊥) → (levels : ℕ) (branch : Branch) → Reached (tree_on tree block) (index_levels block root) (root_branch block root) levels branch → BranchSound levels branch
