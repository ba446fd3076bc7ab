-- The plain scan of a tree on a heap, and what a lookup in a sound one answers. Assumes nothing: these are definitions.
use Rattle.std.specs.Prelude.{ℕ, cond, ◌↔◌, List, [], map, eqb, None}
use Rattle.keys.specs.Plain.{Ascending, Missing}
use Rattle.keys.specs.Search.{with_key}
use Rattle.search.specs.SearchTree.{leaves}
use Rattle.search.specs.Promises.{Says}
use Rattle.heaptree.specs.declared.HeapTree.{HeapTree}
use Rattle.heaptree.specs.Value.{record_key}
use Rattle.heaptree.specs.Root.{index_levels, root_item}
use Rattle.heaptree.specs.Branches.{tree_on}
use Rattle.heaptree.specs.Lookup.{root_branch, from_root}
use Rattle.heaptree.specs.Sound.{HeapTreeSound}

module _ (tree : HeapTree) (block : List ℕ) (root : ℕ) where
  -- all leaf records of the tree
  unfoldable pub leaf_records : List (List ℕ)
  leaf_records = cond (eqb (root_item block root) 0) [] (leaves (tree_on tree block) (index_levels block root) (root_branch block root))

  -- what holds of every lookup in a sound tree
  pub record TreeAsScanned : Type 0 where
    -- it answers the leaf record that a plain scan of all leaf records finds, and never refuses
    pub answers : (key : ℕ) → Says (from_root tree block root key) (with_key (record_key tree) key leaf_records)
    -- that is the only one with the key, since the keys of the leaf records strictly ascend
    pub ascending : Ascending (map (record_key tree) leaf_records)
    -- none exactly when no leaf record has the key
    pub absent_iff : (key : ℕ) → Says (from_root tree block root key) None ↔ Missing key (map (record_key tree) leaf_records)

-- a sound tree of any kind is answered as by the plain scan
abbrev pub TreeScanHolds : Type 0
TreeScanHolds = (tree : HeapTree) (block : List ℕ) (root : ℕ) → HeapTreeSound tree block root → TreeAsScanned tree block root
