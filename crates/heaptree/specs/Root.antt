-- The record from which a tree on a heap starts. Assumes nothing: these are definitions.
use Rattle.std.specs.Prelude.{ℕ, ◌≤◌, ◌≡◌, Bool, ◌&&◌, List, [], ◌∷◌, leb, eqb, length}
use Rattle.le.specs.Bytes.{byte, field}
use Rattle.refusal.specs.Order.{Rule, rule}
use Rattle.heap.specs.Items.{item_fits, Numbered, bad_item, item_part}
use Rattle.heaptree.specs.declared.HeapTree.{HeapTree}
use Rattle.heaptree.specs.Value.{bad_tree}

-- "an item of 8 bytes: B5 hex, key size .., entry size .., index levels, root item"; "index levels 0 to 3"
unfoldable pub root_fits : HeapTree → List ℕ → Bool
root_fits tree root =
    eqb (length root) 8 && eqb (byte root 0) 0xB5 && eqb (byte root 1) tree.key && eqb (byte root 2) tree.entry && leb (byte root 3) 3

-- the record's index levels, and the root item of the tree
module _ (block : List ℕ) (root : ℕ) where
  unfoldable pub index_levels : ℕ
  index_levels = byte (item_part block root) 3

  unfoldable pub root_item : ℕ
  root_item = field (item_part block root) 4 4

module _ (tree : HeapTree) (block : List ℕ) (root : ℕ) where
  -- the number of its item, 19, and the record
  unfoldable pub root_rules : List Rule
  root_rules = rule (item_fits block root) bad_item ∷ rule (root_fits tree (item_part block root)) (bad_tree tree) ∷ []

  -- the same rules as plain facts, with no order among them
  pub record Rooted : Type 0 where
    pub named : Numbered block root
    pub whole : length (item_part block root) ≡ 8
    pub mark : byte (item_part block root) 0 ≡ 0xB5
    pub key : byte (item_part block root) 1 ≡ tree.key
    pub entry : byte (item_part block root) 2 ≡ tree.entry
    pub levels : byte (item_part block root) 3 ≤ 3
