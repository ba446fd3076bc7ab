-- The rules that a lookup in a tree on a heap tries tell its refusal. Assumes nothing.
use Prim.Native.Nat.{ℕ}
use mathlib.Core.Path.{◌≡◌, refl}
use mathlib.Core.Bool.{Bool, true, false, cond}
use mathlib.Core.List.{List, []}
use lib.Dec.{eqb}
use Rattle.refusal.specs.Order.{in_order}
use Rattle.keys.specs.declared.Sought.TheVariants.{Equal}
use Rattle.search.specs.Answer.{absent}
use Rattle.search.specs.Descent.{descend, rules_read}
use Rattle.search.proofs.Tried.{verdict_of, tried}
use Rattle.heaptree.specs.declared.HeapTree.{HeapTree}
use Rattle.heaptree.specs.Root.{index_levels, root_item}
use Rattle.heaptree.specs.Branches.{tree_on}
use Rattle.heaptree.specs.Lookup.{root_branch, from_root, path_rules}

nothing : in_order [] ≡ verdict_of {E = List ℕ} (absent 0)
unfolding in_order verdict_of
nothing = refl

pub path_tried : (tree : HeapTree) (block : List ℕ) (root key : ℕ) → in_order (path_rules tree block root key) ≡ verdict_of (from_root tree block root key)
unfolding path_rules from_root
path_tried tree block root key = by (eqb (root_item block root) 0)
  where
    by : (empty : Bool) → in_order (cond empty [] (rules_read (tree_on tree block) Equal key (index_levels block root) (root_branch block root)))
        ≡ verdict_of (cond empty (absent 0) (descend (tree_on tree block) Equal key (index_levels block root) (root_branch block root)))
    by true = nothing
    by false = tried (tree_on tree block) Equal key (index_levels block root) (root_branch block root)
