-- What the steps of the descent hand on. Assumes nothing: these are definitions.
use Rattle.std.specs.Prelude.{ℕ, ◌≡◌, List, [], ◌∷◌, Option, Some, None, Result, Ok, Err}
use Rattle.refusal.specs.Order.{after}
use Rattle.keys.specs.declared.Sought.TheVariants.{Equal}
use Rattle.search.specs.SearchTree.{test, children}
use Rattle.search.specs.Descent.{picked}
use Rattle.heap.specs.Items.{item_part}
use Rattle.heaptree.specs.declared.Branch.{Branch}
use Rattle.heaptree.specs.declared.HeapTree.{HeapTree}
use Rattle.heaptree.specs.Value.{shape_at}
use Rattle.heaptree.specs.Branches.{record_count, tree_on}
use Rattle.refusal.specs.declared.Refusal.{Refusal}

-- how many records an item holds that passes its tests; or the refusal
unfoldable pub held_in : HeapTree → List ℕ → ℕ → Branch → Result ℕ Refusal
held_in tree block levels branch = after Err (test (tree_on tree block) levels branch) (Ok (record_count (shape_at tree levels) (item_part block branch.item)))

-- the child that is chosen, if there is one
abbrev pub chosen_in : Option Branch → List Branch
chosen_in (Some branch) = branch ∷ []
chosen_in None = []

abbrev pub ChosenIs : HeapTree → List ℕ → ℕ → Branch → Option Branch → Type 0
ChosenIs tree block key branch chosen = (levels : ℕ) → chosen_in chosen ≡ picked (tree_on tree block) Equal key (children (tree_on tree block) levels branch)
