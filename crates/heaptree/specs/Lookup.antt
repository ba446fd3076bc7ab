-- The lookup in a tree on a heap, from an accepted root record on. Assumes nothing: these are definitions.
use Rattle.std.specs.Prelude.{ℕ, ◌+◌, ◌≤◌, ◌≡◌, cond, List, [], eqb, length, Option, Some, None, Result, Ok, Err}
use Rattle.le.specs.Bytes.{part}
use Rattle.refusal.specs.declared.Refusal.{Refusal}
use Rattle.refusal.specs.Order.{Rule}
use Rattle.keys.specs.declared.Sought.TheVariants.{Equal}
use Rattle.search.specs.Answer.{Answer, found, absent, refused}
use Rattle.search.specs.Descent.{descend, rules_read}
use Rattle.search.specs.Promises.{Says}
use Rattle.heaptree.specs.declared.Branch.{Branch}
use Rattle.heaptree.specs.declared.HeapTree.{HeapTree}
use Rattle.heaptree.specs.Root.{index_levels, root_item}
use Rattle.heaptree.specs.Branches.{tree_on}

-- the root item, whose range is everything
unfoldable pub root_branch : List ℕ → ℕ → Branch
root_branch block root = record { item = root_item block root; range = record { from = 0; to = None } }

-- root item 0 is a tree with nothing in it. "The descent falls by one level at each step"
unfoldable pub from_root : HeapTree → List ℕ → ℕ → ℕ → Answer (List ℕ)
from_root tree block root key =
    cond (eqb (root_item block root) 0) (absent 0) (descend (tree_on tree block) Equal key (index_levels block root) (root_branch block root))

-- the rules that the lookup tries, item by item from the root item down
unfoldable pub path_rules : HeapTree → List ℕ → ℕ → ℕ → List Rule
path_rules tree block root key =
    cond (eqb (root_item block root) 0) [] (rules_read (tree_on tree block) Equal key (index_levels block root) (root_branch block root))

-- what a call tells of an answer: where in the block the record stands; or that there is none; or the refusal
unfoldable pub Shows : HeapTree → List ℕ → Result (Option ℕ) Refusal → Answer (List ℕ) → Type 0
Shows tree block (Ok (Some place)) a = (place + (tree.key + tree.entry) ≤ length block) × Says a (Some (part block place (tree.key + tree.entry)))
Shows tree block (Ok None) a = Says a None
Shows tree block (Err r) a = a ≡ refused r

-- what a caller makes of an answer, whatever its count: of the record, of none, of a refusal
unfoldable pub by_case : {A : Type 0} → (List ℕ → A) → A → (Refusal → A) → Answer (List ℕ) → A
by_case of missing wrong (found entry n) = of entry
by_case of missing wrong (absent n) = missing
by_case of missing wrong (refused r) = wrong r
