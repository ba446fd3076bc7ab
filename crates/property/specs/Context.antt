-- Document 01, "Heap and properties": what is tested before the property tree. Assumes nothing: these are definitions.
use Rattle.std.specs.Prelude.{ℕ, ◌≡◌, List, ◌∷◌, ◌++◌, eqb}
use Rattle.refusal.specs.declared.Fault.TheVariants.{PropertyTree}
use Rattle.refusal.specs.Order.{Verdict, ◌at◌, Rule, rule, in_order}
use Rattle.heap.specs.Shape.{client_kind, user_root, shape_rules}
use Rattle.heaptree.specs.declared.HeapTree.{HeapTree}
use Rattle.heaptree.specs.Root.{root_rules, Rooted}

-- "key size 2, entry size 6"; "everything else wrong on the path is 20". "Leaf record: id 2, type 2, value 4. Index record: id 2, item 4."
abbrev pub properties : HeapTree
properties = record { key = 2; entry = 6; fault = PropertyTree }

-- "client kind BC hex, else 20"; then the user root's number, 19, and its record, 20
unfoldable pub context_rules : List ℕ → List Rule
context_rules block = rule (eqb (client_kind block) 0xBC) (PropertyTree at 0) ∷ root_rules properties block (user_root block)

-- "heap shape first"
unfoldable pub context_test : List ℕ → Verdict
context_test block = in_order (shape_rules block ++ context_rules block)

-- the same rules as plain facts, with no order among them
pub record Context (block : List ℕ) : Type 0 where
  pub kind : client_kind block ≡ 0xBC
  pub root : Rooted properties block (user_root block)
