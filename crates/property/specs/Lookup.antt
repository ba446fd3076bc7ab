-- Document 01, "Heap and properties": what is answered for a leaf record of the property tree. Assumes nothing: these are definitions.
use Rattle.std.specs.Prelude.{ℕ, ◌%◌, Bool, cond, not, ◌||◌, List, [], ◌∷◌, ◌++◌, eqb, Option, Some, None, Result, Ok, Err}
use Rattle.le.specs.Bytes.{field}
use Rattle.refusal.specs.Order.{Rule, rule, demand, after}
use Rattle.search.specs.Answer.{Answer, found, absent, refused}
use Rattle.heap.specs.Shape.{user_root, shape_rules}
use Rattle.heap.specs.Items.{item_fits, bad_item}
use Rattle.heaptree.specs.Lookup.{from_root, path_rules, by_case}
use Rattle.property.specs.Context.{properties, context_rules, context_test}
use Rattle.refusal.specs.declared.Refusal.{Refusal}
use Rattle.property.specs.declared.Property.{Property}
use Rattle.property.specs.declared.Property.TheVariants.{Empty, Item, Number, Subnode}

-- "Types 2, 3, 4, 0xA, 0xB hold the value in place"
unfoldable pub in_place : ℕ → Bool
in_place type = eqb type 2 || eqb type 3 || eqb type 4 || eqb type 0xA || eqb type 0xB

-- "Otherwise a value of 0 is an empty value, low 5 bits zero name an item (19 if wrong), anything else names a subnode"
unfoldable pub value_of : List ℕ → ℕ → ℕ → Result (Option Property) Refusal
value_of block type value =
    cond (in_place type) (Ok (Some (Number type value)))
    (cond (eqb value 0) (Ok (Some (Empty type)))
    (cond (eqb (value % 32) 0) (after Err (demand (item_fits block value) bad_item) (Ok (Some (Item type value))))
    (Ok (Some (Subnode type value)))))

-- the answer for a leaf record that is found, or for none
abbrev pub property_from : List ℕ → Answer (List ℕ) → Result (Option Property) Refusal
property_from block answer = by_case (λ entry. value_of block (field entry 2 2) (field entry 4 4)) (Ok None) Err answer

-- a value that names an item names one that the heap has
unfoldable pub value_fits : List ℕ → ℕ → ℕ → Bool
value_fits block type value = in_place type || eqb value 0 || not (eqb (value % 32) 0) || item_fits block value

-- the rule that is left where a leaf record is found
unfoldable pub value_rules : List ℕ → Answer (List ℕ) → List Rule
value_rules block (found entry n) = rule (value_fits block (field entry 2 2) (field entry 4 4)) bad_item ∷ []
value_rules block (absent n) = []
value_rules block (refused r) = []

-- all rules that the lookup tries, in the order in which it tries them: before the tree, along the path, for the value
unfoldable pub property_rules : List ℕ → ℕ → List Rule
property_rules block id =
    (shape_rules block ++ context_rules block)
    ++ (path_rules properties block (user_root block) id ++ value_rules block (from_root properties block (user_root block) id))

-- the property lookup: "Root 0 means no properties"; "The descent chooses a record as the lookup chooses an entry"
unfoldable pub property : List ℕ → ℕ → Result (Option Property) Refusal
property block id = after Err (context_test block) (property_from block (from_root properties block (user_root block) id))
