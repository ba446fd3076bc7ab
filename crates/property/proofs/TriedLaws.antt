-- The property lookup is refused exactly with the first fault of the rules that it tries, and answers exactly when each of them holds. Assumes nothing.
use Prim.Native.Nat.{ℕ, ◌%◌}
use mathlib.Core.Path.{◌≡◌, refl, sym, ap, ◌∙◌}
use mathlib.Core.Bool.{Bool, true, false, not, cond, ◌||◌}
use mathlib.Core.Logic.{◌↔◌}
use mathlib.Core.List.{List, [], ◌∷◌, ◌++◌}
use lib.Dec.{eqb}
use Rattle.le.specs.Bytes.{field}
use Rattle.refusal.specs.declared.Refusal.{Refusal}
use Rattle.refusal.specs.Order.{rule, in_order, demand, after, ◌then◌, AllHold, FirstFault}
use Rattle.refusal.proofs.OrderLaws.{in_order_append, refusal_in, refusal_after, answered_exactly, told_exactly}
use Rattle.search.specs.Answer.{Answer, found, absent, refused}
use Rattle.search.proofs.Tried.{verdict_of}
use Rattle.heap.specs.Shape.{user_root, shape_rules}
use Rattle.heap.specs.Items.{item_fits, bad_item}
use Rattle.heaptree.specs.Lookup.{from_root, path_rules, by_case}
use Rattle.heaptree.proofs.TriedLaws.{path_tried}
use Rattle.property.specs.Context.{properties, context_rules, context_test}
use Rattle.property.specs.Lookup.{in_place, value_of, value_fits, value_rules, property_rules, property_from, property}
use Rattle.std.specs.Prelude.{Some, Ok, Err}
use Rattle.property.specs.declared.Property.TheVariants.{Empty, Item, Number, Subnode}

module _ (block : List ℕ) where
  value_tried : (type value : ℕ) → in_order (rule (value_fits block type value) bad_item ∷ []) ≡ refusal_in (value_of block type value)
  unfolding value_fits value_of in_order demand after refusal_in
  value_tried type value = by (in_place type) (eqb value 0) (eqb (value % 32) 0) (item_fits block value)
    where
      by : (inside empty named there : Bool)
          → (demand (inside || empty || not named || there) bad_item then Ok tt)
          ≡ refusal_in (cond inside (Ok (Some (Number type value))) (cond empty (Ok (Some (Empty type))) (cond named (after Err (demand there bad_item) (Ok (Some (Item type value)))) (Ok (Some (Subnode type value))))))
      by true empty named there = refl
      by false true named there = refl
      by false false false there = refl
      by false false true true = refl
      by false false true false = refl

  answer_tried : (a : Answer (List ℕ)) → (verdict_of a then in_order (value_rules block a)) ≡ refusal_in (property_from block a)
  unfolding verdict_of value_rules by_case after refusal_in in_order
  answer_tried (found entry n) = value_tried (field entry 2 2) (field entry 4 4)
  answer_tried (absent n) = refl
  answer_tried (refused r) = refl

  property_tried : (id : ℕ) → in_order (property_rules block id) ≡ refusal_in (property block id)
  unfolding property_rules property context_test
  property_tried id =
      let answer = from_root properties block (user_root block) id in
      let path = path_rules properties block (user_root block) id in
      let before = shape_rules block ++ context_rules block in
      in_order_append before (path ++ value_rules block answer)
      ∙ ap (λ v. in_order before then v) (in_order_append path (value_rules block answer)
      ∙ ap (λ v. v then in_order (value_rules block answer)) (path_tried properties block (user_root block) id) ∙ answer_tried answer)
      ∙ sym (refusal_after (in_order before) (property_from block answer))

  -- answered, or absent, exactly when each rule holds
  pub property_answered_exactly : (id : ℕ) → (refusal_in (property block id) ≡ Ok tt) ↔ AllHold (property_rules block id)
  property_answered_exactly id = answered_exactly _ _ (property_tried id)

  -- refused exactly with the first fault
  pub property_refused_exactly : (id : ℕ) (r : Refusal) → (property block id ≡ Err r) ↔ FirstFault (property_rules block id) r
  property_refused_exactly id r = told_exactly _ _ (property_tried id) r
