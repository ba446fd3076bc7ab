-- The descent, one item at a time. Assumes nothing.
use Prim.Native.Nat.{ℕ, ◌-◌}
use mathlib.Core.Path.{◌≡◌, refl, sym, ap, ◌∙◌, subst}
use mathlib.Core.Bool.{true, false}
use mathlib.Core.List.{List, [], ◌∷◌}
use borrow.Author.Tests.{eq-eqb, ne_eqb}
use Rattle.refusal.specs.declared.Refusal.{Refusal}
use Rattle.refusal.specs.Order.{Verdict, in_order, AllHold, none, both, here, later}
use Rattle.refusal.proofs.OrderLaws.{goes, ends, accepted_exactly, refused_exactly}
use Rattle.le.specs.Bytes.{byte, field}
use Rattle.keys.specs.declared.Shape.{Shape}
use Rattle.keys.specs.declared.Sought.TheVariants.{Equal}
use Rattle.keys.specs.Search.{with_key}
use Rattle.search.specs.SearchTree.{test, children}
use Rattle.search.specs.Answer.{answer}
use Rattle.search.specs.Descent.{picked, descend}
use Rattle.search.proofs.Steps.{step_refused, step_leaf, step_none, step_one}
use Rattle.heap.specs.Items.{item_fits, Numbered, bad_item, item_part}
use Rattle.heap.proofs.ItemLaws.{number_exactly}
use Rattle.heaptree.specs.declared.Branch.{Branch}
use Rattle.heaptree.specs.declared.HeapTree.{HeapTree}
use Rattle.heaptree.specs.Value.{bad_tree, leaf_shape, index_shape, record_key, shape_at}
use Rattle.heaptree.specs.Root.{index_levels, root_item}
use Rattle.heaptree.specs.Branches.{record_count, records_fit, records_of, branch_rules, tree_on}
use Rattle.heaptree.specs.Lookup.{root_branch, from_root, Shows}
use Rattle.heaptree.specs.Steps.{held_in}
use Rattle.heaptree.proofs.ShownLaws.{nothing, wrong, shows_counted}
use Rattle.heaptree.proofs.RecordLaws.{shape_leaf, shape_index}
use Rattle.std.specs.Prelude.{Option, None, Result, Ok, Err}

-- the test of an item, one rule at a time
module _ (tree : HeapTree) (block : List ℕ) (levels : ℕ) (branch : Branch) where
  pub test_rules_lem : test (tree_on tree block) levels branch ≡ in_order (branch_rules tree block levels branch)
  unfolding test
  test_rules_lem = refl

  pub branch_number : item_fits block branch.item ≡ false → test (tree_on tree block) levels branch ≡ Err bad_item
  unfolding branch_rules
  branch_number n = test_rules_lem ∙ (refused_exactly (branch_rules tree block levels branch) bad_item).1 (here n)

  pub branch_records : item_fits block branch.item ≡ true → records_fit (shape_at tree levels) branch.range (item_part block branch.item) ≡ false
      → test (tree_on tree block) levels branch ≡ Err (bad_tree tree)
  unfolding branch_rules
  branch_records n f = test_rules_lem ∙ (refused_exactly (branch_rules tree block levels branch) (bad_tree tree)).1 (later n (here f))

  pub branch_accepted : item_fits block branch.item ≡ true → records_fit (shape_at tree levels) branch.range (item_part block branch.item) ≡ true
      → test (tree_on tree block) levels branch ≡ Ok tt
  unfolding branch_rules
  branch_accepted n f = test_rules_lem ∙ (accepted_exactly (branch_rules tree block levels branch)).1 (both n (both f none))

  -- what an accepted item says
  branch_both : AllHold (branch_rules tree block levels branch)
      → (item_fits block branch.item ≡ true) × (records_fit (shape_at tree levels) branch.range (item_part block branch.item) ≡ true)
  unfolding branch_rules
  branch_both (both n (both f none)) = (n, f)

  pub branch_numbered : test (tree_on tree block) levels branch ≡ Ok tt → Numbered block branch.item
  branch_numbered e = (number_exactly block branch.item).0 (branch_both ((accepted_exactly (branch_rules tree block levels branch)).0 (sym test_rules_lem ∙ e))).0

  pub branch_fits : test (tree_on tree block) levels branch ≡ Ok tt → records_fit (shape_at tree levels) branch.range (item_part block branch.item) ≡ true
  branch_fits e = (branch_both ((accepted_exactly (branch_rules tree block levels branch)).0 (sym test_rules_lem ∙ e))).1

-- what an item holds, by its test, and the other way round
module _ (tree : HeapTree) (block : List ℕ) (levels : ℕ) (branch : Branch) where
  abbrev said : Verdict
  said = test (tree_on tree block) levels branch

  abbrev many : ℕ
  many = record_count (shape_at tree levels) (item_part block branch.item)

  pub held_refused : (r : Refusal) → said ≡ Err r → Err r ≡ held_in tree block levels branch
  unfolding held_in
  held_refused r e = sym (ends Err said _ r e)

  pub held_accepted : (n : ℕ) → said ≡ Ok tt → n ≡ many → Ok n ≡ held_in tree block levels branch
  unfolding held_in
  held_accepted n e q = ap Ok q ∙ sym (goes Err said _ e)

  pub refused_held : (r : Refusal) → held_in tree block levels branch ≡ Err r → said ≡ Err r
  refused_held r e = by said refl
    where
      by : (v : Verdict) → said ≡ v → said ≡ Err r
      by (Ok tt) q = let w = held_accepted many q refl in cc
      by (Err s) q = let w = held_refused s q in let same : r ≡ s = cc in q ∙ ap Err (sym same)

  pub accepted_held : (n : ℕ) → held_in tree block levels branch ≡ Ok n → (said ≡ Ok tt) × (n ≡ many)
  accepted_held n e = by said refl
    where
      by : (v : Verdict) → said ≡ v → (said ≡ Ok tt) × (n ≡ many)
      by (Ok tt) q = let w = held_accepted many q refl in (q, cc)
      by (Err s) q = let w = held_refused s q in cc

  pub leaf_held : (n : ℕ) → held_in tree block levels branch ≡ Ok n → levels ≡ 0
      → Numbered block branch.item × (n ≡ record_count (leaf_shape tree) (item_part block branch.item))
  leaf_held n e h =
      let a = accepted_held n e in
      (branch_numbered tree block levels branch a.0, a.1 ∙ ap (λ (s : Shape). record_count s (item_part block branch.item)) (sym (shape_leaf tree levels h)))

  pub index_held : (n : ℕ) → held_in tree block levels branch ≡ Ok n → (levels ≡ 0 → ⊥)
      → Numbered block branch.item × (n ≡ record_count (index_shape tree) (item_part block branch.item))
  index_held n e h =
      let a = accepted_held n e in
      (branch_numbered tree block levels branch a.0, a.1 ∙ ap (λ (s : Shape). record_count s (item_part block branch.item)) (sym (shape_index tree levels h)))

-- v is what the test of the item said
module _ (tree : HeapTree) (block : List ℕ) (key : ℕ) (branch : Branch) (v : Verdict) (levels : ℕ) (t : v ≡ test (tree_on tree block) levels branch) where
  abbrev Go : Result (Option ℕ) Refusal → ℕ → Branch → Type 0
  Go r l b = Shows tree block r (descend (tree_on tree block) Equal key l b)

  pub under_fault : (r : Refusal) → v ≡ Err r → Go (Err r) levels branch
  under_fault r q = subst (Shows tree block (Err r)) (sym (step_refused (tree_on tree block) Equal key branch v levels r t q)) (wrong tree block r)

  pub under_leaf : (r : Result (Option ℕ) Refusal) → levels ≡ 0 → v ≡ Ok tt
      → Shows tree block r (answer (with_key (record_key tree) key (records_of (leaf_shape tree) (item_part block branch.item))) 1) → Go r levels branch
  unfolding shape_at
  under_leaf r h q s = subst (Shows tree block r) (sym (step_leaf (tree_on tree block) Equal key branch v levels h t q)) s

  module _ (h : levels ≡ 0 → ⊥) (q : v ≡ Ok tt) where
    pub under_absent : [] ≡ picked (tree_on tree block) Equal key (children (tree_on tree block) (levels - 1) branch) → Go (Ok None) levels branch
    under_absent e = subst (Shows tree block (Ok None)) (sym (step_none (tree_on tree block) Equal key branch v levels h t q (sym e))) (nothing tree block 1)

    pub under_on : (r : Result (Option ℕ) Refusal) (child : Branch) → child ∷ [] ≡ picked (tree_on tree block) Equal key (children (tree_on tree block) (levels - 1) branch)
        → Go r (levels - 1) child → Go r levels branch
    under_on r child e s =
        subst (Shows tree block r) (sym (step_one (tree_on tree block) Equal key branch v levels child h t q (sym e))) (shows_counted tree block 1 r _ s)

-- the root item, where `bytes` is the root record
module _ (tree : HeapTree) (block bytes : List ℕ) (root key : ℕ) (same : bytes ≡ item_part block root) where
  pub from_none : field bytes 4 4 ≡ 0 → Shows tree block (Ok None) (from_root tree block root key)
  unfolding from_root root_item
  from_none e = rw (← same, eq-eqb (field bytes 4 4) 0 e) (nothing tree block 0)

  pub from_some : (r : Result (Option ℕ) Refusal) (item levels : ℕ) → item ≡ field bytes 4 4 → levels ≡ byte bytes 3 → (item ≡ 0 → ⊥)
      → Shows tree block r (descend (tree_on tree block) Equal key levels (record { item = item; range = record { from = 0; to = None } }))
      → Shows tree block r (from_root tree block root key)
  unfolding from_root root_item index_levels root_branch
  from_some r item levels i l n s = rw (← same, ← i, ← l, ne_eqb item 0 n) s
