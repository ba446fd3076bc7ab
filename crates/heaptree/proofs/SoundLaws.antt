-- An item of the tree is accepted exactly when each rule holds, and a sound tree is accepted item by item. Assumes nothing.
use Prim.Native.Nat.{ℕ, ◌%◌}
use mathlib.Core.Path.{◌≡◌}
use mathlib.Core.Bool.{◌&&◌}
use mathlib.Core.Logic.{◌↔◌}
use mathlib.Core.List.{List}
use lib.Dec.{leb, eqb}
use lib.ListN.{length}
use borrow.Author.Tests.{leb-true, le-leb, eqb-true, eq-eqb}
use Rattle.laws.proofs.Tests.{and_both, both_and}
use Rattle.refusal.specs.declared.Refusal.{Refusal}
use Rattle.refusal.specs.Order.{FirstFault}
use Rattle.refusal.proofs.OrderLaws.{refused_exactly}
use Rattle.keys.specs.Range.{ordered, climbing}
use Rattle.keys.proofs.Climbs.{ordered_exactly, climbing_is, is_climbing}
use Rattle.search.specs.SearchTree.{test, check_under}
use Rattle.search.proofs.Checked.{exact}
use Rattle.heap.specs.Items.{item_part}
use Rattle.heap.proofs.ItemLaws.{number_exactly}
use Rattle.heaptree.specs.declared.Branch.{Branch}
use Rattle.heaptree.specs.declared.HeapTree.{HeapTree}
use Rattle.heaptree.specs.Value.{shape_at}
use Rattle.heaptree.specs.Root.{index_levels, root_item}
use Rattle.heaptree.specs.Branches.{records_fit, branch_rules, tree_on}
use Rattle.heaptree.specs.Lookup.{root_branch}
use Rattle.heaptree.specs.Sound.{keys_in, BranchSound, HeapTreeSound}
use Rattle.heaptree.proofs.StepLaws.{test_rules_lem, branch_accepted, branch_numbered, branch_fits}
use Rattle.std.specs.Prelude.{Ok, Err}

module _ (tree : HeapTree) (block : List ℕ) (levels : ℕ) (branch : Branch) where
  sound_of : test (tree_on tree block) levels branch ≡ Ok tt → BranchSound tree block levels branch
  unfolding records_fit
  sound_of e =
      let n = length (item_part block branch.item) in
      let order = and_both (leb 1 n && eqb (n % (shape_at tree levels).size) 0) (climbing (ordered branch.range (keys_in tree block levels branch))) (branch_fits tree block levels branch e) in
      let size = and_both (leb 1 n) (eqb (n % (shape_at tree levels).size) 0) order.0 in
      let keys = (ordered_exactly branch.range (keys_in tree block levels branch)).0 (climbing_is _ order.1) in
      record {
        named = branch_numbered tree block levels branch e;
        filled = leb-true _ _ size.0;
        whole = eqb-true _ _ size.1;
        ascending = keys.0;
        inside = keys.1;
      }

  of_sound : BranchSound tree block levels branch → test (tree_on tree block) levels branch ≡ Ok tt
  unfolding records_fit
  of_sound s =
      branch_accepted tree block levels branch ((number_exactly block branch.item).1 s.named)
      (both_and _ _ (both_and _ _ (le-leb _ _ s.filled) (eq-eqb _ _ s.whole))
      (is_climbing _ ((ordered_exactly branch.range (keys_in tree block levels branch)).1 (s.ascending, s.inside))))

  -- an item is accepted exactly when each rule holds
  pub branch_exactly : (test (tree_on tree block) levels branch ≡ Ok tt) ↔ BranchSound tree block levels branch
  branch_exactly = (sound_of, of_sound)

  -- and refused exactly with the first rule that it breaks
  pub branch_refused_exactly : (r : Refusal) → (test (tree_on tree block) levels branch ≡ Err r) ↔ FirstFault (branch_rules tree block levels branch) r
  branch_refused_exactly r = rw (test_rules_lem tree block levels branch) (refused_exactly (branch_rules tree block levels branch) r)

-- a sound tree is accepted
pub tree_accepted : (tree : HeapTree) (block : List ℕ) (root : ℕ) → HeapTreeSound tree block root → (root_item block root ≡ 0 → ⊥)
    → check_under (tree_on tree block) (index_levels block root) (root_branch block root) ≡ Ok tt
tree_accepted tree block root sound some =
    (exact (tree_on tree block) (index_levels block root) (root_branch block root)).accepted.1
    (λ levels branch r. (branch_exactly tree block levels branch).1 (sound.items some levels branch r))
