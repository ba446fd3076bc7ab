-- The root record is accepted exactly when each rule holds. Assumes nothing.
use Prim.Native.Nat.{ℕ}
use mathlib.Core.Path.{◌≡◌}
use mathlib.Core.Bool.{true, false, ◌&&◌}
use mathlib.Core.List.{List}
use mathlib.Core.Logic.{◌↔◌}
use lib.Dec.{leb, eqb}
use lib.ListN.{length}
use borrow.Author.Tests.{eqb-true, leb-true, eq-eqb, ne_eqb, le-leb}
use Rattle.laws.proofs.Tests.{and_both, both_and}
use Rattle.le.specs.Bytes.{byte}
use Rattle.refusal.specs.declared.Refusal.{Refusal}
use Rattle.refusal.specs.Order.{in_order, AllHold, none, both, FirstFault, here, later}
use Rattle.refusal.proofs.OrderLaws.{accepted_exactly, refused_exactly}
use Rattle.heap.specs.Items.{item_fits, bad_item, item_part}
use Rattle.heap.proofs.ItemLaws.{number_exactly}
use Rattle.heaptree.specs.declared.HeapTree.{HeapTree}
use Rattle.heaptree.specs.Value.{bad_tree}
use Rattle.heaptree.specs.Root.{root_fits, root_rules, Rooted}
use Rattle.std.specs.Prelude.{Ok, Err}

-- the record's bytes
module _ (tree : HeapTree) (bytes : List ℕ) where
  pub root_short : (length bytes ≡ 8 → ⊥) → root_fits tree bytes ≡ false
  unfolding root_fits
  root_short n = rw (ne_eqb (length bytes) 8 n)

  -- the four bytes that are tested, where the length is right
  pub root_bytes : (mark key entry levels : ℕ) → length bytes ≡ 8 → mark ≡ byte bytes 0 → key ≡ byte bytes 1 → entry ≡ byte bytes 2 → levels ≡ byte bytes 3
      → (eqb mark 0xB5 && eqb key tree.key && eqb entry tree.entry && leb levels 3) ≡ root_fits tree bytes
  unfolding root_fits
  root_bytes mark key entry levels n m k e l = rw (eq-eqb (length bytes) 8 n, m, k, e, l)

module _ (tree : HeapTree) (block : List ℕ) (root : ℕ) where
  facts : AllHold (root_rules tree block root) → Rooted tree block root
  unfolding root_rules root_fits
  facts (both n (both f none)) =
      let bytes = item_part block root in
      let d = and_both (eqb (length bytes) 8 && eqb (byte bytes 0) 0xB5 && eqb (byte bytes 1) tree.key && eqb (byte bytes 2) tree.entry) (leb (byte bytes 3) 3) f in
      let c = and_both (eqb (length bytes) 8 && eqb (byte bytes 0) 0xB5 && eqb (byte bytes 1) tree.key) (eqb (byte bytes 2) tree.entry) d.0 in
      let b = and_both (eqb (length bytes) 8 && eqb (byte bytes 0) 0xB5) (eqb (byte bytes 1) tree.key) c.0 in
      let a = and_both (eqb (length bytes) 8) (eqb (byte bytes 0) 0xB5) b.0 in
      record {
        named = (number_exactly block root).0 n;
        whole = eqb-true _ _ a.0;
        mark = eqb-true _ _ a.1;
        key = eqb-true _ _ b.1;
        entry = eqb-true _ _ c.1;
        levels = leb-true _ _ d.1;
      }

  tests : Rooted tree block root → AllHold (root_rules tree block root)
  unfolding root_rules root_fits
  tests r =
      both ((number_exactly block root).1 r.named)
      (both (both_and _ _ (both_and _ _ (both_and _ _ (both_and _ _ (eq-eqb _ _ r.whole) (eq-eqb _ _ r.mark)) (eq-eqb _ _ r.key)) (eq-eqb _ _ r.entry)) (le-leb _ _ r.levels))
      none)

  -- the record is accepted exactly when each rule holds
  pub root_exactly : (in_order (root_rules tree block root) ≡ Ok tt) ↔ Rooted tree block root
  root_exactly = (λ e. facts ((accepted_exactly (root_rules tree block root)).0 e), λ r. (accepted_exactly (root_rules tree block root)).1 (tests r))

  -- and refused exactly with the first rule that is broken
  pub root_refused_exactly : (r : Refusal) → (in_order (root_rules tree block root) ≡ Err r) ↔ FirstFault (root_rules tree block root) r
  root_refused_exactly r = refused_exactly (root_rules tree block root) r

  -- the rules, one at a time
  pub wrong_number : item_fits block root ≡ false → in_order (root_rules tree block root) ≡ Err bad_item
  unfolding root_rules
  wrong_number n = (refused_exactly (root_rules tree block root) bad_item).1 (here n)

  module _ (number : item_fits block root ≡ true) where
    pub wrong_record : root_fits tree (item_part block root) ≡ false → in_order (root_rules tree block root) ≡ Err (bad_tree tree)
    unfolding root_rules
    wrong_record f = (refused_exactly (root_rules tree block root) (bad_tree tree)).1 (later number (here f))

    pub right_record : root_fits tree (item_part block root) ≡ true → in_order (root_rules tree block root) ≡ Ok tt
    unfolding root_rules
    right_record f = (accepted_exactly (root_rules tree block root)).1 (both number (both f none))
