-- A tree is accepted exactly when each of its rules holds, and a refusal names the first fault. Assumes nothing.
use mathlib.Core.Path.{◌≡◌, sym, ◌∙◌}
use mathlib.Core.Logic.{◌↔◌}
use mathlib.Core.List.{List}
use Prim.Native.Nat.{ℕ}
use Rattle.refusal.specs.declared.Refusal.{Refusal}
use Rattle.refusal.specs.Order.{FirstFault}
use Rattle.refusal.proofs.OrderLaws.{goes, then_left, then_right, refused_exactly}
use Rattle.search.proofs.Checked.{exact}
use Rattle.header.proofs.HeaderLaws.{header_exactly}
use Rattle.edition.specs.declared.Layout.{Layout}
use Rattle.page.proofs.Exactly.{page_exactly}
use Rattle.tree.specs.Tree.{root, root_level, page_tree, tree_rules, tree_fits}
use Rattle.tree.specs.Sound.{TreeSound}
use Rattle.tree.proofs.Walk.{test_is, tree_parts}
use Rattle.std.specs.Prelude.{Ok, Err}

module _ (L : Layout) (image : List ℕ) where
  -- a refusal names the first fault in the order of the rules: its test fails, and each test before it holds
  pub tree_first_fault : (r : Refusal) → (tree_fits L image ≡ Err r) ↔ FirstFault (tree_rules L image) r
  unfolding tree_fits
  tree_first_fault r = refused_exactly (tree_rules L image) r

  sound_of : tree_fits L image ≡ Ok tt → TreeSound L image
  sound_of ok =
      let both = sym (tree_parts L image) ∙ ok in
      record {
        header = (header_exactly image).0 (then_left _ _ both);
        pages = λ l p r. (page_exactly L image p).0 (sym (test_is L image l p) ∙ (exact (page_tree L image) (root_level L image) (root L image)).accepted.0 (then_right _ _ both) l p r);
      }

  of_sound : TreeSound L image → tree_fits L image ≡ Ok tt
  of_sound s =
      tree_parts L image
      ∙ goes Err _ _ ((header_exactly image).1 s.header)
      ∙ (exact (page_tree L image) (root_level L image) (root L image)).accepted.1 (λ l p r. test_is L image l p ∙ (page_exactly L image p).1 (s.pages l p r))

  -- a tree is accepted exactly when the header's rules hold, and for every page reached from the root its rules
  pub tree_exactly : (tree_fits L image ≡ Ok tt) ↔ TreeSound L image
  tree_exactly = (sound_of, of_sound)
