-- The pages of an image are a search tree. Assumes nothing.
use Prim.Native.Nat.{ℕ}
use mathlib.Core.Path.{refl, sym, ap, ◌∙◌}
use mathlib.Core.List.{List}
use native.Mathlib.Omega.{arith}
use lib.ListN.{length}
use Rattle.search.specs.Promises.{Sorted, Filled, Placed}
use Rattle.edition.specs.declared.Layout.{Layout}
use Rattle.page.specs.Page.{page, level_of, entries}
use Rattle.page.proofs.PageLaws.{all_of_page, page_keys}
use Rattle.tree.specs.Tree.{link_of, page_tree}
use Rattle.tree.proofs.Children.{ranged, entries_length}
use Rattle.tree.proofs.Walk.{accepted_level, some_entry, test_is}

module _ (L : Layout) (image : List ℕ) where
  pub sorted : Sorted (page_tree L image)
  sorted = record { ranged = ranged L; climbs = λ l p e. page_keys L image p (all_of_page L image p (sym (test_is L image l p) ∙ e)) }

  pub filled : Filled (page_tree L image)
  unfolding link_of
  filled l r e ok none-there =
      let p = link_of L l r e in
      omega (arith, some_entry L image p (sym (test_is L image l p) ∙ ok) l refl, sym (entries_length L (page image p.offset)) ∙ ap length none-there)

  unfoldable pub placed : Placed (page_tree L image) (λ p. p.offset)
  unfolding link_of
  placed =
      record {
        kept = λ offset. entries L (page image offset);
        stated = λ offset. level_of L (page image offset);
        keeps = λ l p. refl;
        states = λ l r e ok. accepted_level L image (link_of L l r e) (sym (test_is L image l (link_of L l r e)) ∙ ok) l refl;
      }
