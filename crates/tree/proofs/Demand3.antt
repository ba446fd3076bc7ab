-- Demand 3. Assumes nothing.
use Prim.Native.Nat.{ℕ}
use mathlib.Core.Path.{◌≡◌, refl, sym, ap, ◌∙◌}
use mathlib.Core.Logic.{◌↔◌}
use mathlib.Core.List.{List, map}
use lib.ListN.{length, length-map}
use Rattle.refusal.specs.Order.{◌then◌}
use Rattle.refusal.proofs.OrderLaws.{goes, then_left, then_right}
use Rattle.keys.specs.Plain.{Missing}
use Rattle.keys.specs.Search.{with_key}
use Rattle.keys.specs.declared.Sought.{Sought}
use Rattle.search.specs.SearchTree.{check_under}
use Rattle.search.specs.Answer.{absent, answer, refused}
use Rattle.search.specs.Descent.{descend, path_under}
use Rattle.search.specs.Promises.{AsScanned}
use Rattle.search.proofs.Searched.{as_scanned, path_short}
use Rattle.search.proofs.Routes.{one_route}
use Rattle.header.specs.Header.{header_fits}
use Rattle.edition.specs.declared.Layout.{Layout}
use Rattle.page.specs.Layout.{compared}
use Rattle.page.specs.Page.{key_in}
use Rattle.tree.specs.Tree.{root, root_level, page_tree, tree_fits, scan, all_routes}
use Rattle.tree.specs.Lookup.{asked_for, searched, lookup, path}
use Rattle.tree.specs.Demand3.{Demand3, Demand3Holds}
use Rattle.tree.proofs.Walk.{tree_parts}
use Rattle.tree.proofs.Searched.{sorted, filled, placed}
use Rattle.std.specs.Prelude.{Ok}

module _ (L : Layout) (image : List ℕ) (ok : tree_fits L image ≡ Ok tt) where
  both : (header_fits image then check_under (page_tree L image) (root_level L image) (root L image)) ≡ Ok tt
  both = sym (tree_parts L image) ∙ ok

  pub tree : check_under (page_tree L image) (root_level L image) (root L image) ≡ Ok tt
  tree = then_right (header_fits image) _ both

  pub from_root_lem : (s : Sought) (key : ℕ) → searched s L image key ≡ descend (page_tree L image) s (asked_for s L key) (root_level L image) (root L image)
  unfolding searched
  from_root_lem s key = goes refused _ _ (then_left (header_fits image) _ both)

  pub scans : AsScanned (page_tree L image) (root_level L image) (root L image)
  scans = as_scanned (page_tree L image) (sorted L image) (root_level L image) (root L image) tree

  path_length : (key : ℕ) → length (path_under (page_tree L image) (compared L key) (root_level L image) (root L image)) ≡ length (path L image key)
  unfolding path
  path_length key = sym (length-map (path_under (page_tree L image) (compared L key) (root_level L image) (root L image)) (λ p. p.offset))

  absent_iff : (key : ℕ) → (lookup L image key ≡ absent (length (path L image key))) ↔ Missing (compared L key) (map (key_in L) (scan L image))
  unfolding scan
  absent_iff key = (
    (λ h. (scans.absent_iff (compared L key)).0 (sym (from_root_lem _ key) ∙ h ∙ ap absent (sym (path_length key)))),
    (λ m. from_root_lem _ key ∙ (scans.absent_iff (compared L key)).1 m ∙ ap absent (path_length key)),
  )

  holds : Demand3 L image
  unfolding scan path all_routes root_level placed
  holds =
      record {
        answers = λ key. from_root_lem _ key ∙ scans.answers (compared L key) ∙ ap (answer (with_key (key_in L) (compared L key) (scan L image))) (path_length key);
        found_there = λ key e n h. scans.found_there (compared L key) e n (sym (from_root_lem _ key) ∙ h);
        ascending = scans.ascending;
        absent_iff = absent_iff;
        one_route = one_route (page_tree L image) (sorted L image) (filled L image) (λ p. p.offset) (placed L image) (root_level L image) (root L image) refl tree;
        short = λ key. rw (sym (path_length key)) (path_short (page_tree L image) (compared L key) (root_level L image) (root L image));
      }

pub demand3 : Demand3Holds
demand3 L image ok = holds L image ok
