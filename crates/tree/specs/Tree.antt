-- Document 01, "Pages and trees": a tree's root, its pages as the branches of a search tree, the whole-tree check, its leaf entries from left to right. Assumes nothing: these are definitions.
use Rattle.std.specs.Prelude.{ℕ, ◌+◌, List, ◌++◌, map, None}
use Rattle.le.specs.Bytes.{field}
use Rattle.refusal.specs.Order.{Verdict, Rule, in_order}
use Rattle.keys.specs.declared.Range.{Range}
use Rattle.search.specs.SearchTree.{SearchTree, rules_under, leaves, routes}
use Rattle.header.specs.Header.{header_rules}
use Rattle.edition.specs.declared.Layout.{Layout}
use Rattle.page.specs.declared.Level.TheVariants.{AtRoot, Exactly}
use Rattle.page.specs.declared.Link.{Link}
use Rattle.page.specs.Page.{page, level_of, entries, key_in, page_rules}

-- the root page, as the header refers to it. "The root's range is everything."
unfoldable pub root : Layout → List ℕ → Link
root L image =
    record {
      number = field image L.root L.word;
      offset = field image (L.root + L.word) L.word;
      level = AtRoot;
      range = record { from = 0; to = None };
    }

-- the level that the root page states
unfoldable pub root_level : Layout → List ℕ → ℕ
root_level L image = level_of L (page image (root L image).offset)

-- the page, of level l, to which an index entry refers: "key 8, page number 8, offset 8"
unfoldable pub link_of : Layout → ℕ → Range → List ℕ → Link
link_of L l range e =
    record {
      number = field e L.word L.word;
      offset = field e (L.word + L.word) L.word;
      level = Exactly l;
      range = range;
    }

-- the pages of an image as a search tree
abbrev pub page_tree : Layout → List ℕ → SearchTree Link (List ℕ)
page_tree L image =
    record {
      rules = λ l p. page_rules L image p;
      entries = λ l p. entries L (page image p.offset);
      key = key_in L;
      range = λ p. p.range;
      child = λ l range e. link_of L l range e;
    }

module _ (L : Layout) (image : List ℕ) where
  -- "Whole-tree check: header, then from the root down: the page, then its children from left to right, each with everything under it"
  unfoldable pub tree_rules : List Rule
  tree_rules = header_rules image ++ rules_under (page_tree L image) (root_level L image) (root L image)

  unfoldable pub tree_fits : Verdict
  tree_fits = in_order tree_rules

  -- all leaf entries of the tree: the plain scan goes over this list
  unfoldable pub scan : List (List ℕ)
  scan = leaves (page_tree L image) (root_level L image) (root L image)

  -- the offsets of all pages, once for each route that leads there
  unfoldable pub all_routes : List ℕ
  all_routes = map (λ p. p.offset) (routes (page_tree L image) (λ cs. cs) (root_level L image) (root L image))
