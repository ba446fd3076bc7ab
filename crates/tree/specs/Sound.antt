-- The whole-tree check as a plain conjunction with no order in it. Assumes nothing: these are definitions.
use Rattle.std.specs.Prelude.{ℕ, List}
use Rattle.search.specs.SearchTree.{Reached}
use Rattle.header.specs.Sound.{HeaderSound}
use Rattle.edition.specs.declared.Layout.{Layout}
use Rattle.page.specs.declared.Link.{Link}
use Rattle.page.specs.Sound.{PageSound}
use Rattle.tree.specs.Tree.{root, root_level, page_tree}

-- the header's rules, and for every page reached from the root the rules 6 to 11 and 21 with its level and range
pub record TreeSound (L : Layout) (image : List ℕ) : Type 0 where
  pub header : HeaderSound image
  pub pages : (l : ℕ) (p : Link) → Reached (page_tree L image) (root_level L image) (root L image) l p → PageSound L image p
