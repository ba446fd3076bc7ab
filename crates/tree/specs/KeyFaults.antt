-- Document 02, 2/13: refusals 11 and 21 of a tree. Assumes nothing: these are definitions.
use Rattle.std.specs.Prelude.{ℕ, ◌≡◌, ◌⊎◌, List}
use Rattle.refusal.specs.declared.Fault.TheVariants.{KeyOrder, KeyRange}
use Rattle.refusal.specs.declared.Refusal.{Refusal}
use Rattle.refusal.specs.Order.{at_entry}
use Rattle.search.specs.SearchTree.{Reached}
use Rattle.edition.specs.declared.Layout.{Layout}
use Rattle.page.specs.declared.Link.{Link}
use Rattle.page.specs.KeyFaults.{BreaksOrder, BreaksRange}
use Rattle.tree.specs.Tree.{root, root_level, page_tree}

-- a refusal with either of the two numbers
abbrev pub OfKeys : Refusal → Type 0
OfKeys r = (r.fault ≡ KeyOrder) ⊎ (r.fault ≡ KeyRange)

-- a page that is reached from the root breaks a key rule, and this refusal says which, where, and at which entry
pub data KeyFault (L : Layout) (image : List ℕ) : Refusal → Type 0 where
  order : {l i : ℕ} {p : Link} → Reached (page_tree L image) (root_level L image) (root L image) l p → BreaksOrder L image p i → KeyFault L image (at_entry KeyOrder p.offset i)
  range : {l i : ℕ} {p : Link} → Reached (page_tree L image) (root_level L image) (root L image) l p → BreaksRange L image p i → KeyFault L image (at_entry KeyRange p.offset i)
