-- Document 01, "Pages and trees": "Lookup: header, then the root page, then in each index page the last entry whose key is at most the key sought." Assumes nothing: these are definitions.
use Rattle.std.specs.Prelude.{ℕ, List, [], ◌++◌, map}
use Rattle.refusal.specs.Order.{Rule, after}
use Rattle.keys.specs.declared.Sought.{Sought}
use Rattle.keys.specs.declared.Sought.TheVariants.{Equal, AtLeast}
use Rattle.search.specs.Answer.{Answer, refused}
use Rattle.search.specs.Descent.{descend, reads, rules_read, path_under}
use Rattle.header.specs.Header.{header_rules, header_fits}
use Rattle.edition.specs.declared.Layout.{Layout}
use Rattle.page.specs.Layout.{as_given, compared}
use Rattle.tree.specs.Tree.{root, root_level, page_tree}

-- what is compared with the keys: of a lookup's number what is compared of a key; a listing's as given, so that one above a number found lies above that number's key
abbrev pub asked_for : Sought → Layout → ℕ → ℕ
asked_for Equal L key = compared L key
asked_for AtLeast L from = as_given L from

-- "header, then the root page", and from there down
unfoldable pub searched : Sought → Layout → List ℕ → ℕ → Answer (List ℕ)
searched s L image key = after refused (header_fits image) (descend (page_tree L image) s (asked_for s L key) (root_level L image) (root L image))

-- the lookup of a key; and, beyond document 01, the listing: the first leaf entry whose key is at least `from`
abbrev pub lookup : Layout → List ℕ → ℕ → Answer (List ℕ)
lookup L image key = searched Equal L image key

abbrev pub next : Layout → List ℕ → ℕ → Answer (List ℕ)
next L image from = searched AtLeast L image from

-- "The path is this list of pages and the reported count is its length."
unfoldable pub path : Layout → List ℕ → ℕ → List ℕ
path L image key = map (λ p. p.offset) (path_under (page_tree L image) (compared L key) (root_level L image) (root L image))

-- the rules that either call tries, in the order in which it tries them: the header's, then those of each page that it reads
unfoldable pub search_rules : Sought → Layout → List ℕ → ℕ → List Rule
search_rules s L image key = header_rules image ++ rules_read (page_tree L image) s (asked_for s L key) (root_level L image) (root L image)

-- the offsets of the pages that it reads, from the first to the last; none where the header is refused
unfoldable pub pages_read : Sought → Layout → List ℕ → ℕ → List ℕ
pages_read s L image key = after (λ r. []) (header_fits image) (map (λ p. p.offset) (reads (page_tree L image) s (asked_for s L key) (root_level L image) (root L image)))
