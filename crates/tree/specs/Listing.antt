-- What a listing tells of a tree, over any layout. Assumes nothing: these are definitions.
use Rattle.std.specs.Prelude.{ℕ, ◌+◌, ◌*◌, ◌^◌, ◌≤◌, ◌<◌, ◌≡◌, ◌↔◌, List, length, None, Ok}
use Rattle.le.specs.Bytes.{Bytes}
use Rattle.keys.specs.declared.Sought.TheVariants.{AtLeast}
use Rattle.keys.specs.Plain.{All}
use Rattle.keys.specs.Search.{from_key}
use Rattle.search.specs.Promises.{Says}
use Rattle.search.specs.Promises as search
use Rattle.edition.specs.declared.Layout.{Layout}
use Rattle.page.specs.Layout.{as_given}
use Rattle.page.specs.Page.{number_in, key_in}
use Rattle.tree.specs.Tree.{root_level, tree_fits, scan}
use Rattle.tree.specs.Lookup.{next, pages_read}

-- going from k on, each time one above the number found, as it is handed out, until the call answers absent or no number stands above the one found: these entries
abbrev pub TreeLists : Layout → List ℕ → ℕ → List (List ℕ) → Type 0
TreeLists L image = search.Lists (next L image) (number_in L) (256 ^ L.sought)

-- what holds of every image whose header and tree are accepted
pub record Listing (L : Layout) (image : List ℕ) : Type 0 where
  -- the answer is the first entry of the plain scan whose key is at least `from`, and never a refusal
  pub answers : (from : ℕ) → Says (next L image from) (from_key (key_in L) (as_given L from) (scan L image))
  -- absent exactly when the key of every leaf entry is below
  pub absent_iff : (from : ℕ) → Says (next L image from) None ↔ All (λ e. key_in L e < as_given L from) (scan L image)

abbrev pub ListingHolds : Type 0
ListingHolds = (L : Layout) (image : List ℕ) → tree_fits L image ≡ Ok tt → Listing L image

-- in any image at all, accepted or not, refused or not, a listing reads at most twice the root's level plus one pages
abbrev pub FewPagesHolds : Type 0
FewPagesHolds = (L : Layout) (image : List ℕ) (from : ℕ) → length (pages_read AtLeast L image from) ≤ 2 * root_level L image + 1

-- going from 0 lists exactly the scan, in order, and ends; a number that stands in the tree can be asked for
abbrev pub ListsHolds : Type 0
ListsHolds = (L : Layout) (image : List ℕ) → L.key ≤ L.sought → Bytes image → tree_fits L image ≡ Ok tt → TreeLists L image 0 (scan L image)
