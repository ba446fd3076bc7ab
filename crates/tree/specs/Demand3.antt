-- Demand 3, of a tree of any layout: what holds of every image whose header and tree are accepted. Assumes nothing: these are definitions.
use Rattle.std.specs.Prelude.{ℕ, ◌+◌, ◌≤◌, ◌≡◌, true, ◌↔◌, length, Ok}
use mathlib.Core.List.{List, map, Memᴰ}
use Rattle.le.specs.Bytes.{part}
use Rattle.refusal.specs.declared.Refusal.{Refusal}
use Rattle.refusal.specs.Order.{FirstFault}
use Rattle.keys.specs.declared.Sought.{Sought}
use Rattle.keys.specs.declared.Sought.TheVariants.{Equal}
use Rattle.keys.specs.Plain.{All, Ascending, Missing, Distinct}
use Rattle.keys.specs.Records.{cleared}
use Rattle.keys.specs.Search.{with_key}
use Rattle.search.specs.Answer.{found, absent, refused, answer}
use Rattle.search.specs.Promises.{Counts}
use Rattle.edition.specs.declared.Layout.{Layout}
use Rattle.page.specs.Layout.{compared}
use Rattle.edition.specs.Fair.{FairLayout}
use Rattle.page.specs.Page.{page, key_in}
use Rattle.tree.specs.Tree.{root_level, tree_fits, scan, all_routes}
use Rattle.tree.specs.Lookup.{searched, lookup, path, search_rules, pages_read}

pub record Demand3 (L : Layout) (image : List ℕ) : Type 0 where
  -- for every key the quick descent answers as a plain scan of all leaf entries does, and never refuses; the page count is the length of the key's path
  pub answers : (key : ℕ) → lookup L image key ≡ answer (with_key (key_in L) (compared L key) (scan L image)) (length (path L image key))
  -- an entry found is a leaf entry with that key, the only one, since the keys of the leaf entries strictly ascend
  pub found_there : (key : ℕ) (e : List ℕ) (n : ℕ) → lookup L image key ≡ found e n → Memᴰ e (scan L image) × (key_in L e ≡ compared L key)
  pub ascending : Ascending (map (key_in L) (scan L image))
  -- absent exactly when no leaf entry has the key
  pub absent_iff : (key : ℕ) → (lookup L image key ≡ absent (length (path L image key))) ↔ Missing (compared L key) (map (key_in L) (scan L image))
  -- no page offset is reached by two routes
  pub one_route : Distinct (all_routes L image)
  -- at most the root's level plus one
  pub short : (key : ℕ) → length (path L image key) ≤ root_level L image + 1

abbrev pub Demand3Holds : Type 0
Demand3Holds = (L : Layout) (image : List ℕ) → tree_fits L image ≡ Ok tt → Demand3 L image

-- "Nothing off the path changes the answer": images that agree in length, in the header's 564 bytes and on the pages of the key's path
pub record AgreeOnPath (L : Layout) (key : ℕ) (one other : List ℕ) : Type 0 where
  pub same_length : length one ≡ length other
  pub same_header : part one 0 564 ≡ part other 0 564
  pub same_pages : All (λ offset. page one offset ≡ page other offset) (path L one key)

abbrev pub OffPathHolds : Type 0
OffPathHolds = (L : Layout) (key : ℕ) (one other : List ℕ) → FairLayout L → AgreeOnPath L key one other → lookup L one key ≡ lookup L other key

-- and of either call: images that agree in length, in the header's 564 bytes and on the pages that the call reads
pub record AgreeOnRead (s : Sought) (L : Layout) (key : ℕ) (one other : List ℕ) : Type 0 where
  pub same_length : length one ≡ length other
  pub same_header : part one 0 564 ≡ part other 0 564
  pub same_pages : All (λ offset. page one offset ≡ page other offset) (pages_read s L one key)

abbrev pub OffReadHolds : Type 0
OffReadHolds = (s : Sought) (L : Layout) (key : ℕ) (one other : List ℕ) → FairLayout L → AgreeOnRead s L key one other → searched s L one key ≡ searched s L other key

-- in any image at all, where bit 0 of a key is reserved: two numbers that differ only there are answered alike, by the same path and the same rules
pub record BitZeroUnread (L : Layout) (image : List ℕ) (one other : ℕ) : Type 0 where
  pub answers : lookup L image one ≡ lookup L image other
  pub paths : path L image one ≡ path L image other
  pub rules : search_rules Equal L image one ≡ search_rules Equal L image other

abbrev pub BitZeroUnreadHolds : Type 0
BitZeroUnreadHolds = (L : Layout) (image : List ℕ) (one other : ℕ) → FairLayout L → L.reserved ≡ true → cleared one ≡ cleared other → BitZeroUnread L image one other

-- in any image at all: the count is the length of the path, unless the lookup is refused; and the path is short
pub record PathCounted (L : Layout) (image : List ℕ) (key : ℕ) : Type 0 where
  pub counts : Counts (length (path L image key)) (lookup L image key)
  pub short : length (path L image key) ≤ root_level L image + 1

abbrev pub PathCountedHolds : Type 0
PathCountedHolds = (L : Layout) (image : List ℕ) (key : ℕ) → PathCounted L image key

-- of either call: it is refused exactly with the first fault of the rules that it tries, and counts the pages that it reads
pub record ReadInOrder (s : Sought) (L : Layout) (image : List ℕ) (key : ℕ) : Type 0 where
  pub first_fault : (r : Refusal) → (searched s L image key ≡ refused r) ↔ FirstFault (search_rules s L image key) r
  pub counts : Counts (length (pages_read s L image key)) (searched s L image key)

abbrev pub ReadInOrderHolds : Type 0
ReadInOrderHolds = (s : Sought) (L : Layout) (image : List ℕ) (key : ℕ) → ReadInOrder s L image key
