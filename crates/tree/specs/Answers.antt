-- What the lookups hand out. Assumes nothing: these are definitions.
use Rattle.std.specs.Prelude.{ℕ, ◌≡◌, List, [], ◌∷◌, map, Option, Some, None, Result, Ok, Err}
use Rattle.le.specs.Bytes.{field}
use Rattle.edition.specs.declared.Column.{Column}
use Rattle.edition.specs.declared.Layout.{Layout}
use Rattle.page.specs.declared.Link.{Link}
use Rattle.keys.specs.declared.Sought.TheVariants.{Equal}
use Rattle.keys.specs.Search.{last_at_most}
use Rattle.search.specs.SearchTree.{offspring}
use Rattle.search.specs.Records.{children_from}
use Rattle.search.specs.Descent.{from_seat}
use Rattle.search.specs.Answer.{Answer, found, absent, refused}
use Rattle.page.specs.Layout.{shape}
use Rattle.page.specs.Page.{page, count_of, level_of, entries, key_in, page_fits}
use Rattle.tree.specs.declared.Fields.{Fields}
use Rattle.tree.specs.Tree.{link_of}
use Rattle.tree.specs.Lookup.{lookup, next}
use Rattle.refusal.specs.declared.Refusal.{Refusal}
use Rattle.tree.specs.declared.Found.{Found}
use Rattle.tree.specs.declared.Node.{Node}
use Rattle.tree.specs.declared.Listed.{Listed}
use Rattle.tree.specs.declared.Found.TheVariants.{Absent, Entry}

abbrev pub column_of : List ℕ → Column → ℕ
column_of e c = field e c.place c.width

-- "An entry is handed out field by field without its padding, a node as its low four bytes."
unfoldable pub fields_of : Layout → List ℕ → Fields
fields_of L e =
    record {
      first = column_of e L.first;
      second = column_of e L.second;
      third = column_of e L.third;
      fourth = column_of e L.fourth;
    }

unfoldable pub shown : Layout → Answer (List ℕ) → Result (Found Fields) Refusal
shown L (found e n) = Ok (Entry (fields_of L e) n)
shown L (absent n) = Ok (Absent n)
shown L (refused r) = Err r

-- what is found, with its entry's numbers taken as something else
unfoldable pub found_as : {T : Type 0} → (Fields → T) → Result (Found Fields) Refusal → Result (Found T) Refusal
found_as of (Ok (Entry f n)) = Ok (Entry (of f) n)
found_as of (Ok (Absent n)) = Ok (Absent n)
found_as of (Err r) = Err r

-- as a node, and as a block
abbrev pub node_in : Fields → Node
node_in f = record { node = f.first; block = f.second; subnode = f.third; parent = f.fourth }

abbrev pub listed_in : Fields → Listed
listed_in f = record { block = f.first; offset = f.second; size = f.third; references = f.fourth }

-- the outcome of a node lookup, and of a block lookup, by the layout of either tree in some edition
abbrev pub as_node : Result (Found Fields) Refusal → Result (Found Node) Refusal
as_node r = found_as node_in r

unfoldable pub node_of : Layout → List ℕ → ℕ → Result (Found Node) Refusal
node_of L image key = as_node (shown L (lookup L image key))

abbrev pub as_block : Result (Found Fields) Refusal → Result (Found Listed) Refusal
as_block r = found_as listed_in r

unfoldable pub block_of : Layout → List ℕ → ℕ → Result (Found Listed) Refusal
block_of L image key = as_block (shown L (lookup L image key))

-- the first entry from a key on, in each tree
unfoldable pub next_node_of : Layout → List ℕ → ℕ → Result (Found Node) Refusal
next_node_of L image from = as_node (shown L (next L image from))

unfoldable pub next_block_of : Layout → List ℕ → ℕ → Result (Found Listed) Refusal
next_block_of L image from = as_block (shown L (next L image from))

-- the children of a page from the i-th on
unfoldable pub kids_from : Layout → List ℕ → ℕ → Link → ℕ → List Link
kids_from L image l p i =
    children_from (key_in L) (link_of L l) p.range.to (shape L (level_of L (page image p.offset))) (count_of L (page image p.offset)) (page image p.offset) i

-- the chosen child of a page g, or none
unfoldable pub chosen_of : Layout → ℕ → Option ℕ → ℕ → List ℕ → List Link
chosen_of L l to k g =
    let kids = offspring (key_in L) (link_of L l) to (entries L g) in
    from_seat Equal (last_at_most k (map (λ c. c.range.from) kids)) kids

-- a child that was found, or none
unfoldable pub next_of : List Link → Option Link
next_of [] = None
next_of (c ∷ cs) = Some c

-- an accepted page here has this level
abbrev pub LevelIs : Layout → List ℕ → ℕ → Link → Type 0
LevelIs L image l p = page_fits L image p ≡ Ok tt → level_of L (page image p.offset) ≡ l
