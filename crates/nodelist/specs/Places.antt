-- Document 02, 3/13: a list of nodes in one call. Assumes nothing: these are definitions.
use Rattle.std.specs.Prelude.{ℕ, ◌/◌, List, [], ◌∷◌, leb, length, Result, Ok, Err}
use Rattle.laws.specs.Front.{fronted}
use Rattle.refusal.specs.declared.Fault.TheVariants.{ShortBuffer}
use Rattle.refusal.specs.Number.{number}
use Rattle.refusal.specs.Order.{Verdict, ◌needing◌, Rule, rule, in_order, after}
use Rattle.keys.specs.Search.{joined}
use Rattle.edition.specs.declared.Layout.{Layout}
use Rattle.tree.specs.Answers.{node_of}
use Rattle.refusal.specs.declared.Refusal.{Refusal}
use Rattle.tree.specs.declared.Found.{Found}
use Rattle.tree.specs.declared.Node.{Node}
use Rattle.tree.specs.declared.Found.TheVariants.{Absent, Entry}

-- an answer as the nine words of a place: refusal, place, more, found, pages, node, data block, subnode block, parent; 0 for what the answer does not have
unfoldable pub node_words : Result (Found Node) Refusal → List ℕ
node_words (Ok (Entry n pages)) = 0 ∷ 0 ∷ 0 ∷ 1 ∷ pages ∷ n.node ∷ n.block ∷ n.subnode ∷ n.parent ∷ []
node_words (Ok (Absent pages)) = 0 ∷ 0 ∷ 0 ∷ 0 ∷ pages ∷ 0 ∷ 0 ∷ 0 ∷ 0 ∷ []
node_words (Err r) = number r.fault ∷ r.place ∷ r.more ∷ 0 ∷ 0 ∷ 0 ∷ 0 ∷ 0 ∷ 0 ∷ []

-- "every place in the result equals what the single lookup gives for that number", by the layout of the node tree
abbrev pub place_of : Layout → List ℕ → ℕ → List ℕ
place_of L image node = node_words (node_of L image node)

-- the places of a list, one behind the other
abbrev pub places_of : Layout → List ℕ → List ℕ → List ℕ
places_of L image nodes = joined (place_of L image) nodes

-- "A list over 4,096 (length returned 4,096), then a result area shorter than the list (length returned the list's), is refused with 17, place 0"
unfoldable pub list_rules : ℕ → ℕ → List Rule
list_rules count words = rule (leb count 4096) (ShortBuffer needing 4096) ∷ rule (leb count (words / 9)) (ShortBuffer needing count) ∷ []

unfoldable pub list_fits : ℕ → ℕ → Verdict
list_fits count words = in_order (list_rules count words)

-- the area at exit: "nothing is written" by a refused call, and "results past the list stay"
unfoldable pub area_of : Layout → List ℕ → List ℕ → List ℕ → List ℕ
area_of L image nodes area = after (λ r. area) (list_fits (length nodes) (length area)) (fronted (places_of L image nodes) area)
