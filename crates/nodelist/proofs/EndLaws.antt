-- A list of nodes fills its area alike from images that are alike to the file's end. Assumes nothing.
use Prim.Native.Nat.{ℕ}
use mathlib.Core.Path.{◌≡◌, refl, ap, ap₂}
use mathlib.Core.List.{List, [], ◌∷◌, ◌++◌}
use lib.ListN.{length}
use Rattle.laws.specs.Front.{fronted}
use Rattle.refusal.specs.Order.{after}
use Rattle.keys.specs.Search.{joined}
use Rattle.edition.specs.declared.Layout.{Layout}
use Rattle.edition.specs.Fair.{FairLayout}
use Rattle.header.specs.End.{AlikeToEnd}
use Rattle.tree.proofs.EndLaws.{node_alike}
use Rattle.nodelist.specs.Places.{node_words, places_of, list_fits, area_of}

module _ (L : Layout) (fair : FairLayout L) (one other : List ℕ) (alike : AlikeToEnd one other) where
  places_alike : (nodes : List ℕ) → places_of L one nodes ≡ places_of L other nodes
  unfolding joined
  places_alike [] = refl
  places_alike (n ∷ ns) = ap₂ ◌++◌ (ap node_words (node_alike L fair one other alike n)) (places_alike ns)

  pub area_alike : (nodes area : List ℕ) → area_of L one nodes area ≡ area_of L other nodes area
  unfolding area_of
  area_alike nodes area = ap (λ (s : List ℕ). after (λ r. area) (list_fits (length nodes) (length area)) (fronted s area)) (places_alike nodes)
