-- A key that is no number of so many bytes stands nowhere in the tree. Assumes nothing.
use Prim.Native.Nat.{ℕ, ◌^◌, ◌≤◌, ◌<◌}
use mathlib.Core.List.{List, [], ◌∷◌, map}
use native.Mathlib.Omega.{arith}
use Rattle.le.specs.Bytes.{Bytes}
use Rattle.keys.specs.Plain.{All, Missing}
use Rattle.edition.specs.declared.Layout.{Layout}
use Rattle.page.specs.Page.{number_in, key_in}
use Rattle.page.proofs.PageLaws.{number_least}
use Rattle.tree.specs.Tree.{scan}
use Rattle.tree.proofs.Listing.{scan_short}

module _ (L : Layout) (key : ℕ) (large : 256 ^ L.key ≤ key) where
  missing : (es : List (List ℕ)) → All (λ e. number_in L e < 256 ^ L.key) es → Missing key (map (key_in L) es)
  missing [] h = tt
  missing (e ∷ es) h = ((λ same. omega (arith, number_least L e, h.0)), missing es h.1)

  pub large_missing : (image : List ℕ) → Bytes image → Missing key (map (key_in L) (scan L image))
  large_missing image bytes = missing (scan L image) (scan_short L image bytes)
