-- What upper layers may know of an image's edition. Assumes nothing.
use Prim.Native.Nat.{ℕ}
use mathlib.Core.Path.{◌≡◌, refl}
use mathlib.Core.Bool.{Bool, true, false, cond}
use mathlib.Core.Logic.{◌⊎◌, inl, inr}
use mathlib.Core.List.{List}
use Rattle.edition.specs.Editions.{edition64, edition32}
use Rattle.edition.specs.Fair.{FairPlaces, FairLayout, FairEdition}
use Rattle.edition.proofs.Fairs.{fair_edition64, fair_edition32}
use Rattle.header.specs.Header.{older, edition_of, places_of, nodes_of, blocks_of}

pub older_is : (image : List ℕ) → older image ≡ true → edition_of image ≡ edition32
unfolding edition_of
older_is image e = rw e

pub newer_is : (image : List ℕ) → older image ≡ false → edition_of image ≡ edition64
unfolding edition_of
newer_is image e = rw e

-- it is one of the two
one_of : (b : Bool) → (cond b edition32 edition64 ≡ edition64) ⊎ (cond b edition32 edition64 ≡ edition32)
one_of true = inr refl
one_of false = inl refl

pub edition_one_of : (image : List ℕ) → (edition_of image ≡ edition64) ⊎ (edition_of image ≡ edition32)
unfolding edition_of
edition_one_of image = one_of (older image)

-- so it is fair
fair_by : (b : Bool) → FairEdition (cond b edition32 edition64)
fair_by true = fair_edition32
fair_by false = fair_edition64

pub fair_edition : (image : List ℕ) → FairEdition (edition_of image)
unfolding edition_of
fair_edition image = fair_by (older image)

pub fair_places : (image : List ℕ) → FairPlaces (places_of image)
fair_places image = (fair_edition image).header

pub fair_nodes : (image : List ℕ) → FairLayout (nodes_of image)
fair_nodes image = (fair_edition image).nodes

pub fair_blocks : (image : List ℕ) → FairLayout (blocks_of image)
fair_blocks image = (fair_edition image).blocks
