-- When a list is taken, and the area then. Assumes nothing.
use Prim.Native.Nat.{ℕ, ◌*◌, ◌/◌, ◌≤◌, ◌<◌}
use mathlib.Core.Path.{◌≡◌, refl, sym, ap, ◌∙◌, subst}
use mathlib.Core.Logic.{◌↔◌}
use mathlib.Core.List.{List, [], ◌∷◌}
use native.Mathlib.Omega.{arith}
use lib.ListN.{length, get_or, take, drop, length-append, length-drop}
use lib.Seq.{drop_at}
use borrow.Author.Tests.{le-leb, lt-leb, leb-true}
use Rattle.laws.specs.Front.{fronted}
use Rattle.le.specs.Bytes.{part}
use Rattle.refusal.specs.declared.Fault.TheVariants.{ShortBuffer}
use Rattle.refusal.specs.declared.Refusal.{Refusal}
use Rattle.refusal.specs.Order.{Verdict, ◌needing◌, demand, in_order, after, AllHold, none, both}
use Rattle.refusal.proofs.OrderLaws.{goes, ends, accepted_exactly}
use Rattle.keys.specs.Search.{joined}
use Rattle.keys.proofs.Pieces.{pieces_length, piece_at}
use Rattle.edition.specs.declared.Layout.{Layout}
use Rattle.nodelist.specs.Places.{place_of, places_of, list_rules, list_fits, area_of}
use Rattle.nodelist.proofs.Words.{place_length}
use Rattle.std.specs.Prelude.{Ok, Err}

module _ (count words : ℕ) where
  pub too_many : 4096 < count → Err (ShortBuffer needing 4096) ≡ list_fits count words
  unfolding list_fits list_rules in_order demand after
  too_many h = rw (lt-leb count 4096 h)

  module _ (few : count ≤ 4096) where
    pub too_short : words / 9 < count → Err (ShortBuffer needing count) ≡ list_fits count words
    unfolding list_fits list_rules in_order demand after
    too_short h = rw (le-leb count 4096 few, lt-leb count (words / 9) h)

    pub taken : count ≤ words / 9 → Ok tt ≡ list_fits count words
    unfolding list_fits list_rules in_order demand after
    taken h = rw (le-leb count 4096 few, le-leb count (words / 9) h)

-- exactly when
pub taken_exactly : (count words : ℕ) → (list_fits count words ≡ Ok tt) ↔ ((count ≤ 4096) × (count ≤ words / 9))
unfolding list_fits list_rules
taken_exactly count words = ((λ e. by ((accepted_exactly (list_rules count words)).0 e)), (λ h. sym (taken count words h.0 h.1)))
  where
    by : AllHold (list_rules count words) → (count ≤ 4096) × (count ≤ words / 9)
    by (both few (both room none)) = (leb-true count 4096 few, leb-true count (words / 9) room)

module _ (L : Layout) (image nodes area : List ℕ) where
  pub area_left : (r : Refusal) → Err r ≡ list_fits (length nodes) (length area) → area ≡ area_of L image nodes area
  unfolding area_of
  area_left r e = sym (ends _ _ _ r (sym e))

  pub area_filled : Ok tt ≡ list_fits (length nodes) (length area) → fronted (places_of L image nodes) area ≡ area_of L image nodes area
  unfolding area_of
  area_filled e = sym (goes _ _ _ (sym e))

-- an empty list leaves the area
pub area_kept : (L : Layout) (image nodes area : List ℕ) → length nodes ≤ 0 → Ok tt ≡ list_fits (length nodes) (length area) → area ≡ area_of L image nodes area
unfolding joined
area_kept L image [] area h e = area_filled L image [] area e
area_kept L image (n ∷ ns) area h e = absurd (omega arith)

-- the area at exit, part by part
module _ (L : Layout) (image nodes area : List ℕ) where
  -- the place of a number that is taken
  pub place_is : list_fits (length nodes) (length area) ≡ Ok tt → (i : ℕ) → i < length nodes → part (area_of L image nodes area) (9 * i) 9 ≡ place_of L image (get_or nodes i 0)
  unfolding part
  place_is e i h = ap (λ (s : List ℕ). take 9 (drop (9 * i) s)) (sym (area_filled L image nodes area (sym e))) ∙ piece_at (place_of L image) 9 (place_length L image) nodes _ i h

  long : length (places_of L image nodes) ≡ 9 * length nodes
  long = pieces_length (place_of L image) 9 (place_length L image) nodes

  -- what holds of the area where the list is refused, and where it is taken
  either : (P : List ℕ → Type 0) → P area → (list_fits (length nodes) (length area) ≡ Ok tt → P (fronted (places_of L image nodes) area)) → P (area_of L image nodes area)
  either P p q = by (list_fits (length nodes) (length area)) refl
    where
      by : (v : Verdict) → list_fits (length nodes) (length area) ≡ v → P (area_of L image nodes area)
      by (Ok tt) e = subst P (area_filled L image nodes area (sym e)) (q e)
      by (Err r) e = subst P (area_left L image nodes area r (sym e)) p

  pub past_stays : drop (9 * length nodes) (area_of L image nodes area) ≡ drop (9 * length nodes) area
  past_stays =
      either (λ (s : List ℕ). drop (9 * length nodes) s ≡ drop (9 * length nodes) area) refl
      (λ e. drop_at (places_of L image nodes) (drop (length (places_of L image nodes)) area) (9 * length nodes) long ∙ ap (λ (k : ℕ). drop k area) long)

  pub area_length : length (area_of L image nodes area) ≡ length area
  area_length =
      either (λ (s : List ℕ). length s ≡ length area) refl
      (λ e.
      let fits = (taken_exactly (length nodes) (length area)).0 e in
      length-append (places_of L image nodes) (drop (length (places_of L image nodes)) area)
      ∙ omega (arith, long, length-drop (length (places_of L image nodes)) area, fits.1))
