-- A lookup goes into the child whose range its key lies in: so the way to one key of a range is the way to every key of it. Assumes nothing.
use Prim.Native.Nat.{ℕ, suc, ◌≤◌, ◌<◌}
use mathlib.Core.Path.{◌≡◌, refl, subst}
use mathlib.Core.List.{List, [], ◌∷◌}
use native.Mathlib.Nat.{le_of_lt, le_trans}
use native.Mathlib.Omega.{arith}
use lib.Dec.{leb}
use borrow.Author.Tests.{le-leb}
use Rattle.keys.specs.declared.Range.{Range}
use Rattle.keys.specs.declared.Sought.TheVariants.{Equal}
use Rattle.keys.specs.Plain.{All, BeforeEnd, Inside}
use Rattle.keys.specs.Search.{or_first, last_at_most}
use Rattle.keys.proofs.Climbs.{under_less}
use Rattle.keys.proofs.SearchLaws.{all_map}
use Rattle.search.specs.SearchTree.{SearchTree, test, children}
use Rattle.search.specs.Descent.{from_seat, picked}
use Rattle.search.specs.Promises.{Sorted}
use Rattle.search.proofs.Tiles.{Tiled, childless, last, more, first_under, seat_in, none_chosen}
use Rattle.search.proofs.Searched.{all_from_seat}
use Rattle.search.proofs.Checked.{children_tiled}
use Rattle.std.specs.Prelude.{Option, Some, None, Ok}

-- a child that keeps a key: it is the one gone into, and its parent's range, from `from` to `to`, has the key too
pub record Keeps {B : Type 0} (range : B → Range) (to : Option ℕ) (from k : ℕ) (cs : List B) (c : B) : Type 0 where
  pub picks : from_seat Equal (seat_in range k cs) cs ≡ c ∷ []
  pub low : from ≤ k
  pub high : BeforeEnd to k

module _ {B : Type 0} (range : B → Range) (to : Option ℕ) (k : ℕ) where
  -- a seat among the children behind the first
  later : (c x : B) (cs : List B) (b : _) (seat : Option ℕ) → from_seat Equal seat cs ≡ x ∷ [] → from_seat Equal (or_first b seat) (c ∷ cs) ≡ x ∷ []
  unfolding from_seat or_first
  later c x cs b (Some i) e = e
  later c x cs b None e = let clash : ◌≡◌ {A = ℕ} 0 1 = cc in absurd (omega arith)

  -- the first is chosen, where none behind it is
  first_chosen : (c : B) (cs : List B) → (range c).from ≤ k → seat_in range k cs ≡ None → from_seat Equal (seat_in range k (c ∷ cs)) (c ∷ cs) ≡ c ∷ []
  unfolding from_seat or_first last_at_most
  first_chosen c cs h e = rw (le-leb (range c).from k h, e)

  pub tiles_keep : {from : ℕ} {cs : List B} → Tiled range to from cs → All (λ c. Inside (range c) k → Keeps range to from k cs c) cs
  unfolding last_at_most
  tiles_keep childless = tt
  tiles_keep (last {c} f u e) =
      ((λ h. record { picks = first_chosen c [] h.0 refl; low = le_trans f h.0; high = subst (λ (w : Option ℕ). BeforeEnd w k) e h.1 }), tt)
  tiles_keep {from} (more {c} {d} {cs} f l e t) = (here, all_map there (d ∷ cs) (tiles_keep t))
    where
      here : Inside (range c) k → Keeps range to from k (c ∷ d ∷ cs) c
      here h =
          let less : k < (range d).from = subst (λ (w : Option ℕ). BeforeEnd w k) e h.1 in
          record {
            picks = first_chosen c (d ∷ cs) h.0 (none_chosen range k less t);
            low = le_trans f h.0;
            high = under_less to k (range d).from (le_of_lt less) (first_under t);
          }

      there : (x : B) → (Inside (range x) k → Keeps range to (range d).from k (d ∷ cs) x) → Inside (range x) k → Keeps range to from k (c ∷ d ∷ cs) x
      there x g h =
          let w = g h in
          record {
            picks = later c x (d ∷ cs) (leb (range c).from k) (seat_in range k (d ∷ cs)) w.picks;
            low = le_trans f (le_trans (le_of_lt l) w.low);
            high = w.high;
          }

-- the child that one key goes into is the one that every key of its range goes into, and its range is part of the parent's
pub kept : {B E : Type 0} (F : SearchTree B E) → Sorted F → (l : ℕ) (b c : B) (j k : ℕ) → test F (suc l) b ≡ Ok tt → picked F Equal j (children F l b) ≡ c ∷ []
    → Inside (F.range c) k → (picked F Equal k (children F l b) ≡ c ∷ []) × Inside (F.range b) k
kept {B} F sorted l b c j k ok e h =
    let cs = children F l b in
    let P : B → Type 0 = λ x. Inside (F.range x) k → Keeps F.range (F.range b).to (F.range b).from k cs x in
    let all = tiles_keep F.range (F.range b).to k (children_tiled F sorted l b ok) in
    let one : All P (c ∷ []) = subst (All P) e (all_from_seat P Equal _ cs all) in
    let w = one.0 h in
    (w.picks, (w.low, w.high))
