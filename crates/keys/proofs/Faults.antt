-- What the test of keys finds is the first key at fault. Assumes nothing.
use Prim.Native.Nat.{ℕ, zero, suc, ◌+◌, ◌-◌, ◌≤◌, ◌<◌}
use mathlib.Core.Path.{◌≡◌, refl, sym, ap, ◌∙◌, subst}
use mathlib.Core.Bool.{Bool, true, false, cond}
use mathlib.Core.Logic.{◌↔◌}
use mathlib.Core.List.{List, [], ◌∷◌}
use native.Mathlib.Omega.{arith}
use lib.Dec.{ltb}
use lib.ListN.{length, take, get_or}
use borrow.Author.Tests.{ltb-true, ltb-false, lt-ltb, le-ltb}
use Rattle.laws.proofs.Tests.{not_both}
use Rattle.keys.specs.declared.Range.{Range}
use Rattle.keys.specs.Plain.{Ascending, All, Inside}
use Rattle.keys.specs.Range.{in_range, ordered_after, ordered}
use Rattle.keys.specs.Faults.{GoodBefore, OutOfOrder, OutOfRange}
use Rattle.keys.proofs.Climbs.{in_range_lem, inside_range, not_unordered, not_outside}
use Rattle.std.specs.Prelude.{Result, Ok, Err, ⊤}
use Rattle.keys.specs.declared.Disorder.{Disorder}
use Rattle.keys.specs.declared.Disorder.TheVariants.{Outside, Unordered}

module _ (range : Range) where
  -- the same of keys that stand behind the key `last`
  record GoodAfter (last : ℕ) (keys : List ℕ) (n : ℕ) : Type 0 where
    there : n < length keys
    ascending : Ascending (last ∷ take n keys)
    inside : All (Inside range) (take n keys)

  record OrderAfter (last : ℕ) (keys : List ℕ) (n : ℕ) : Type 0 where
    good : GoodAfter last keys n
    not_above : get_or keys n 0 ≤ get_or (last ∷ keys) n 0

  record RangeAfter (last : ℕ) (keys : List ℕ) (n : ℕ) : Type 0 where
    good : GoodAfter last keys n
    above : get_or (last ∷ keys) n 0 < get_or keys n 0
    outside : Inside range (get_or keys n 0) → ⊥

-- the index i, counted from j on
record From (j i : ℕ) (P : ℕ → Type 0) : Type 0 where
  steps : ℕ
  is : i ≡ j + steps
  holds : P steps

module _ (range : Range) where
  -- what each finding says of keys behind `last`, the first of them the j-th
  abbrev Says : ℕ → ℕ → List ℕ → Result ⊤ Disorder → Type 0
  Says j last keys (Ok tt) = Unit {0}
  Says j last keys (Err (Unordered i)) = From j i (OrderAfter range last keys)
  Says j last keys (Err (Outside i)) = From j i (RangeAfter range last keys)

  good_more : (last key : ℕ) (keys : List ℕ) (n : ℕ) → last < key → Inside range key → GoodAfter range key keys n → GoodAfter range last (key ∷ keys) (suc n)
  good_more last key keys n up into h =
      let t = h.there in
      record { there = omega (arith, t); ascending = (up, h.ascending); inside = (into, h.inside) }

  says_more : (j last key : ℕ) (keys : List ℕ) (o : Result ⊤ Disorder) → last < key → Inside range key → Says (j + 1) key keys o → Says j last (key ∷ keys) o
  says_more j last key keys (Ok tt) up into s = tt
  says_more j last key keys (Err (Unordered i)) up into s =
      let e = s.is in
      record {
        steps = suc s.steps;
        is = omega (arith, e);
        holds = record { good = good_more last key keys s.steps up into s.holds.good; not_above = s.holds.not_above };
      }
  says_more j last key keys (Err (Outside i)) up into s =
      let e = s.is in
      record {
        steps = suc s.steps;
        is = omega (arith, e);
        holds = record { good = good_more last key keys s.steps up into s.holds.good; above = s.holds.above; outside = s.holds.outside };
      }

  outside_of : (key : ℕ) → in_range range key ≡ false → Inside range key → ⊥
  outside_of key e h = not_both (in_range range key) (inside_range range key h) e

  of_outside : (key : ℕ) → (Inside range key → ⊥) → in_range range key ≡ false
  of_outside key h = by (in_range range key) refl
    where
      by : (b : Bool) → in_range range key ≡ b → b ≡ false
      by true e = absurd (h (in_range_lem range key e))
      by false e = refl

  says_first : (j last key : ℕ) (keys : List ℕ) (o : Result ⊤ Disorder) (up into : Bool) → ltb last key ≡ up → in_range range key ≡ into → Says (j + 1) key keys o
      → Says j last (key ∷ keys) (cond up (cond into o (Err (Outside j))) (Err (Unordered j)))
  says_first j last key keys o true true u r s = says_more j last key keys o (ltb-true last key u) (in_range_lem range key r) s
  says_first j last key keys o true false u r s =
      record {
        steps = 0;
        is = omega arith;
        holds = record { good = record { there = omega arith; ascending = tt; inside = tt }; above = ltb-true last key u; outside = outside_of key r };
      }
  says_first j last key keys o false into u r s =
      record {
        steps = 0;
        is = omega arith;
        holds = record { good = record { there = omega arith; ascending = tt; inside = tt }; not_above = ltb-false last key u };
      }

  says_after : (j last : ℕ) (keys : List ℕ) → Says j last keys (ordered_after range j last keys)
  unfolding ordered_after
  says_after j last [] = tt
  says_after j last (key ∷ keys) = says_first j last key keys _ (ltb last key) (in_range range key) refl refl (says_after (j + 1) key keys)

  -- and the other way
  good_less : (last key : ℕ) (keys : List ℕ) (n : ℕ) → GoodAfter range last (key ∷ keys) (suc n) → GoodAfter range key keys n
  good_less last key keys n h =
      let t = h.there in
      record { there = omega (arith, t); ascending = h.ascending.1; inside = h.inside.1 }

  order_after : (n j last : ℕ) (keys : List ℕ) → OrderAfter range last keys n → ordered_after range j last keys ≡ Err (Unordered (j + n))
  unfolding ordered_after
  order_after n j last [] h = let t = h.good.there in absurd (omega (arith, t))
  order_after zero j last (key ∷ keys) h = rw (le-ltb last key h.not_above) (ap (λ n. Err (Unordered n)) (omega arith))
  order_after (suc n) j last (key ∷ keys) h =
      rw (lt-ltb last key h.good.ascending.0, inside_range range key h.good.inside.0)
      (order_after n (j + 1) key keys (record { good = good_less last key keys n h.good; not_above = h.not_above }) ∙ ap (λ n. Err (Unordered n)) (omega arith))

  range_after : (n j last : ℕ) (keys : List ℕ) → RangeAfter range last keys n → ordered_after range j last keys ≡ Err (Outside (j + n))
  unfolding ordered_after
  range_after n j last [] h = let t = h.good.there in absurd (omega (arith, t))
  range_after zero j last (key ∷ keys) h = rw (lt-ltb last key h.above, of_outside key h.outside) (ap (λ n. Err (Outside n)) (omega arith))
  range_after (suc n) j last (key ∷ keys) h =
      rw (lt-ltb last key h.good.ascending.0, inside_range range key h.good.inside.0)
      (range_after n (j + 1) key keys (record { good = good_less last key keys n h.good; above = h.above; outside = h.outside }) ∙ ap (λ n. Err (Outside n)) (omega arith))

  -- of all keys: the first has none before it
  good_top : (key : ℕ) (keys : List ℕ) (n : ℕ) → Inside range key → GoodAfter range key keys n → GoodBefore range (key ∷ keys) (suc n)
  good_top key keys n into h =
      let t = h.there in
      record { there = omega (arith, t); ascending = h.ascending; inside = (into, h.inside) }

  good_under : (key : ℕ) (keys : List ℕ) (n : ℕ) → GoodBefore range (key ∷ keys) (suc n) → GoodAfter range key keys n
  good_under key keys n h =
      let t = h.there in
      record { there = omega (arith, t); ascending = h.ascending; inside = h.inside.1 }

  less_one : (n : ℕ) → suc n - 1 ≡ n
  less_one n = omega arith

  order_top : (key : ℕ) (keys : List ℕ) (n : ℕ) → Inside range key → OrderAfter range key keys n → OutOfOrder range (key ∷ keys) (suc n)
  order_top key keys n into h = record { good = good_top key keys n into h.good; not_first = omega arith; not_above = rw (less_one n) h.not_above }

  range_top : (key : ℕ) (keys : List ℕ) (n : ℕ) → Inside range key → RangeAfter range key keys n → OutOfRange range (key ∷ keys) (suc n)
  range_top key keys n into h = record { good = good_top key keys n into h.good; above = λ first. rw (less_one n) h.above; outside = h.outside }

  order_of : (keys : List ℕ) (i : ℕ) → ordered range keys ≡ Err (Unordered i) → OutOfOrder range keys i
  unfolding ordered
  order_of [] i e = absurd (not_unordered i (sym e))
  order_of (key ∷ keys) i e = by (in_range range key) refl e
    where
      by : (b : Bool) → in_range range key ≡ b → cond b (ordered_after range 1 key keys) (Err (Outside 0)) ≡ Err (Unordered i) → OutOfOrder range (key ∷ keys) i
      by true r o =
          let s = subst (Says 1 key keys) o (says_after 1 key keys) in
          let e = s.is in
          let next : suc s.steps ≡ i = omega (arith, e) in
          subst (OutOfOrder range (key ∷ keys)) next (order_top key keys s.steps (in_range_lem range key r) s.holds)
      by false r o = let clash : ◌≡◌ {A = ℕ} 0 1 = cc in absurd (omega arith)

  range_of : (keys : List ℕ) (i : ℕ) → ordered range keys ≡ Err (Outside i) → OutOfRange range keys i
  unfolding ordered
  range_of [] i e = absurd (not_outside i (sym e))
  range_of (key ∷ keys) i e = by (in_range range key) refl e
    where
      by : (b : Bool) → in_range range key ≡ b → cond b (ordered_after range 1 key keys) (Err (Outside 0)) ≡ Err (Outside i) → OutOfRange range (key ∷ keys) i
      by true r o =
          let s = subst (Says 1 key keys) o (says_after 1 key keys) in
          let e = s.is in
          let next : suc s.steps ≡ i = omega (arith, e) in
          subst (OutOfRange range (key ∷ keys)) next (range_top key keys s.steps (in_range_lem range key r) s.holds)
      by false r o =
          let zeroth : 0 ≡ i = cc in
          subst (OutOfRange range (key ∷ keys)) zeroth
          (record { good = record { there = omega arith; ascending = tt; inside = tt }; above = λ h. absurd (omega (arith, h)); outside = outside_of key r })

  order_found : (keys : List ℕ) (i : ℕ) → OutOfOrder range keys i → ordered range keys ≡ Err (Unordered i)
  unfolding ordered
  order_found [] i h = let t = h.good.there in absurd (omega (arith, t))
  order_found (key ∷ keys) zero h = let t = h.not_first in absurd (omega (arith, t))
  order_found (key ∷ keys) (suc n) h =
      rw (inside_range range key h.good.inside.0)
      (order_after n 1 key keys (record { good = good_under key keys n h.good; not_above = subst (λ m. get_or keys n 0 ≤ get_or (key ∷ keys) m 0) (less_one n) h.not_above }) ∙ ap (λ n. Err (Unordered n)) (omega arith))

  range_found : (keys : List ℕ) (i : ℕ) → OutOfRange range keys i → ordered range keys ≡ Err (Outside i)
  unfolding ordered
  range_found [] i h = let t = h.good.there in absurd (omega (arith, t))
  range_found (key ∷ keys) zero h = rw (of_outside key h.outside)
  range_found (key ∷ keys) (suc n) h =
      rw (inside_range range key h.good.inside.0)
      (range_after n 1 key keys (record { good = good_under key keys n h.good; above = subst (λ m. get_or (key ∷ keys) m 0 < get_or keys n 0) (less_one n) (h.above (omega arith)); outside = h.outside }) ∙ ap (λ n. Err (Outside n)) (omega arith))

  -- the test finds a key out of order, or out of range, exactly when it is the first at fault; and none exactly when there is none
  pub unordered_exactly : (keys : List ℕ) (i : ℕ) → (ordered range keys ≡ Err (Unordered i)) ↔ OutOfOrder range keys i
  unordered_exactly keys i = (order_of keys i, order_found keys i)

  pub outside_exactly : (keys : List ℕ) (i : ℕ) → (ordered range keys ≡ Err (Outside i)) ↔ OutOfRange range keys i
  outside_exactly keys i = (range_of keys i, range_found keys i)

  pub climbing_exactly : (keys : List ℕ) → (ordered range keys ≡ Ok tt) ↔ ((i : ℕ) → (OutOfOrder range keys i → ⊥) × (OutOfRange range keys i → ⊥))
  climbing_exactly keys = (
    (λ e i. ((λ h. not_unordered i (sym (order_found keys i h) ∙ e)), (λ h. not_outside i (sym (range_found keys i h) ∙ e)))),
    (λ none. by none (ordered range keys) refl),
  )
    where
      by : ((i : ℕ) → (OutOfOrder range keys i → ⊥) × (OutOfRange range keys i → ⊥)) → (o : Result ⊤ Disorder) → ordered range keys ≡ o → o ≡ Ok tt
      by none (Ok tt) e = refl
      by none (Err (Unordered i)) e = absurd ((none i).0 (order_of keys i e))
      by none (Err (Outside i)) e = absurd ((none i).1 (range_of keys i e))
