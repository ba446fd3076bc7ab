-- A block is accepted as a heap exactly when each rule holds. Assumes nothing.
use Prim.Native.Nat.{ℕ, zero, suc, ◌+◌, ◌≤◌}
use mathlib.Core.Path.{◌≡◌, refl, sym, ap, ap₂, ◌∙◌, subst}
use mathlib.Core.Bool.{Bool, true, false, ◌&&◌}
use mathlib.Core.List.{List}
use mathlib.Core.Logic.{◌↔◌, ◌⊎◌, inl, inr}
use native.Mathlib.Omega.{arith}
use lib.Dec.{leb}
use lib.ListN.{length}
use borrow.Author.Tests.{leb-true, leb-false, le-leb, eqb-true, eq-eqb}
use Rattle.laws.proofs.Tests.{and_both, both_and}
use Rattle.le.specs.Bytes.{byte}
use Rattle.refusal.specs.declared.Refusal.{Refusal}
use Rattle.refusal.specs.Order.{Verdict, demand, after, ◌then◌, in_order, AllHold, none, both, FirstFault}
use Rattle.refusal.proofs.OrderLaws.{accepted_exactly, refused_exactly}
use Rattle.heap.specs.Shape.{map_offset, item_count, offset, map_end, never_fall, offsets_fit, bad_shape, shape_rules, heap_test, Heap}
use Rattle.std.specs.Prelude.{Ok, Err}

-- a number up to n + 1 is up to n, or n + 1
up_to : (P : ℕ → Type 0) (n i : ℕ) → (i ≤ n → P i) → P (suc n) → i ≤ suc n → P i
up_to P n i low top l = by (leb i n) refl
  where
    by : (b : Bool) → leb i n ≡ b → P i
    by true e = low (leb-true i n e)
    by false e = let same : suc n ≡ i = omega (arith, leb-false i n e) in subst P same top

-- offsets that never fall, one at a time
module _ (block : List ℕ) where
  -- the offsets climb up to the n-th of them
  abbrev Climb : ℕ → Type 0
  Climb n = (i : ℕ) → 1 ≤ i → i ≤ n → offset block i ≤ offset block (i + 1)

  never_falls : (n : ℕ) → never_fall block n ≡ true → Climb n
  unfolding never_fall
  never_falls zero e i h l = absurd (omega arith)
  never_falls (suc n) e i h l =
      let each = and_both (never_fall block n) (leb (offset block (suc n)) (offset block (suc n + 1))) e in
      up_to (λ (i : ℕ). offset block i ≤ offset block (i + 1)) n i (never_falls n each.0 i h) (leb-true _ _ each.1) l

  never_fall_of : (n : ℕ) → Climb n → never_fall block n ≡ true
  unfolding never_fall
  never_fall_of zero c = refl
  never_fall_of (suc n) c =
      both_and (never_fall block n) (leb (offset block (suc n)) (offset block (suc n + 1)))
      (never_fall_of n (λ i h l. c i h (omega arith))) (le-leb _ _ (c (suc n) (omega arith) (omega arith)))

  -- one offset more
  pub one_on : (i : ℕ) → never_fall block (i + 1) ≡ (never_fall block i && leb (offset block (i + 1)) (offset block (i + 2)))
  unfolding never_fall
  one_on i =
      let p : i + 1 ≡ suc i = omega arith in
      let q : suc i + 1 ≡ i + 2 = omega arith in
      ap (never_fall block) p ∙ ap₂ (λ (n m : ℕ). never_fall block i && leb (offset block n) (offset block m)) (sym p) q

-- the offsets as one test
pub heap_offsets : (block : List ℕ) → Heap block → offsets_fit block ≡ true
unfolding offsets_fit
heap_offsets block h =
    both_and _ _ (both_and _ _ (never_fall_of block (item_count block) h.climb) (le-leb _ _ h.first)) (le-leb _ _ h.last)

pub offsets_fall : (block : List ℕ) → offsets_fit block ≡ false → Heap block → ⊥
offsets_fall block e h = let clash : true ≡ false = sym (heap_offsets block h) ∙ e in cc

pub is_heap : (block : List ℕ) → 12 ≤ length block → length block ≤ 8180 → byte block 2 ≡ 0xEC → 12 ≤ map_offset block
    → map_end block ≤ length block → item_count block ≤ 2047 → offsets_fit block ≡ true → Heap block
unfolding offsets_fit
is_heap block long short mark map inside few o =
    let end = and_both (never_fall block (item_count block) && leb 12 (offset block 1)) (leb (offset block (item_count block + 1)) (map_offset block)) o in
    let start = and_both (never_fall block (item_count block)) (leb 12 (offset block 1)) end.0 in
    record {
      long = long;
      short = short;
      mark = mark;
      map = map;
      inside = inside;
      few = few;
      climb = never_falls block (item_count block) start.0;
      first = leb-true _ _ start.1;
      last = leb-true _ _ end.1;
    }

-- the rules' tests, and the facts they test
module _ (block : List ℕ) where
  facts : AllHold (shape_rules block) → Heap block
  unfolding shape_rules
  facts (both l (both m (both low (both e (both few (both o none)))))) =
      let bounds = and_both (leb 12 (length block)) (leb (length block) 8180) l in
      is_heap block (leb-true _ _ bounds.0) (leb-true _ _ bounds.1) (eqb-true _ _ m) (leb-true _ _ low) (leb-true _ _ e) (leb-true _ _ few) o

  tests : Heap block → AllHold (shape_rules block)
  unfolding shape_rules
  tests h =
      both (both_and _ _ (le-leb _ _ h.long) (le-leb _ _ h.short))
      (both (eq-eqb _ _ h.mark)
      (both (le-leb _ _ h.map)
      (both (le-leb _ _ h.inside)
      (both (le-leb _ _ h.few)
      (both (heap_offsets block h)
      none)))))

  -- a block is accepted as a heap exactly when it is one
  pub heap_exactly : (heap_test block ≡ Ok tt) ↔ Heap block
  unfolding heap_test
  heap_exactly =
      (λ e. facts ((accepted_exactly (shape_rules block)).0 e), λ h. (accepted_exactly (shape_rules block)).1 (tests h))

  -- and refused exactly with the first rule that it breaks
  pub heap_refused_exactly : (r : Refusal) → (heap_test block ≡ Err r) ↔ FirstFault (shape_rules block) r
  unfolding heap_test
  heap_refused_exactly r = refused_exactly (shape_rules block) r

-- a block that is no heap is refused with 18, and with nothing else
accepted_or : (t : Bool) (r : Refusal) (v : Verdict) → (v ≡ Ok tt) ⊎ (v ≡ Err r) → ((demand t r then v) ≡ Ok tt) ⊎ ((demand t r then v) ≡ Err r)
unfolding demand after
accepted_or true r v s = s
accepted_or false r v s = inr refl

either : (block : List ℕ) → (heap_test block ≡ Ok tt) ⊎ (heap_test block ≡ Err bad_shape)
unfolding heap_test shape_rules in_order
either block =
    accepted_or _ _ _ (accepted_or _ _ _ (accepted_or _ _ _ (accepted_or _ _ _ (accepted_or _ _ _ (accepted_or _ _ _ (inl refl))))))

pub not_heap : (block : List ℕ) → (Heap block → ⊥) → heap_test block ≡ Err bad_shape
not_heap block n = by (either block)
  where
    by : (heap_test block ≡ Ok tt) ⊎ (heap_test block ≡ Err bad_shape) → heap_test block ≡ Err bad_shape
    by (inl e) = absurd (n ((heap_exactly block).0 e))
    by (inr e) = e
