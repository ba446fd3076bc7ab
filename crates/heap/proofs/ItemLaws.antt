-- An item is accepted exactly when each rule holds, and then lies inside the block. Assumes nothing.
use Prim.Native.Nat.{ℕ, zero, suc, ◌+◌, ◌-◌, ◌≤◌}
use mathlib.Core.Path.{◌≡◌, sym, ap, ◌∙◌}
use mathlib.Core.Bool.{true, ◌&&◌}
use mathlib.Core.List.{List, [], ◌∷◌}
use mathlib.Core.Logic.{◌↔◌}
use native.Mathlib.Omega.{arith}
use lib.Dec.{leb, eqb}
use lib.ListN.{length}
use borrow.Author.Tests.{leb-true, le-leb, eqb-true, eq-eqb}
use Rattle.laws.proofs.Tests.{and_both, both_and}
use Rattle.le.proofs.FieldLaws.{part_length}
use Rattle.refusal.specs.declared.Refusal.{Refusal}
use Rattle.refusal.specs.Order.{Verdict, rule, demand, ◌then◌, in_order, FirstFault}
use Rattle.refusal.proofs.OrderLaws.{passes, goes, ends, demanded, then_left, then_right, then_accepted, refused_exactly, in_order_append}
use Rattle.heap.specs.Shape.{map_offset, item_count, offset, shape_rules, heap_test, Heap}
use Rattle.heap.specs.Items.{item_kind, item_index, item_block, item_fits, Numbered, bad_item, item_rules, item_test, item_start, item_end, item_length, item_part, item_or, item_span, Lies}
use Rattle.heap.proofs.ShapeLaws.{heap_exactly}
use Rattle.std.specs.Prelude.{Ok, Err}

-- a number names an item exactly when each rule of item numbers holds
module _ (block : List ℕ) (item : ℕ) where
  numbered : item_fits block item ≡ true → Numbered block item
  unfolding item_fits
  numbered e =
      let to = and_both (eqb (item_kind item) 0 && eqb (item_block item) 0 && leb 1 (item_index item)) (leb (item_index item) (item_count block)) e in
      let from = and_both (eqb (item_kind item) 0 && eqb (item_block item) 0) (leb 1 (item_index item)) to.0 in
      let both = and_both (eqb (item_kind item) 0) (eqb (item_block item) 0) from.0 in
      record {
        plain = eqb-true _ _ both.0;
        here = eqb-true _ _ both.1;
        from = leb-true _ _ from.1;
        to = leb-true _ _ to.1;
      }

  fits : Numbered block item → item_fits block item ≡ true
  unfolding item_fits
  fits n =
      both_and _ _ (both_and _ _ (both_and _ _ (eq-eqb _ _ n.plain) (eq-eqb _ _ n.here)) (le-leb _ _ n.from)) (le-leb _ _ n.to)

  pub number_exactly : (item_fits block item ≡ true) ↔ Numbered block item
  number_exactly = (numbered, fits)

module _ (block : List ℕ) (item : ℕ) where
  -- the heap's shape first, then the number
  item_test_lem : item_test block item ≡ (heap_test block then demand (item_fits block item) bad_item)
  unfolding item_test item_rules heap_test in_order
  item_test_lem =
      in_order_append (shape_rules block) (rule (item_fits block item) bad_item ∷ [])
      ∙ ap (λ (v : Verdict). in_order (shape_rules block) then v) (then_accepted (demand (item_fits block item) bad_item))

  pub item_shape : (r : Refusal) → heap_test block ≡ Err r → item_test block item ≡ heap_test block
  item_shape r e = item_test_lem ∙ ends Err _ _ r e ∙ sym e

  pub item_number : heap_test block ≡ Ok tt → item_test block item ≡ demand (item_fits block item) bad_item
  item_number e = item_test_lem ∙ goes Err _ _ e

  -- an item is accepted exactly when the block is a heap and the number names an item of it
  pub item_exactly : (item_test block item ≡ Ok tt) ↔ (Heap block × Numbered block item)
  item_exactly = (says, said)
    where
      says : item_test block item ≡ Ok tt → Heap block × Numbered block item
      says e =
          let both = sym item_test_lem ∙ e in
          ((heap_exactly block).0 (then_left _ _ both), (number_exactly block item).0 (demanded _ _ (then_right _ _ both)))

      said : Heap block × Numbered block item → item_test block item ≡ Ok tt
      said h =
          item_test_lem ∙ goes Err _ _ ((heap_exactly block).1 h.0) ∙ passes _ _ ((number_exactly block item).1 h.1)

  -- and refused exactly with the first rule that is broken
  pub item_refused_exactly : (r : Refusal) → (item_test block item ≡ Err r) ↔ FirstFault (item_rules block item) r
  unfolding item_test
  item_refused_exactly r = refused_exactly (item_rules block item) r

  -- what is answered for an accepted item, and for a refused one
  pub item_taken : item_test block item ≡ Ok tt → item_or block item ≡ item_part block item
  unfolding item_or
  item_taken e = goes (λ refusal. []) _ _ e

  pub item_empty : (r : Refusal) → item_test block item ≡ Err r → item_or block item ≡ []
  unfolding item_or
  item_empty r e = ends (λ refusal. []) _ _ r e

  pub span_taken : item_test block item ≡ Ok tt → item_span block item ≡ Ok (record { start = (item_start block item); length = (item_length block item) })
  unfolding item_span
  span_taken e = goes Err _ _ e

-- an item lies inside the block
module _ (block : List ℕ) (h : Heap block) where
  -- an offset is at most the n-th one behind it
  rises : (i n : ℕ) → 1 ≤ i → i + n ≤ item_count block + 1 → offset block i ≤ offset block (i + n)
  rises i zero s l = let e : i + 0 ≡ i = omega arith in rw e (omega arith)
  rises i (suc n) s l =
      let e : i + suc n ≡ i + n + 1 = omega arith in
      rw e (omega (arith, rises i n s (omega arith), h.climb (i + n) (omega arith) (omega arith)))

  module _ (item : ℕ) (n : Numbered block item) where
    last_above : offset block (item_index item + 1) ≤ offset block (item_count block + 1)
    last_above =
        let e : item_index item + 1 + (item_count block - item_index item) ≡ item_count block + 1 = omega (arith, n.to) in
        rw e at (rises (item_index item + 1) (item_count block - item_index item) (omega arith) (omega arith))

    first_below : offset block 1 ≤ offset block (item_index item)
    first_below =
        let e : 1 + (item_index item - 1) ≡ item_index item = omega (arith, n.from) in
        rw e at (rises 1 (item_index item - 1) (omega arith) (omega (arith, n.to)))

    -- the two offsets, as a slice asks for them
    pub starts_before : item_start block item ≤ item_end block item
    unfolding item_start item_end
    starts_before = h.climb (item_index item) n.from n.to

    ends_before : item_end block item ≤ map_offset block
    unfolding item_end
    ends_before = omega (arith, last_above, h.last)

    pub ends_inside : item_end block item ≤ length block
    ends_inside = omega (arith, ends_before, h.inside)

    starts_behind : 12 ≤ item_start block item
    unfolding item_start
    starts_behind = omega (arith, h.first, first_below)

    pub item_lies : Lies block item
    unfolding item_length item_part
    item_lies =
        record {
          front = starts_behind;
          map = omega (arith, starts_before, ends_before);
          inside = omega (arith, starts_before, ends_inside);
          whole = part_length block (item_start block item) (item_end block item - item_start block item) (omega (arith, starts_before, ends_inside));
        }

-- an accepted item lies inside the block
pub accepted_lies : (block : List ℕ) (item : ℕ) → item_test block item ≡ Ok tt → Lies block item
accepted_lies block item e = let both = (item_exactly block item).0 e in item_lies block both.0 item both.1
