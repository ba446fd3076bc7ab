-- What comes before the property tree is accepted exactly when each rule holds. Assumes nothing.
use Prim.Native.Nat.{ℕ}
use mathlib.Core.Path.{◌≡◌, refl, sym, ◌∙◌}
use mathlib.Core.List.{List, ◌++◌}
use mathlib.Core.Logic.{◌↔◌}
use lib.Dec.{eqb}
use borrow.Author.Tests.{eqb-true, eq-eqb, ne_eqb}
use Rattle.refusal.specs.declared.Refusal.{Refusal}
use Rattle.refusal.specs.declared.Fault.TheVariants.{PropertyTree}
use Rattle.refusal.specs.Order.{◌at◌, ◌then◌, demand, in_order, FirstFault}
use Rattle.refusal.proofs.OrderLaws.{goes, ends, demanded, test_goes, test_ends, then_left, then_right, refused_exactly, in_order_append}
use Rattle.heap.specs.Shape.{client_kind, user_root, shape_rules, heap_test, Heap}
use Rattle.heap.proofs.ShapeLaws.{heap_exactly}
use Rattle.heaptree.specs.Root.{root_rules}
use Rattle.heaptree.specs.Lookup.{from_root}
use Rattle.heaptree.proofs.RootLaws.{root_exactly}
use Rattle.property.specs.Context.{properties, context_rules, context_test, Context}
use Rattle.property.specs.Lookup.{property_from, property}
use Rattle.std.specs.Prelude.{Ok, Err}

module _ (block : List ℕ) where
  -- the client kind first, then the root record of the tree
  kind_first : in_order (context_rules block) ≡ (demand (eqb (client_kind block) 0xBC) (PropertyTree at 0) then in_order (root_rules properties block (user_root block)))
  unfolding context_rules in_order
  kind_first = refl

  pub wrong_kind : (client_kind block ≡ 0xBC → ⊥) → in_order (context_rules block) ≡ Err (PropertyTree at 0)
  wrong_kind n = kind_first ∙ test_ends Err _ _ _ (ne_eqb _ _ n)

  pub right_kind : client_kind block ≡ 0xBC → in_order (context_rules block) ≡ in_order (root_rules properties block (user_root block))
  right_kind e = kind_first ∙ test_goes Err _ _ _ (eq-eqb _ _ e)

  -- the heap's shape before them
  shape_first : context_test block ≡ (heap_test block then in_order (context_rules block))
  unfolding context_test heap_test
  shape_first = in_order_append (shape_rules block) (context_rules block)

  pub wrong_shape : (r : Refusal) → heap_test block ≡ Err r → context_test block ≡ heap_test block
  wrong_shape r e = shape_first ∙ ends Err _ _ r e ∙ sym e

  pub right_shape : heap_test block ≡ Ok tt → context_test block ≡ in_order (context_rules block)
  right_shape e = shape_first ∙ goes Err _ _ e

  -- all before the tree is accepted exactly when the block is a heap of properties with a good root record
  pub context_exactly : (context_test block ≡ Ok tt) ↔ (Heap block × Context block)
  context_exactly = (says, said_so)
    where
      says : context_test block ≡ Ok tt → Heap block × Context block
      says e =
          let all = sym shape_first ∙ e in
          let rest = sym kind_first ∙ then_right _ _ all in (
            (heap_exactly block).0 (then_left _ _ all),
            record { kind = eqb-true _ _ (demanded _ _ (then_left _ _ rest)); root = (root_exactly properties block (user_root block)).0 (then_right _ _ rest) },
          )

      said_so : Heap block × Context block → context_test block ≡ Ok tt
      said_so h = right_shape ((heap_exactly block).1 h.0) ∙ right_kind h.1.kind ∙ (root_exactly properties block (user_root block)).1 h.1.root

  -- and refused exactly with the first rule that is broken
  pub context_refused_exactly : (r : Refusal) → (context_test block ≡ Err r) ↔ FirstFault (shape_rules block ++ context_rules block) r
  unfolding context_test
  context_refused_exactly r = refused_exactly (shape_rules block ++ context_rules block) r

  -- the whole lookup
  pub property_on : (id : ℕ) → context_test block ≡ Ok tt → property block id ≡ property_from block (from_root properties block (user_root block) id)
  unfolding property
  property_on id e = goes Err _ _ e
