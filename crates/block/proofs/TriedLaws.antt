-- The rules that a block test and a block read try tell their refusals. Assumes nothing.
use Prim.Native.Nat.{ℕ}
use mathlib.Core.Path.{◌≡◌, refl, sym, ap, ◌∙◌}
use mathlib.Core.Bool.{Bool, true, false, cond}
use mathlib.Core.List.{List}
use lib.Dec.{leb}
use Rattle.refusal.specs.declared.Fault.TheVariants.{ShortBuffer}
use Rattle.refusal.specs.Order.{Verdict, ◌needing◌, in_order, demand, after, ◌then◌}
use Rattle.refusal.proofs.OrderLaws.{in_order_append}
use Rattle.keys.specs.declared.Sought.TheVariants.{Equal}
use Rattle.search.specs.Answer.{Answer, found, absent, refused}
use Rattle.search.proofs.Tried.{verdict_of}
use Rattle.tree.specs.Lookup.{lookup, search_rules}
use Rattle.tree.specs.Answers.{found_as, shown, as_block, block_of}
use Rattle.tree.proofs.InOrder.{search_tried}
use Rattle.edition.specs.declared.Edition.{Edition}
use Rattle.block.specs.Block.{block_fits, tested_by, checked_block, size_in, test_of, fitting, read_in, read_of}
use Rattle.block.specs.Tried.{listed_rules, test_rules, space_rules, read_rules}
use Rattle.std.specs.Prelude.{Result, Ok, Err}
use Rattle.refusal.specs.declared.Refusal.{Refusal}
use Rattle.tree.specs.declared.Listed.{Listed}

-- the refusal of an answer, if it is one
unfoldable pub verdict_in : Result Listed Refusal → Verdict
verdict_in (Ok b) = Ok tt
verdict_in (Err r) = Err r

unfoldable pub sized_verdict : Result ℕ Refusal → Verdict
sized_verdict (Ok n) = Ok tt
sized_verdict (Err r) = Err r

after_verdict : (v : Verdict) (c : Result Listed Refusal) → verdict_in c ≡ Ok tt → v ≡ verdict_in (after Err v c)
unfolding after verdict_in
after_verdict (Ok tt) c h = sym h
after_verdict (Err r) c h = refl

size_same : (c : Result Listed Refusal) → verdict_in c ≡ sized_verdict (size_in c)
unfolding verdict_in sized_verdict size_in
size_same (Ok b) = refl
size_same (Err r) = refl

module _ (E : Edition) (image : List ℕ) where
  found_tried : (a : Answer (List ℕ)) → (verdict_of a then in_order (listed_rules E image (as_block (shown E.blocks a)))) ≡ verdict_in (tested_by (block_fits E.trailer image) (as_block (shown E.blocks a)))
  unfolding verdict_of verdict_in shown found_as tested_by listed_rules block_fits after in_order demand
  found_tried (found e n) = after_verdict (block_fits E.trailer image _) (Ok _) refl
  found_tried (absent n) = refl
  found_tried (refused r) = refl

  pub test_tried : (number : ℕ) → in_order (test_rules E image number) ≡ verdict_in (checked_block E image number)
  unfolding test_rules checked_block block_of
  test_tried number =
      in_order_append (search_rules Equal E.blocks image number) (listed_rules E image (block_of E.blocks image number))
      ∙ ap (λ v. v then in_order (listed_rules E image (block_of E.blocks image number))) (search_tried Equal E.blocks image number)
      ∙ found_tried (lookup E.blocks image number)

  pub size_tried : (number : ℕ) → in_order (test_rules E image number) ≡ sized_verdict (test_of E image number)
  unfolding test_of
  size_tried number = test_tried number ∙ size_same (checked_block E image number)

  space_tried : (c : Result Listed Refusal) (space : ℕ) → (verdict_in c then in_order (space_rules c space)) ≡ sized_verdict (read_in c space)
  unfolding verdict_in space_rules read_in fitting sized_verdict after in_order demand
  space_tried (Ok b) space = by (leb b.size space)
    where
      by : (w : Bool) → (demand w (ShortBuffer needing b.size) then Ok tt) ≡ sized_verdict (cond w (Ok b.size) (Err (ShortBuffer needing b.size)))
      by true = refl
      by false = refl
  space_tried (Err r) space = refl

  pub read_tried : (number space : ℕ) → in_order (read_rules E image number space) ≡ sized_verdict (read_of E image number space)
  unfolding read_rules read_of
  read_tried number space =
      in_order_append (test_rules E image number) (space_rules (checked_block E image number) space)
      ∙ ap (λ v. v then in_order (space_rules (checked_block E image number) space)) (test_tried number)
      ∙ space_tried (checked_block E image number) space
