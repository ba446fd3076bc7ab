-- The rules that a node read tries tell its refusal. Assumes nothing.
use Prim.Native.Nat.{ℕ}
use mathlib.Core.Path.{◌≡◌, refl, sym, ap, ◌∙◌}
use mathlib.Core.Bool.{Bool, true, false, cond}
use mathlib.Core.List.{List, [], ◌∷◌, ◌++◌}
use lib.Dec.{leb, eqb}
use lib.ListN.{length}
use Rattle.le.specs.Bytes.{part, field}
use Rattle.refusal.specs.declared.Fault.TheVariants.{DataTree, ShortBuffer}
use Rattle.refusal.specs.Order.{Verdict, ◌at◌, ◌needing◌, in_order, demand, after, ◌then◌}
use Rattle.refusal.proofs.OrderLaws.{in_order_append}
use Rattle.keys.specs.declared.Sought.TheVariants.{Equal}
use Rattle.keys.specs.Records.{cleared}
use Rattle.keys.specs.Search.{joined}
use Rattle.search.specs.Answer as search
use Rattle.search.proofs.Tried.{verdict_of}
use Rattle.tree.specs.Lookup.{lookup, search_rules}
use Rattle.tree.specs.Answers.{found_as, shown, as_node, node_of}
use Rattle.tree.proofs.InOrder.{search_tried}
use Rattle.block.specs.Block.{checked_block, internal, block_bytes}
use Rattle.block.specs.Tried.{test_rules}
use Rattle.block.proofs.TriedLaws.{verdict_in, test_tried}
use Rattle.edition.specs.declared.Edition.{Edition}
use Rattle.node.specs.Content.{Content, bytes, absent, refused, numbers_in, shape_fits, Kids, all, fault, and_kids, kids_of, total, gathered, tree_content, block_content, checked_content, data_of, found_content, node_content, answer_to}
use Rattle.node.specs.Tried.{sum_rules, data_tree_rules, passed_rules, data_block_rules, found_rules, content_rules, buffer_rules, data_rules}
use Rattle.std.specs.Prelude.{Option, Some, None, Result, Ok, Err}
use Rattle.refusal.specs.declared.Refusal.{Refusal}
use Rattle.tree.specs.declared.Listed.{Listed}

-- the refusal of an answer, if it is one
unfoldable content_verdict : Content → Verdict
content_verdict (bytes s) = Ok tt
content_verdict absent = Ok tt
content_verdict (refused r) = Err r

unfoldable kids_verdict : Kids → Verdict
kids_verdict (all bs) = Ok tt
kids_verdict (fault r) = Err r

unfoldable pub read_verdict : Result (Option ℕ) Refusal → Verdict
read_verdict (Ok (Some n)) = Ok tt
read_verdict (Ok None) = Ok tt
read_verdict (Err r) = Err r

-- a test before a content
content_after : (v : Verdict) (c : Content) → content_verdict (after refused v c) ≡ (v then content_verdict c)
unfolding content_verdict after
content_after (Ok tt) c = refl
content_after (Err r) c = refl

some_bytes : (s : List ℕ) → content_verdict (bytes s) ≡ in_order []
unfolding content_verdict in_order
some_bytes s = refl

module _ (E : Edition) (image : List ℕ) where
  -- each child in turn
  kid_tried : (c : Result Listed Refusal) (kids : Kids) → (verdict_in c then kids_verdict kids) ≡ kids_verdict (and_kids c kids)
  unfolding verdict_in kids_verdict and_kids after
  kid_tried (Ok b) (all bs) = refl
  kid_tried (Ok b) (fault r) = refl
  kid_tried (Err r) kids = refl

  kids_tried : (ns : List ℕ) → in_order (joined (test_rules E image) ns) ≡ kids_verdict (kids_of E image ns)
  unfolding joined kids_of kids_verdict in_order
  kids_tried [] = refl
  kids_tried (n ∷ ns) =
      in_order_append (test_rules E image n) (joined (test_rules E image) ns)
      ∙ ap (λ v. v then in_order (joined (test_rules E image) ns)) (test_tried E image n)
      ∙ ap (λ v. verdict_in (checked_block E image n) then v) (kids_tried ns)
      ∙ kid_tried (checked_block E image n) (kids_of E image ns)

  sum_tried : (offset : ℕ) (g : List ℕ) (kids : Kids) → (kids_verdict kids then in_order (sum_rules offset g kids)) ≡ content_verdict (gathered image offset g kids)
  unfolding kids_verdict sum_rules gathered content_verdict after in_order demand
  sum_tried offset g (all bs) = by (eqb (total bs) (field g 4 4))
    where
      by : (w : Bool) → (demand w (DataTree at offset) then Ok tt) ≡ content_verdict (after refused (demand w (DataTree at offset)) (bytes (joined (block_bytes image) bs)))
      by true = refl
      by false = refl
  sum_tried offset g (fault r) = refl

  tree_tried : (offset : ℕ) (g : List ℕ) → in_order (data_tree_rules E image offset g) ≡ content_verdict (tree_content E image offset g)
  unfolding data_tree_rules tree_content in_order
  tree_tried offset g =
      ap (λ v. demand (shape_fits E.tree g) (DataTree at offset) then v)
      (in_order_append (joined (test_rules E image) (numbers_in E.tree g)) (sum_rules offset g (kids_of E image (numbers_in E.tree g)))
      ∙ ap (λ v. v then in_order (sum_rules offset g (kids_of E image (numbers_in E.tree g)))) (kids_tried (numbers_in E.tree g))
      ∙ sum_tried offset g (kids_of E image (numbers_in E.tree g)))
      ∙ sym (content_after (demand (shape_fits E.tree g) (DataTree at offset)) _)

  passed_tried : (c : Result Listed Refusal) → (verdict_in c then in_order (passed_rules E image c)) ≡ content_verdict (checked_content E image c)
  unfolding verdict_in passed_rules checked_content block_content content_verdict after
  passed_tried (Ok b) = by (internal b.block)
    where
      by : (i : Bool) → in_order (cond i (data_tree_rules E image b.offset (part image b.offset b.size)) [])
          ≡ content_verdict (cond i (tree_content E image b.offset (part image b.offset b.size)) (bytes (block_bytes image b)))
      by true = tree_tried b.offset (part image b.offset b.size)
      by false = sym (some_bytes (block_bytes image b))
  passed_tried (Err r) = refl

  block_tried : (number : ℕ) → in_order (data_block_rules E image number) ≡ content_verdict (data_of E image number)
  unfolding data_block_rules data_of
  block_tried number = by (eqb (cleared number) 0)
    where
      by : (z : Bool) → in_order (cond z [] (test_rules E image number ++ passed_rules E image (checked_block E image number)))
          ≡ content_verdict (cond z (bytes []) (checked_content E image (checked_block E image number)))
      by true = sym (some_bytes [])
      by false =
          in_order_append (test_rules E image number) (passed_rules E image (checked_block E image number))
          ∙ ap (λ v. v then in_order (passed_rules E image (checked_block E image number))) (test_tried E image number)
          ∙ passed_tried (checked_block E image number)

  found_tried : (a : search.Answer (List ℕ)) → (verdict_of a then in_order (found_rules E image (as_node (shown E.nodes a)))) ≡ content_verdict (found_content E image (as_node (shown E.nodes a)))
  unfolding verdict_of shown found_as found_rules found_content content_verdict after in_order
  found_tried (search.found e n) = block_tried _
  found_tried (search.absent n) = refl
  found_tried (search.refused r) = refl

  content_tried : (number : ℕ) → in_order (content_rules E image number) ≡ content_verdict (node_content E image number)
  unfolding content_rules node_content node_of
  content_tried number =
      in_order_append (search_rules Equal E.nodes image number) (found_rules E image (node_of E.nodes image number))
      ∙ ap (λ v. v then in_order (found_rules E image (node_of E.nodes image number))) (search_tried Equal E.nodes image number)
      ∙ found_tried (lookup E.nodes image number)

  buffer_tried : (c : Content) (space : ℕ) → (content_verdict c then in_order (buffer_rules c space)) ≡ read_verdict (answer_to c space)
  unfolding content_verdict buffer_rules answer_to read_verdict after in_order demand
  buffer_tried (bytes s) space = by (leb (length s) space)
    where
      by : (w : Bool) → (demand w (ShortBuffer needing length s) then Ok tt) ≡ read_verdict (cond w (Ok (Some (length s))) (Err (ShortBuffer needing length s)))
      by true = refl
      by false = refl
  buffer_tried absent space = refl
  buffer_tried (refused r) space = refl

  pub data_tried : (number space : ℕ) → in_order (data_rules E image number space) ≡ read_verdict (answer_to (node_content E image number) space)
  unfolding data_rules
  data_tried number space =
      in_order_append (content_rules E image number) (buffer_rules (node_content E image number) space)
      ∙ ap (λ v. v then in_order (buffer_rules (node_content E image number) space)) (content_tried number)
      ∙ buffer_tried (node_content E image number) space
