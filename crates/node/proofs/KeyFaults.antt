-- Refusals 11 and 21 of a node read: those of the node tree or of the block tree. Assumes nothing.
use Prim.Native.Nat.{ℕ}
use mathlib.Core.Path.{refl}
use mathlib.Core.Bool.{Bool, true, false, cond}
use mathlib.Core.Logic.{◌⊎◌, inl, inr}
use mathlib.Core.List.{List, [], ◌∷◌}
use lib.Dec.{eqb}
use Rattle.le.specs.Bytes.{part}
use Rattle.refusal.specs.declared.Refusal.{Refusal}
use Rattle.refusal.specs.Order.{Rule}
use Rattle.keys.specs.declared.Sought.TheVariants.{Equal}
use Rattle.keys.specs.Records.{cleared}
use Rattle.tree.specs.Answers.{node_of}
use Rattle.tree.specs.KeyFaults.{KeyFault}
use Rattle.tree.proofs.KeyFaults.{Quiet, KeysTell, quiet_tell, append_tell, joined_tell, search_tells}
use Rattle.block.specs.Block.{checked_block, internal}
use Rattle.block.specs.Tried.{test_rules}
use Rattle.block.proofs.KeyFaults.{test_tells}
use Rattle.edition.specs.declared.Edition.{Edition}
use Rattle.node.specs.Content.{Content, bytes, absent, refused, numbers_in, Kids, all, fault, kids_of, node_content}
use Rattle.node.specs.Tried.{sum_rules, data_tree_rules, passed_rules, data_block_rules, found_rules, content_rules, buffer_rules, data_rules}
use Rattle.std.specs.Prelude.{Result, Ok, Err}
use Rattle.tree.specs.declared.Found.{Found}
use Rattle.tree.specs.declared.Node.{Node}
use Rattle.tree.specs.declared.Listed.{Listed}
use Rattle.tree.specs.declared.Found.TheVariants.{Absent, Entry}

module _ (E : Edition) (image : List ℕ) where
  -- of either tree
  abbrev pub EitherTree : Refusal → Type 0
  EitherTree r = KeyFault E.nodes image r ⊎ KeyFault E.blocks image r

  sum_quiet : (offset : ℕ) (g : List ℕ) (kids : Kids) → Quiet (sum_rules offset g kids)
  unfolding sum_rules
  sum_quiet offset g (all bs) = (refl, tt)
  sum_quiet offset g (fault r) = tt

  buffer_quiet : (content : Content) (space : ℕ) → Quiet (buffer_rules content space)
  unfolding buffer_rules
  buffer_quiet (bytes s) space = (refl, tt)
  buffer_quiet absent space = tt
  buffer_quiet (refused r) space = tt

  -- either of two lists
  cond_tell : (b : Bool) (rs ss : List Rule) → KeysTell EitherTree rs → KeysTell EitherTree ss → KeysTell EitherTree (cond b rs ss)
  cond_tell true rs ss one other = one
  cond_tell false rs ss one other = other

  none_tell : KeysTell EitherTree []
  none_tell = quiet_tell EitherTree [] tt

  tested_tell : (number : ℕ) → KeysTell EitherTree (test_rules E image number)
  tested_tell number r f k = inr (test_tells E image number r f k)

  tree_tell : (offset : ℕ) (g : List ℕ) → KeysTell EitherTree (data_tree_rules E image offset g)
  unfolding data_tree_rules
  tree_tell offset g =
      append_tell EitherTree (_ ∷ []) _ (quiet_tell EitherTree (_ ∷ []) (refl, tt))
      (append_tell EitherTree _ _ (joined_tell EitherTree (test_rules E image) (numbers_in E.tree g) tested_tell) (quiet_tell EitherTree _ (sum_quiet offset g (kids_of E image (numbers_in E.tree g)))))

  passed_tell : (found : Result Listed Refusal) → KeysTell EitherTree (passed_rules E image found)
  unfolding passed_rules
  passed_tell (Ok b) = cond_tell (internal b.block) _ [] (tree_tell b.offset (part image b.offset b.size)) none_tell
  passed_tell (Err r) = none_tell

  block_tell : (number : ℕ) → KeysTell EitherTree (data_block_rules E image number)
  unfolding data_block_rules
  block_tell number = cond_tell (eqb (cleared number) 0) [] _ none_tell (append_tell EitherTree _ _ (tested_tell number) (passed_tell (checked_block E image number)))

  found_tell : (found : Result (Found Node) Refusal) → KeysTell EitherTree (found_rules E image found)
  unfolding found_rules
  found_tell (Ok (Entry n pages)) = block_tell n.block
  found_tell (Ok (Absent pages)) = none_tell
  found_tell (Err r) = none_tell

  pub data_tells : (number space : ℕ) → KeysTell EitherTree (data_rules E image number space)
  unfolding data_rules content_rules
  data_tells number space =
      append_tell EitherTree _ _
      (append_tell EitherTree _ _ (λ r f k. inl (search_tells E.nodes image Equal number r f k)) (found_tell (node_of E.nodes image number)))
      (quiet_tell EitherTree _ (buffer_quiet (node_content E image number) space))
