-- A node's data is the same in images that are alike to the file's end. Assumes nothing.
use Prim.Native.Nat.{ℕ}
use mathlib.Core.Path.{◌≡◌, refl, ap, ap₂, ◌∙◌}
use mathlib.Core.Bool.{cond}
use mathlib.Core.List.{List, [], ◌∷◌, ◌++◌}
use lib.Dec.{eqb}
use Rattle.le.specs.Bytes.{part, field}
use Rattle.refusal.specs.declared.Fault.TheVariants.{DataTree}
use Rattle.refusal.specs.declared.Refusal.{Refusal}
use Rattle.refusal.specs.Order.{◌at◌, demand, after, FirstFault}
use Rattle.refusal.proofs.OrderLaws.{fault_left}
use Rattle.keys.specs.declared.Sought.TheVariants.{Equal}
use Rattle.keys.specs.Records.{cleared}
use Rattle.keys.specs.Search.{joined}
use Rattle.header.specs.Header.{header_rules}
use Rattle.header.specs.End.{AlikeToEnd}
use Rattle.tree.specs.declared.Listed.{Listed}
use Rattle.tree.specs.Lookup.{search_rules}
use Rattle.tree.specs.Answers.{node_of}
use Rattle.tree.proofs.EndLaws.{node_alike, search_first}
use Rattle.block.specs.Block.{checked_block, internal, block_bytes}
use Rattle.block.proofs.EndLaws.{checked_alike, stored_same, bytes_same}
use Rattle.edition.specs.declared.Edition.{Edition}
use Rattle.edition.specs.Fair.{FairEdition}
use Rattle.node.specs.Content.{Content, bytes, refused, numbers_in, shape_fits, Kids, all, fault, and_kids, kids_of, total, gathered, tree_content, block_content, checked_content, data_of, found_content, node_content}
use Rattle.node.specs.Named.{ListedAs, none, one}
use Rattle.node.specs.Tried.{content_rules, data_rules}
use Rattle.node.proofs.Kids.{listing_of}
use Rattle.std.specs.Prelude.{Result, Ok, Err}
use Rattle.tree.specs.declared.Found.{Found}
use Rattle.tree.specs.declared.Node.{Node}
use Rattle.tree.specs.declared.Found.TheVariants.{Absent, Entry}

module _ (E : Edition) (fair : FairEdition E) (first second : List ℕ) (alike : AlikeToEnd first second) where
  kids_alike : (ns : List ℕ) → kids_of E first ns ≡ kids_of E second ns
  unfolding kids_of
  kids_alike [] = refl
  kids_alike (n ∷ ns) = ap₂ and_kids (checked_alike E fair first second alike n) (kids_alike ns)

  joined_alike : (ns : List ℕ) (bs : List Listed) → ListedAs E first ns bs → joined (block_bytes first) bs ≡ joined (block_bytes second) bs
  unfolding joined
  joined_alike [] [] none = refl
  joined_alike (n ∷ ns) (b ∷ bs) (one e h) = ap₂ ◌++◌ (bytes_same E fair first second alike n b e) (joined_alike ns bs h)
  joined_alike [] (b ∷ bs) h = elim h [ ]
  joined_alike (n ∷ ns) [] h = elim h [ ]

  gathered_alike : (offset : ℕ) (g ns : List ℕ) → gathered first offset g (kids_of E first ns) ≡ gathered second offset g (kids_of E second ns)
  unfolding gathered
  gathered_alike offset g ns = by (kids_of E first ns) refl ∙ ap (gathered second offset g) (kids_alike ns)
    where
      by : (k : Kids) → kids_of E first ns ≡ k → gathered first offset g k ≡ gathered second offset g k
      by (fault r) e = refl
      by (all bs) e =
          ap (λ (s : List ℕ). after refused (demand (eqb (total bs) (field g 4 4)) (DataTree at offset)) (bytes s)) (joined_alike ns bs (listing_of E first ns bs e))

  tree_alike : (offset : ℕ) (g : List ℕ) → tree_content E first offset g ≡ tree_content E second offset g
  unfolding tree_content
  tree_alike offset g = ap (after refused (demand (shape_fits E.tree g) (DataTree at offset))) (gathered_alike offset g (numbers_in E.tree g))

  block_alike : (number : ℕ) (b : Listed) → checked_block E first number ≡ Ok b → block_content E first b ≡ block_content E second b
  unfolding block_content
  block_alike number b e =
      ap₂ (λ (x y : Content). cond (internal b.block) x y)
      (ap (tree_content E first b.offset) (stored_same E fair first second alike number b e) ∙ tree_alike b.offset (part second b.offset b.size))
      (ap bytes (bytes_same E fair first second alike number b e))

  passed_alike : (number : ℕ) → checked_content E first (checked_block E first number) ≡ checked_content E second (checked_block E second number)
  unfolding checked_content
  passed_alike number = by (checked_block E first number) refl ∙ ap (checked_content E second) (checked_alike E fair first second alike number)
    where
      by : (c : Result Listed Refusal) → checked_block E first number ≡ c → checked_content E first c ≡ checked_content E second c
      by (Ok b) e = block_alike number b e
      by (Err r) e = refl

  data_alike : (number : ℕ) → data_of E first number ≡ data_of E second number
  unfolding data_of
  data_alike number = ap (cond (eqb (cleared number) 0) (bytes [])) (passed_alike number)

  found_alike : (f : Result (Found Node) Refusal) → found_content E first f ≡ found_content E second f
  unfolding found_content
  found_alike (Ok (Entry n pages)) = data_alike n.block
  found_alike (Ok (Absent pages)) = refl
  found_alike (Err r) = refl

  pub content_alike : (number : ℕ) → node_content E first number ≡ node_content E second number
  unfolding node_content
  content_alike number = found_alike (node_of E.nodes first number) ∙ ap (found_content E second) (node_alike E.nodes fair.nodes first second alike number)

-- what the header is refused with, a read is refused with
pub data_first : (E : Edition) (image : List ℕ) (r : Refusal) → FirstFault (header_rules image) r → (number space : ℕ) → FirstFault (data_rules E image number space) r
unfolding data_rules content_rules
data_first E image r first number space = fault_left _ _ r (fault_left (search_rules Equal E.nodes image number) _ r (search_first E.nodes image r first Equal number))
