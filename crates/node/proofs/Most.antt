-- How much data a node can have: as many blocks as a data tree names at most, of as many bytes as a block has at most. Assumes nothing.
use Prim.Native.Nat.{ℕ, zero, suc, ◌+◌, ◌*◌, ◌≤◌}
use mathlib.Core.Path.{◌≡◌, refl, ap}
use mathlib.Core.List.{List, [], ◌∷◌}
use native.Mathlib.Nat.{le_trans, suc-mul, mul-le-mul_right}
use native.Mathlib.Omega.{arith}
use lib.ListN.{length}
use Rattle.le.specs.Bytes.{part}
use Rattle.tree.specs.declared.Listed.{Listed}
use Rattle.block.specs.Block.{checked_block, block_bytes}
use Rattle.block.proofs.BlockLaws.{checked_inside, checked_size, bytes_length}
use Rattle.edition.specs.declared.Edition.{Edition}
use Rattle.edition.specs.declared.RootBlock.{RootBlock}
use Rattle.node.specs.Content.{bytes, count_in, numbers_from, numbers_in, total, most_data, node_content}
use Rattle.edition.specs.Fair.{FairEdition}
use Rattle.node.specs.Named.{ListedAs, none, one, DataTreeSound, Hands, own, children, Named, nothing, something}
use Rattle.node.proofs.Kids.{joined_length}
use Rattle.node.proofs.Exactly.{node_exactly}
use Rattle.std.specs.Prelude.{Ok}

as_many : (d : RootBlock) (g : List ℕ) (i n : ℕ) → length (numbers_from d g i n) ≡ n
unfolding numbers_from
as_many d g i zero = refl
as_many d g i (suc n) = ap suc (as_many d g (i + 1) n)

counted : (d : RootBlock) (g : List ℕ) → length (numbers_in d g) ≡ count_in g
unfolding numbers_in
counted d g = as_many d g 0 (count_in g)

module _ (E : Edition) (fair : FairEdition E) where
  total_most : (image ns : List ℕ) (bs : List Listed) → ListedAs E image ns bs → total bs ≤ length ns * E.trailer.most
  unfolding total
  total_most image [] [] none = omega arith
  total_most image (n ∷ ns) (b ∷ bs) (one q l) = omega (arith, checked_size E image n b q, total_most image ns bs l, suc-mul (length ns) E.trailer.most)
  total_most image [] (b ∷ bs) h = elim h [ ]
  total_most image (n ∷ ns) [] h = elim h [ ]

  one_most : E.trailer.most ≤ most_data E
  unfolding most_data
  one_most = omega (arith, mul-le-mul_right {m = 1} {n = E.tree.most} E.trailer.most fair.tree.some)

  own_most : (image : List ℕ) (number : ℕ) (b : Listed) → checked_block E image number ≡ Ok b → length (block_bytes image b) ≤ most_data E
  own_most image number b e = omega (arith, bytes_length image b (checked_inside E image number b e), checked_size E image number b e, one_most)

  tree_most : (image g : List ℕ) (bs : List Listed) → DataTreeSound E image g bs → total bs ≤ most_data E
  unfolding most_data
  tree_most image g bs h =
      le_trans (total_most image (numbers_in E.tree g) bs h.listed)
      (mul-le-mul_right {m = length (numbers_in E.tree g)} {n = E.tree.most} E.trailer.most (omega (arith, counted E.tree g, h.count.1)))

  hands_most : (image : List ℕ) (number : ℕ) (b : Listed) (s : List ℕ) → checked_block E image number ≡ Ok b → Hands E image b s → length s ≤ most_data E
  hands_most image number b s e (own i) = own_most image number b e
  hands_most image number b s e (children {bs} i t) =
      let g = part image b.offset b.size in
      omega (arith, joined_length E image (numbers_in E.tree g) bs t.listed, tree_most image g bs t)

  named_most : (image : List ℕ) (number : ℕ) (s : List ℕ) → Named E image number s → length s ≤ most_data E
  named_most image number s (nothing f z) = omega arith
  named_most image number s (something {n} {pages} {b} f z k h) = hands_most image n.block b s k h

  pub node_most : (image : List ℕ) (number : ℕ) (s : List ℕ) → node_content E image number ≡ bytes s → length s ≤ most_data E
  node_most image number s e = named_most image number s ((node_exactly E image number s).0 e)
