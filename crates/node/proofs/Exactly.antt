-- A node has data exactly when the rules hold, and it is then the bytes of the blocks that the node names, in order. Assumes nothing.
use Prim.Native.Nat.{ℕ, ◌≤◌}
use mathlib.Core.Path.{◌≡◌, refl, sym, ap, ◌∙◌, subst}
use mathlib.Core.Bool.{Bool, true, false, not}
use mathlib.Core.Logic.{◌↔◌}
use mathlib.Core.List.{List, [], ◌∷◌}
use native.Mathlib.Omega.{arith}
use lib.Dec.{eqb}
use lib.ListN.{length}
use borrow.Author.Tests.{eqb-true, eqb-false, eq-eqb, le-leb}
use Rattle.laws.proofs.Tests.{and_both, both_and}
use Rattle.le.specs.Bytes.{part, field}
use Rattle.refusal.specs.declared.Refusal.{Refusal}
use Rattle.keys.specs.Plain.{All}
use Rattle.keys.specs.Records.{cleared}
use Rattle.keys.specs.Search.{joined}
use Rattle.tree.specs.declared.Listed.{Listed}
use Rattle.tree.specs.declared.Node.{Node}
use Rattle.tree.specs.Answers.{node_of}
use Rattle.block.specs.Block.{checked_block, internal, block_bytes}
use Rattle.edition.specs.declared.Edition.{Edition}
use Rattle.node.specs.Content.{Content, bytes, absent, refused, numbers_in, none_internal, shape_fits, Kids, all, fault, kids_of, total, tree_content, block_content, data_of, node_content}
use Rattle.node.specs.Named.{DataTreeSound, Hands, own, children, Named, nothing, something}
use Rattle.node.proofs.Kids.{listing_of, of_listing}
use Rattle.node.proofs.Outcomes.{shape_of, tree_shapeless, tree_fault, tree_other_sum, tree_bytes, block_tree, block_own, data_none, data_refused, data_block, node_found, node_absent, node_refused}
use Rattle.std.specs.Prelude.{Result, Ok, Err}
use Rattle.tree.specs.declared.Found.{Found}
use Rattle.tree.specs.declared.Found.TheVariants.{Absent, Entry}

-- a refusal is no data, nor is absent
no_bytes : (c : Content) (r : Refusal) (s : List ℕ) → c ≡ refused r → c ≡ bytes s → ⊥
no_bytes c r s e f = let clash : ◌≡◌ {A = ℕ} 0 1 = cc in omega arith

not_absent : (c : Content) (s : List ℕ) → c ≡ absent → c ≡ bytes s → ⊥
not_absent c s e f = let clash : ◌≡◌ {A = ℕ} 0 1 = cc in omega arith

same_bytes : (c : Content) (s t : List ℕ) → c ≡ bytes s → c ≡ bytes t → s ≡ t
same_bytes c s t e f = cc

outer_of : (ns : List ℕ) → none_internal ns ≡ true → All (λ n. internal n ≡ false) ns
unfolding none_internal
outer_of [] e = tt
outer_of (n ∷ ns) e =
    let x = and_both (not (internal n)) (none_internal ns) e in
    (unnot (internal n) x.0, outer_of ns x.1)
  where
    unnot : (b : Bool) → not b ≡ true → b ≡ false
    unnot true h = sym h
    unnot false h = refl

of_outer : (ns : List ℕ) → All (λ n. internal n ≡ false) ns → none_internal ns ≡ true
unfolding none_internal
of_outer [] a = refl
of_outer (n ∷ ns) a = rw a.0 (of_outer ns a.1)

shape_fits_lem : (E : Edition) (image g : List ℕ) (bs : List Listed) → DataTreeSound E image g bs → shape_fits E.tree g ≡ true
unfolding shape_fits
shape_fits_lem E image g bs h =
    let long : 8 ≤ length g = omega (arith, h.size) in
    both_and _ _
    (both_and _ _
    (both_and _ _
    (both_and _ _ (both_and _ _ (both_and _ _ (le-leb 8 (length g) long) (eq-eqb _ _ h.first.0)) (eq-eqb _ _ h.first.1)) (le-leb _ _ h.count.0))
    (le-leb _ _ h.count.1))
    (eq-eqb _ _ h.size))
    (of_outer (numbers_in E.tree g) h.outer)

module _ (E : Edition) (image : List ℕ) (offset : ℕ) (g : List ℕ) (s : List ℕ) where
  -- the children, and what their data is
  pub record Tree : Type 0 where
    pub kids : List Listed
    pub sound : DataTreeSound E image g kids
    pub says : s ≡ joined (block_bytes image) kids

  tree_of : tree_content E image offset g ≡ bytes s → Tree
  tree_of e = by_shape (shape_fits E.tree g) refl
    where
      by_sum : (bs : List Listed) → shape_fits E.tree g ≡ true → kids_of E image (numbers_in E.tree g) ≡ all bs → (b : Bool) → eqb (total bs) (field g 4 4) ≡ b → Tree
      by_sum bs ok k true q =
          let shape = shape_of E.tree g ok in
          let sum = eqb-true (total bs) (field g 4 4) q in
          record {
            kids = bs;
            sound =
                record {
                  first = (eqb-true _ _ shape.first.0, eqb-true _ _ shape.first.1);
                  count = (shape.some, shape.few);
                  size = shape.size;
                  outer = outer_of (numbers_in E.tree g) shape.outer;
                  listed = listing_of E image (numbers_in E.tree g) bs k;
                  sum = sum;
                };
            says = same_bytes _ s _ e (tree_bytes E image offset g ok bs k sum);
          }
      by_sum bs ok k false q = absurd (no_bytes _ _ s (tree_other_sum E image offset g ok bs k (eqb-false (total bs) (field g 4 4) q)) e)

      by_kids : shape_fits E.tree g ≡ true → (k : Kids) → kids_of E image (numbers_in E.tree g) ≡ k → Tree
      by_kids ok (all bs) k = by_sum bs ok k (eqb (total bs) (field g 4 4)) refl
      by_kids ok (fault r) k = absurd (no_bytes _ _ s (tree_fault E image offset g ok r k) e)

      by_shape : (b : Bool) → shape_fits E.tree g ≡ b → Tree
      by_shape true ok = by_kids ok (kids_of E image (numbers_in E.tree g)) refl
      by_shape false no-shape = absurd (no_bytes _ _ s (tree_shapeless E image offset g no-shape) e)

  of_tree : Tree → tree_content E image offset g ≡ bytes s
  of_tree t =
      tree_bytes E image offset g (shape_fits_lem E image g t.kids t.sound) t.kids (of_listing E image (numbers_in E.tree g) t.kids t.sound.listed) t.sound.sum
      ∙ ap bytes (sym t.says)

module _ (E : Edition) (image : List ℕ) (b : Listed) where
  hands_of : (s : List ℕ) → block_content E image b ≡ bytes s → Hands E image b s
  hands_of s e = by (internal b.block) refl
    where
      by : (i : Bool) → internal b.block ≡ i → Hands E image b s
      by true i =
          let t = tree_of E image b.offset (part image b.offset b.size) s (sym (block_tree E image b i) ∙ e) in
          subst (Hands E image b) (sym t.says) (children i t.sound)
      by false i = subst (Hands E image b) (same_bytes _ _ s (block_own E image b i) e) (own i)

  of_hands : (s : List ℕ) → Hands E image b s → block_content E image b ≡ bytes s
  of_hands s (own i) = block_own E image b i
  of_hands s (children {bs} i t) =
      block_tree E image b i
      ∙ of_tree E image b.offset (part image b.offset b.size) (joined (block_bytes image) bs) (record { kids = bs; sound = t; says = refl })

-- what a node's data is, exactly: the concatenation of the decoded bytes of the blocks that it names, in order
named_of : (E : Edition) (image : List ℕ) (number : ℕ) (s : List ℕ) → node_content E image number ≡ bytes s → Named E image number s
named_of E image number s e = by_node (node_of E.nodes image number) refl
  where
    by_checked : (n : Node) (pages : ℕ) → node_of E.nodes image number ≡ Ok (Entry n pages) → (cleared n.block ≡ 0 → ⊥) → data_of E image n.block ≡ bytes s
        → (c : Result Listed Refusal) → checked_block E image n.block ≡ c → Named E image number s
    by_checked n pages f z d (Ok b) k = something f z k (hands_of E image b s (sym (data_block E image n.block b z k) ∙ d))
    by_checked n pages f z d (Err r) k = absurd (no_bytes _ _ s (data_refused E image n.block r z k) d)

    by_number : (n : Node) (pages : ℕ) → node_of E.nodes image number ≡ Ok (Entry n pages) → data_of E image n.block ≡ bytes s → (z : Bool) → eqb (cleared n.block) 0 ≡ z → Named E image number s
    by_number n pages f d true z =
        subst (Named E image number) (same_bytes _ [] s (data_none E image n.block (eqb-true _ 0 z)) d) (nothing f (eqb-true _ 0 z))
    by_number n pages f d false z = by_checked n pages f (eqb-false _ 0 z) d (checked_block E image n.block) refl

    by_node : (f : Result (Found Node) Refusal) → node_of E.nodes image number ≡ f → Named E image number s
    by_node (Ok (Entry n pages)) f = by_number n pages f (sym (node_found E image number n pages f) ∙ e) (eqb (cleared n.block) 0) refl
    by_node (Ok (Absent pages)) f = absurd (not_absent _ s (node_absent E image number pages f) e)
    by_node (Err r) f = absurd (no_bytes _ r s (node_refused E image number r f) e)

of_named : (E : Edition) (image : List ℕ) (number : ℕ) (s : List ℕ) → Named E image number s → node_content E image number ≡ bytes s
of_named E image number s (nothing {n} {pages} f z) = node_found E image number n pages f ∙ data_none E image n.block z
of_named E image number s (something {n} {pages} {b} f z k h) =
    node_found E image number n pages f ∙ data_block E image n.block b z k ∙ of_hands E image b s h

pub node_exactly : (E : Edition) (image : List ℕ) (number : ℕ) (s : List ℕ) → (node_content E image number ≡ bytes s) ↔ Named E image number s
node_exactly E image number s = (named_of E image number s, of_named E image number s)
