-- The whole-tree check, one step at a time. Assumes nothing.
use Prim.Native.Nat.{ℕ, zero, suc, ◌+◌, ◌-◌, ◌≤◌}
use mathlib.Core.Path.{◌≡◌, refl, sym, ap, ◌∙◌}
use mathlib.Core.Bool.{Bool, true, false, ◌||◌}
use mathlib.Core.List.{List, [], ◌∷◌}
use native.Mathlib.Omega.{arith}
use lib.ListN.{length}
use borrow.Author.Tests.{leb-true}
use Rattle.refusal.specs.declared.Refusal.{Refusal}
use Rattle.refusal.specs.declared.Fault.TheVariants.{PageOffset}
use Rattle.refusal.specs.Order.{Verdict, ◌at◌, ◌then◌}
use Rattle.refusal.proofs.OrderLaws.{goes, ends, in_order_append}
use Rattle.keys.specs.Records.{records_from}
use Rattle.keys.specs.Range.{end_of}
use Rattle.search.specs.SearchTree.{offspring, test, rules_under, check_under, each}
use Rattle.search.proofs.Checked.{each_none, each_more, under_leaf, under_index, under_refused}
use Rattle.search.proofs.Born.{Born, of_born}
use Rattle.header.specs.Header.{header_rules, header_fits}
use Rattle.edition.specs.declared.Layout.{Layout}
use Rattle.page.specs.declared.Level.TheVariants.{Exactly}
use Rattle.page.specs.declared.Link.{Link}
use Rattle.page.specs.Layout.{shape}
use Rattle.page.specs.Page.{page, count_of, level_of, key_in, offset_fits, level_fits, may_be_empty, counts_fit, page_fits}
use Rattle.header.proofs.HeaderLaws.{header_rules_lem}
use Rattle.page.proofs.PageLaws.{counts_of, level_wanted, child_filled, page_rules_lem, all_of_page, page_offset, page_counts, page_ends}
use Rattle.tree.specs.Tree.{root, root_level, link_of, page_tree, tree_rules, tree_fits}
use Rattle.tree.specs.Answers.{kids_from, next_of}
use Rattle.tree.proofs.Children.{all_kids}
use Rattle.std.specs.Prelude.{Some, None, Ok, Err}

or_false : (a b : Bool) → b ≡ false → (a || b) ≡ true → a ≡ true
or_false true b e h = refl
or_false false b e h = cc

-- what an accepted page tells
module _ (L : Layout) (image : List ℕ) (p : Link) (ok : page_fits L image p ≡ Ok tt) where
  pub accepted_inside : p.offset + 512 ≤ length image
  accepted_inside = page_offset L image p (all_of_page L image p ok)

  pub accepted_counts : counts_fit L p (page image p.offset) ≡ true
  accepted_counts = page_counts L image p (all_of_page L image p ok)

  -- it has the level that its reference asks for
  pub accepted_level : (l : ℕ) → p.level ≡ Exactly l → level_of L (page image p.offset) ≡ l
  accepted_level l e =
      level_wanted l _ (sym (ap (λ w. level_fits w (level_of L (page image p.offset))) e) ∙ (counts_of L p (page image p.offset) accepted_counts).level)

  -- and an entry, where it is not the root
  pub some_entry : (l : ℕ) → p.level ≡ Exactly l → 1 ≤ count_of L (page image p.offset)
  some_entry l e =
      let g = page image p.offset in
      leb-true 1 (count_of L g) (or_false _ _ (ap (λ w. may_be_empty w (level_of L g)) e ∙ child_filled l (level_of L g)) (counts_of L p g accepted_counts).some)

-- the test of a page, whatever its level
pub test_is : (L : Layout) (image : List ℕ) (l : ℕ) (p : Link) → test (page_tree L image) l p ≡ page_fits L image p
unfolding test
test_is L image l p = sym (page_rules_lem L image p)

-- a child has the level below
pub born_level : (L : Layout) (image : List ℕ) (l : ℕ) (c : Link) → Born (page_tree L image) l c → c.level ≡ Exactly l
unfolding link_of
born_level L image l c b = of_born (page_tree L image) l (λ d. d.level ≡ Exactly l) (λ r e. refl) c b

pub next_level : (L : Layout) (image : List ℕ) (l : ℕ) (p c : Link) (i : ℕ) → next_of (kids_from L image l p i) ≡ Some c
    → page_fits L image c ≡ Ok tt → level_of L (page image c.offset) ≡ l
unfolding kids_from offspring link_of next_of
next_level L image l p c i e ok = accepted_level L image c ok l (by (records_from (shape L (level_of L (page image p.offset))) (count_of L (page image p.offset)) (page image p.offset) i) e)
  where
    by : (es : List (List ℕ)) → next_of (offspring (key_in L) (link_of L l) p.range.to es) ≡ Some c → c.level ≡ Exactly l
    by [] e = let clash : ◌≡◌ {A = ℕ} 0 1 = cc in absurd (omega arith)
    by (x ∷ xs) e = let same : c ≡ link_of L l (record { from = key_in L x; to = end_of (key_in L) p.range.to xs }) x = cc in ap (λ (z : Link). z.level) same

-- a check of each of these children
module _ (L : Layout) (image : List ℕ) (l : ℕ) where
  pub walk_none : (cs : List Link) → next_of cs ≡ None → Ok tt ≡ each (page_tree L image) l cs
  unfolding next_of
  walk_none [] e = sym (each_none (page_tree L image) l)
  walk_none (x ∷ xs) e = cc

  module _ (cs rest : List Link) (c : Link) (e : cs ≡ c ∷ rest) where
    parts : each (page_tree L image) l cs ≡ (check_under (page_tree L image) l c then each (page_tree L image) l rest)
    parts = ap (each (page_tree L image) l) e ∙ each_more (page_tree L image) l c rest

    pub walk_refused : (r : Refusal) → Err r ≡ check_under (page_tree L image) l c → Err r ≡ each (page_tree L image) l cs
    walk_refused r q = sym (parts ∙ ends Err _ _ r (sym q))

    pub walk_on : Ok tt ≡ check_under (page_tree L image) l c → each (page_tree L image) l rest ≡ each (page_tree L image) l cs
    walk_on q = sym (parts ∙ goes Err _ _ (sym q))

-- a page, and everything under it
module _ (L : Layout) (image : List ℕ) (l : ℕ) (p : Link) where
  pub page_refused : (r : Refusal) → Err r ≡ page_fits L image p → Err r ≡ check_under (page_tree L image) l p
  page_refused r e = sym (under_refused (page_tree L image) l p r (test_is L image l p ∙ sym e))

  -- nothing stands under a leaf page
  pub page_alone : (v : Verdict) → v ≡ page_fits L image p → l ≡ 0 → v ≡ check_under (page_tree L image) l p
  page_alone v e h = rw h (e ∙ sym (under_leaf (page_tree L image) p ∙ test_is L image 0 p))

  pub page_index : (l ≡ 0 → ⊥) → Ok tt ≡ page_fits L image p → each (page_tree L image) (l - 1) (kids_from L image (l - 1) p 0) ≡ check_under (page_tree L image) l p
  page_index h ok = by l h
    where
      by : (l : ℕ) → (l ≡ 0 → ⊥) → each (page_tree L image) (l - 1) (kids_from L image (l - 1) p 0) ≡ check_under (page_tree L image) l p
      by zero h = absurd (h refl)
      by (suc l) h =
          let w : suc l - 1 ≡ l = omega arith in
          rw (w, all_kids L image l p) (sym (under_index (page_tree L image) l p ∙ goes Err _ _ (test_is L image (suc l) p ∙ sym ok)))

-- where a page's offset is not allowed, its level plays no part
module _ (L : Layout) (image : List ℕ) (p : Link) where
  pub accepted_offset : page_fits L image p ≡ Ok tt → offset_fits image p.offset ≡ true
  accepted_offset ok = by (offset_fits image p.offset) refl
    where
      by : (b : Bool) → offset_fits image p.offset ≡ b → b ≡ true
      by true e = refl
      by false e = let w = page_ends L image p e in cc

  refuses : offset_fits image p.offset ≡ false → (l : ℕ) → check_under (page_tree L image) l p ≡ Err (PageOffset at p.offset)
  refuses h l = under_refused (page_tree L image) l p _ (test_is L image l p ∙ sym (page_ends L image p h))

  under_any : (l m : ℕ) → (offset_fits image p.offset ≡ true → l ≡ m) → check_under (page_tree L image) l p ≡ check_under (page_tree L image) m p
  under_any l m f = by (offset_fits image p.offset) refl
    where
      by : (b : Bool) → offset_fits image p.offset ≡ b → check_under (page_tree L image) l p ≡ check_under (page_tree L image) m p
      by true e = ap (λ n. check_under (page_tree L image) n p) (f e)
      by false e = refuses e l ∙ sym (refuses e m)

-- the header, and then the tree from its root
pub tree_parts : (L : Layout) (image : List ℕ) → tree_fits L image ≡ (header_fits image then check_under (page_tree L image) (root_level L image) (root L image))
unfolding tree_fits tree_rules check_under
tree_parts L image = rw (header_rules_lem image) (in_order_append (header_rules image) (rules_under (page_tree L image) (root_level L image) (root L image)))

module _ (L : Layout) (image : List ℕ) where
  pub tree_refused : (r : Refusal) → Err r ≡ header_fits image → Err r ≡ tree_fits L image
  tree_refused r e = sym (tree_parts L image ∙ ends Err _ _ r (sym e))

  pub tree_on_lem : (p : Link) (l : ℕ) → Ok tt ≡ header_fits image → p ≡ root L image
      → (offset_fits image p.offset ≡ true → l ≡ level_of L (page image p.offset)) → check_under (page_tree L image) l p ≡ tree_fits L image
  unfolding root_level
  tree_on_lem p l ok e f =
      under_any L image p l (level_of L (page image p.offset)) f
      ∙ ap (λ (x : Link). check_under (page_tree L image) (level_of L (page image x.offset)) x) e
      ∙ sym (tree_parts L image ∙ goes Err _ _ (sym ok))
