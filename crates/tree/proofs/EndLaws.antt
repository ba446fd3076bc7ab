-- The checks, lookups and listings of a tree answer alike in images that are alike to the file's end. Assumes nothing.
use Prim.Native.Nat.{ℕ}
use mathlib.Core.Path.{◌≡◌, refl, sym, ap, ap₂, ◌∙◌}
use mathlib.Core.List.{List}
use Rattle.refusal.specs.declared.Refusal.{Refusal}
use Rattle.refusal.specs.Order.{Verdict, after, ◌then◌, FirstFault}
use Rattle.refusal.proofs.OrderLaws.{fault_left}
use Rattle.keys.specs.declared.Sought.{Sought}
use Rattle.keys.specs.declared.Sought.TheVariants.{Equal, AtLeast}
use Rattle.search.specs.SearchTree.{check_under}
use Rattle.search.specs.Answer.{Answer, refused}
use Rattle.search.specs.Descent.{descend}
use Rattle.search.proofs.Checked.{under_refused}
use Rattle.search.proofs.Steps.{step_refused}
use Rattle.search.proofs.OffPath.{check_same, search_same}
use Rattle.header.specs.Header.{header_rules}
use Rattle.header.specs.End.{AlikeToEnd}
use Rattle.header.proofs.EndLaws.{header_alike}
use Rattle.edition.specs.declared.Layout.{Layout}
use Rattle.page.specs.declared.Link.{Link}
use Rattle.edition.specs.Fair.{FairLayout}
use Rattle.page.specs.Page.{page, level_of, entries, key_in, page_rules, page_fits}
use Rattle.page.proofs.PageLaws.{page_rules_lem}
use Rattle.page.proofs.EndLaws.{page_alike, page_same}
use Rattle.tree.specs.Tree.{root, root_level, link_of, page_tree, tree_rules, tree_fits}
use Rattle.tree.specs.Lookup.{asked_for, searched, search_rules}
use Rattle.tree.specs.Answers.{shown, as_node, node_of, as_block, block_of, next_node_of, next_block_of}
use Rattle.tree.proofs.Walk.{test_is, tree_parts}
use Rattle.tree.proofs.OffPath.{Alike, root_same}
use Rattle.std.specs.Prelude.{Ok, Err}

module _ (L : Layout) (one other : List ℕ) (alike : AlikeToEnd one other) where
  all_alike : (p : Link) → Alike L one other p
  all_alike p =
      record {
        tested = λ l. sym (page_rules_lem L one p) ∙ page_alike L one other alike p ∙ page_rules_lem L other p;
        kept = λ l t. ap (entries L) (page_same L one other alike p (page_rules_lem L one p ∙ t));
      }

  -- from a page that is accepted, or else refused at whatever level it stands
  from_page : {A : Type 0} (go : List ℕ → ℕ → Link → A) → ((l : ℕ) (p : Link) → go one l p ≡ go other l p)
      → ((l m : ℕ) (p : Link) (r : Refusal) → page_fits L other p ≡ Err r → go other l p ≡ go other m p) → (p : Link)
      → go one (level_of L (page one p.offset)) p ≡ go other (level_of L (page other p.offset)) p
  from_page go same ended p = same (level_of L (page one p.offset)) p ∙ by (page_fits L one p) refl
    where
      by : (v : Verdict) → page_fits L one p ≡ v → go other (level_of L (page one p.offset)) p ≡ go other (level_of L (page other p.offset)) p
      by (Ok tt) t = ap (λ (g : List ℕ). go other (level_of L g) p) (page_same L one other alike p t)
      by (Err r) t = ended _ _ p r (sym (page_alike L one other alike p) ∙ t)

  module _ (fair : FairLayout L) where
    -- from the root page on
    from_root_lem : {A : Type 0} (go : List ℕ → ℕ → Link → A) → ((l : ℕ) (p : Link) → go one l p ≡ go other l p)
        → ((l m : ℕ) (p : Link) (r : Refusal) → page_fits L other p ≡ Err r → go other l p ≡ go other m p)
        → go one (root_level L one) (root L one) ≡ go other (root_level L other) (root L other)
    unfolding root_level
    from_root_lem go same ended =
        from_page go same ended (root L one)
        ∙ ap (λ (p : Link). go other (level_of L (page other p.offset)) p) (root_same L one other fair alike.header)

    pub search_alike : (s : Sought) (key : ℕ) → searched s L one key ≡ searched s L other key
    unfolding searched
    search_alike s key =
        ap₂ (λ (v : Verdict) (a : Answer (List ℕ)). after refused v a) (header_alike one other alike)
        (from_root_lem (λ image l p. descend (page_tree L image) s (asked_for s L key) l p)
        (search_same (key_in L) (λ p. p.range) (λ l range e. link_of L l range e) (λ l p. page_rules L one p) (λ l p. page_rules L other p)
        (λ l p. entries L (page one p.offset)) (λ l p. entries L (page other p.offset)) s (asked_for s L key) all_alike)
        (λ l m p r t. ended l p r t ∙ sym (ended m p r t)))
      where
        ended : (l : ℕ) (p : Link) (r : Refusal) → page_fits L other p ≡ Err r → descend (page_tree L other) s (asked_for s L key) l p ≡ refused r
        ended l p r t = step_refused (page_tree L other) s (asked_for s L key) p (page_fits L other p) l r (sym (test_is L other l p)) t

    pub check_alike : tree_fits L one ≡ tree_fits L other
    check_alike =
        tree_parts L one
        ∙ ap₂ (λ (v w : Verdict). v then w) (header_alike one other alike)
        (from_root_lem (λ image l p. check_under (page_tree L image) l p)
        (check_same (key_in L) (λ p. p.range) (λ l range e. link_of L l range e) (λ l p. page_rules L one p) (λ l p. page_rules L other p)
        (λ l p. entries L (page one p.offset)) (λ l p. entries L (page other p.offset)) all_alike)
        (λ l m p r t. ended l p r t ∙ sym (ended m p r t)))
        ∙ sym (tree_parts L other)
      where
        ended : (l : ℕ) (p : Link) (r : Refusal) → page_fits L other p ≡ Err r → check_under (page_tree L other) l p ≡ Err r
        ended l p r t = under_refused (page_tree L other) l p r (test_is L other l p ∙ t)

-- what lookups and listings hand out
module _ (L : Layout) (fair : FairLayout L) (one other : List ℕ) (alike : AlikeToEnd one other) (key : ℕ) where
  pub node_alike : node_of L one key ≡ node_of L other key
  unfolding node_of
  node_alike = ap (λ (a : Answer (List ℕ)). as_node (shown L a)) (search_alike L one other alike fair Equal key)

  pub block_alike : block_of L one key ≡ block_of L other key
  unfolding block_of
  block_alike = ap (λ (a : Answer (List ℕ)). as_block (shown L a)) (search_alike L one other alike fair Equal key)

  pub next_node_alike : next_node_of L one key ≡ next_node_of L other key
  unfolding next_node_of
  next_node_alike = ap (λ (a : Answer (List ℕ)). as_node (shown L a)) (search_alike L one other alike fair AtLeast key)

  pub next_block_alike : next_block_of L one key ≡ next_block_of L other key
  unfolding next_block_of
  next_block_alike = ap (λ (a : Answer (List ℕ)). as_block (shown L a)) (search_alike L one other alike fair AtLeast key)

-- what the header is refused with, each call is refused with
module _ (L : Layout) (image : List ℕ) (r : Refusal) (first : FirstFault (header_rules image) r) where
  pub search_first : (s : Sought) (key : ℕ) → FirstFault (search_rules s L image key) r
  unfolding search_rules
  search_first s key = fault_left (header_rules image) _ r first

  pub check_first : FirstFault (tree_rules L image) r
  unfolding tree_rules
  check_first = fault_left (header_rules image) _ r first
