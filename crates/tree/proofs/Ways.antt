-- The way down of a lookup, one page at a time. Assumes nothing.
use Prim.Native.Nat.{ℕ, zero, suc, ◌+◌, ◌-◌}
use mathlib.Core.Path.{◌≡◌, refl, sym, ap, ◌∙◌, subst}
use mathlib.Core.Bool.{true}
use mathlib.Core.List.{List, [], ◌∷◌}
use native.Mathlib.Omega.{arith}
use Rattle.refusal.specs.declared.Refusal.{Refusal}
use Rattle.refusal.proofs.OrderLaws.{goes, ends, then_left, then_right}
use Rattle.keys.specs.declared.Sought.TheVariants.{Equal}
use Rattle.keys.specs.Plain.{Inside}
use Rattle.keys.proofs.Climbs.{in_range_lem}
use Rattle.search.specs.SearchTree.{test, children}
use Rattle.search.specs.Answer.{refused, counted}
use Rattle.search.specs.Descent.{picked, descend}
use Rattle.search.proofs.Searched.{counted_answer}
use Rattle.search.proofs.Steps.{counted_none, counted_more, step_refused, step_leaf, step_none, step_one}
use Rattle.search.proofs.Kept.{kept}
use Rattle.header.specs.Header.{header_fits}
use Rattle.edition.specs.declared.Layout.{Layout}
use Rattle.page.specs.declared.Link.{Link}
use Rattle.page.specs.Layout.{compared}
use Rattle.page.specs.Page.{page, level_of, page_fits}
use Rattle.tree.specs.Tree.{root, root_level, page_tree}
use Rattle.tree.specs.Lookup.{searched, lookup}
use Rattle.tree.specs.Answers.{found_as, shown, as_node, node_of}
use Rattle.tree.specs.Ways.{start_fits, at_end, Leading, FromRoot, leads_to}
use Rattle.tree.proofs.Walk.{test_is}
use Rattle.tree.proofs.Searched.{sorted}
use Rattle.std.specs.Prelude.{Result, Ok, Err}
use Rattle.refusal.specs.Order.{Verdict}
use Rattle.tree.specs.declared.Found.{Found}
use Rattle.tree.specs.declared.Found.TheVariants.{Absent, Entry}

module _ (L : Layout) (image : List ℕ) where
  -- from an accepted page, when n pages have been read before it
  module _ (n : ℕ) (p : Link) (ok : page_fits L image p ≡ Ok tt) where
    fits : (l : ℕ) → Ok tt ≡ test (page_tree L image) l p
    fits l = sym (test_is L image l p ∙ ok)

    pub end_leaf : (k l : ℕ) → l ≡ 0 → at_end L image (Ok (Entry p (n + 1))) k ≡ counted n (descend (page_tree L image) Equal k l p)
    unfolding at_end
    end_leaf k l h = sym (counted_answer n _ 1) ∙ ap (counted n) (sym (step_leaf (page_tree L image) Equal k p (Ok tt) l h (fits l) refl))

    pub leads_leaf : (l : ℕ) → l ≡ 0 → level_of L (page image p.offset) ≡ l → Leading L image l p n (Ok (Entry p (n + 1)))
    unfolding Leading
    leads_leaf l h e = record { accepted = ok; is_leaf = e ∙ h; within = λ k i. i; ends = λ k i. end_leaf k l h }

    module _ (l : ℕ) (h : l ≡ 0 → ⊥) where
      pub end_none : (k : ℕ) → picked (page_tree L image) Equal k (children (page_tree L image) (l - 1) p) ≡ []
          → at_end L image (Ok (Absent (n + 1))) k ≡ counted n (descend (page_tree L image) Equal k l p)
      unfolding at_end counted
      end_none k e = ap (counted n) (sym (step_none (page_tree L image) Equal k p (Ok tt) l h (fits l) refl e))

      -- the way goes on in this child
      module _ (c : Link) where
        pub end_one : (k : ℕ) → picked (page_tree L image) Equal k (children (page_tree L image) (l - 1) p) ≡ c ∷ []
            → counted (n + 1) (descend (page_tree L image) Equal k (l - 1) c) ≡ counted n (descend (page_tree L image) Equal k l p)
        end_one k e = counted_more n _ ∙ ap (counted n) (sym (step_one (page_tree L image) Equal k p (Ok tt) l c h (fits l) refl e))

        module _ (k : ℕ) (e : picked (page_tree L image) Equal k (children (page_tree L image) (l - 1) p) ≡ c ∷ []) where
          pub end_refused : (r : Refusal) → page_fits L image c ≡ Err r → at_end L image (Err r) k ≡ counted n (descend (page_tree L image) Equal k l p)
          unfolding at_end counted
          end_refused r q =
              ap (counted (n + 1)) (sym (step_refused (page_tree L image) Equal k c _ (l - 1) r (sym (test_is L image (l - 1) c)) q)) ∙ end_one k e

          same_child : (j : ℕ) → Inside c.range j → (picked (page_tree L image) Equal j (children (page_tree L image) (l - 1) p) ≡ c ∷ []) × Inside p.range j
          same_child j i = by l h e
            where
              by : (l : ℕ) → (l ≡ 0 → ⊥) → picked (page_tree L image) Equal k (children (page_tree L image) (l - 1) p) ≡ c ∷ []
                  → (picked (page_tree L image) Equal j (children (page_tree L image) (l - 1) p) ≡ c ∷ []) × Inside p.range j
              by zero h e = absurd (h refl)
              by (suc m) h e =
                  let less : suc m - 1 ≡ m = omega arith in
                  rw less (kept (page_tree L image) (sorted L image) m p c k j (sym (fits (suc m))) (rw less at e) i)

          pub leads_on : (w : Result (Found Link) Refusal) → Leading L image (l - 1) c (n + 1) w → Leading L image l p n w
          unfolding Leading
          leads_on (Ok (Entry leaf pages)) t =
              record {
                accepted = t.accepted;
                is_leaf = t.is_leaf;
                within = λ j i. (same_child j (t.within j i)).1;
                ends = λ j i. t.ends j i ∙ end_one j (same_child j (t.within j i)).0;
              }
          leads_on (Ok (Absent pages)) t = tt
          leads_on (Err r) t = tt

  -- from the root page, named otherwise
  pub leads_from_root : (p : Link) (l : ℕ) (w : Result (Found Link) Refusal) → p ≡ root L image → level_of L (page image p.offset) ≡ l → Leading L image l p 0 w → FromRoot L image w
  unfolding root_level
  leads_from_root p l w e h t =
      subst (λ (x : Link). Leading L image (level_of L (page image x.offset)) x 0 w) e (subst (λ (m : ℕ). Leading L image m p 0 w) (sym h) t)

  -- a way that ends in no leaf page leads to no key
  pub leads_nowhere : (l : ℕ) (p : Link) (n m : ℕ) → Leading L image l p n (Ok (Absent m))
  unfolding Leading
  leads_nowhere l p n m = tt

  pub leads_refused : (l : ℕ) (p : Link) (n : ℕ) (r : Refusal) → Leading L image l p n (Err r)
  unfolding Leading
  leads_refused l p n r = tt

  -- the root page, where the header is accepted
  pub start_on : header_fits image ≡ Ok tt → page_fits L image (root L image) ≡ start_fits L image
  unfolding start_fits
  start_on h = sym (goes Err _ _ h)

  pub start_refused : (v : Verdict) (r : Refusal) → v ≡ header_fits image → v ≡ Err r → v ≡ start_fits L image
  unfolding start_fits
  start_refused v r e q = q ∙ sym (ends Err _ _ r (sym e ∙ q))

  module _ (accepted : start_fits L image ≡ Ok tt) where
    pub start_header : header_fits image ≡ Ok tt
    unfolding start_fits
    start_header = then_left _ _ accepted

    pub start_root : page_fits L image (root L image) ≡ Ok tt
    unfolding start_fits
    start_root = then_right _ _ accepted

    -- a way that leads to the key ends as its lookup does
    pub way_again : (key : ℕ) (w : Result (Found Link) Refusal) → FromRoot L image w → leads_to w (compared L key) ≡ true → at_end L image w (compared L key) ≡ lookup L image key
    unfolding Leading leads_to searched
    way_again key (Ok (Entry leaf pages)) t e = t.ends _ (in_range_lem leaf.range _ e) ∙ counted_none _ ∙ sym (goes refused _ _ start_header)
    way_again key (Ok (Absent pages)) t e = cc
    way_again key (Err r) t e = cc

  -- what every lookup tests is refused: so is every lookup
  pub lookup_refused : (key : ℕ) (r : Refusal) → start_fits L image ≡ Err r → refused r ≡ lookup L image key
  unfolding start_fits searched
  lookup_refused key r q = by (header_fits image) refl
    where
      by : (v : Verdict) → header_fits image ≡ v → refused r ≡ lookup L image key
      by (Ok tt) h =
          sym
          (goes refused _ _ h
          ∙ step_refused (page_tree L image) Equal _ (root L image) _ (root_level L image) r (sym (test_is L image (root_level L image) (root L image))) (start_on h ∙ q))
      by (Err s) h =
          let met : Err s ≡ Err r = sym (ends Err _ _ s h) ∙ q in
          let same : s ≡ r = cc in
          sym (ends refused _ _ r (h ∙ ap Err same))

-- the same of a node
pub node_refused : (L : Layout) (image : List ℕ) (key : ℕ) (r : Refusal) → start_fits L image ≡ Err r → Err r ≡ node_of L image key
unfolding node_of shown found_as
node_refused L image key r q = ap (λ a. as_node (shown L a)) (lookup_refused L image key r q)
