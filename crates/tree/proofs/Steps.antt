-- The lookup and the listing, one page at a time. Assumes nothing.
use Prim.Native.Nat.{ℕ, ◌+◌, ◌-◌}
use mathlib.Core.Path.{◌≡◌, refl, sym, ap, ◌∙◌, subst}
use mathlib.Core.Bool.{Bool, true, false}
use mathlib.Core.List.{List, [], ◌∷◌}
use native.Mathlib.Omega.{arith}
use Rattle.refusal.specs.declared.Refusal.{Refusal}
use Rattle.refusal.proofs.OrderLaws.{goes, ends}
use Rattle.keys.specs.declared.Sought.{Sought}
use Rattle.keys.specs.declared.Sought.TheVariants.{Equal}
use Rattle.keys.specs.Plain.{All}
use Rattle.keys.specs.Search.{scanned}
use Rattle.search.specs.SearchTree.{test, children}
use Rattle.search.specs.Answer.{refused, answer, counted, in_turn}
use Rattle.search.specs.Descent.{picked, descend}
use Rattle.search.proofs.Searched.{Single, nobody, somebody, single, all_from_seat, counted_answer}
use Rattle.search.proofs.Steps.{counted_none, step_refused, step_leaf, step_index, step_none}
use Rattle.search.proofs.Born.{Born, children_born}
use Rattle.header.specs.Header.{header_fits}
use Rattle.edition.specs.declared.Layout.{Layout}
use Rattle.page.specs.declared.Link.{Link}
use Rattle.page.specs.Layout.{compared}
use Rattle.page.specs.Page.{page, level_of, entries, key_in, offset_fits, page_fits}
use Rattle.page.proofs.PageLaws.{page_ends}
use Rattle.tree.specs.declared.Node.{Node}
use Rattle.tree.specs.Tree.{root, root_level, page_tree}
use Rattle.tree.specs.Lookup.{asked_for, searched}
use Rattle.tree.specs.Answers.{found_as, fields_of, shown, as_node, node_of, next_of}
use Rattle.tree.proofs.Walk.{accepted_level, test_is, born_level}
use Rattle.std.specs.Prelude.{Some, None, Ok, Err, Option}
use Rattle.refusal.specs.Order.{Verdict}
use Rattle.tree.specs.declared.Found.TheVariants.{Absent, Entry}

-- what was chosen, by the child or none that is handed on
pub next_missing : (cs : List Link) → next_of cs ≡ None → cs ≡ []
unfolding next_of
next_missing [] e = refl
next_missing (c ∷ cs) e = cc

only : (cs : List Link) (c : Link) → Single cs → next_of cs ≡ Some c → cs ≡ c ∷ []
unfolding next_of
only [] c nobody e = cc
only (d ∷ []) c somebody e = let same : d ≡ c = cc in ap (λ (x : Link). x ∷ []) same
only (d ∷ (_ ∷ _)) c h e = elim h [ ]

pub next_chosen : (L : Layout) (image : List ℕ) (k : ℕ) (cs : List Link) (c : Link) → next_of (picked (page_tree L image) Equal k cs) ≡ Some c → picked (page_tree L image) Equal k cs ≡ c ∷ []
next_chosen L image k cs c e = only (picked (page_tree L image) Equal k cs) c (single _ cs) e

-- what is shown of the answer at a leaf page
pub leaf_none : (L : Layout) (o : Option (List ℕ)) (n : ℕ) → o ≡ None → Ok (Absent n) ≡ shown L (answer o n)
unfolding shown answer
leaf_none L o n e = rw e

pub leaf_some : (L : Layout) (o : Option (List ℕ)) (n : ℕ) (e : List ℕ) → o ≡ Some e → Ok (Entry (fields_of L e) n) ≡ shown L (answer o n)
unfolding shown answer
leaf_some L o n e h = rw h

module _ (L : Layout) (image : List ℕ) (s : Sought) where
  -- a page of the way, when n pages have been read
  module _ (k n : ℕ) (p : Link) where
    tested : (v : Verdict) → v ≡ page_fits L image p → (l : ℕ) → v ≡ test (page_tree L image) l p
    tested v e l = e ∙ sym (test_is L image l p)

    pub way_refused : (l : ℕ) (r : Refusal) → Err r ≡ page_fits L image p → Err r ≡ shown L (counted n (descend (page_tree L image) s k l p))
    unfolding counted shown
    way_refused l r e = ap (λ a. shown L (counted n a)) (sym (step_refused (page_tree L image) s k p (Err r) l r (tested (Err r) e l) refl))

    pub way_leaf : (l : ℕ) → l ≡ 0 → Ok tt ≡ page_fits L image p
        → shown L (answer (scanned s (key_in L) k (entries L (page image p.offset))) (n + 1)) ≡ shown L (counted n (descend (page_tree L image) s k l p))
    way_leaf l h ok =
        ap (shown L) (sym (counted_answer n (scanned s (key_in L) k (entries L (page image p.offset))) 1) ∙ ap (counted n) (sym (step_leaf (page_tree L image) s k p (Ok tt) l h (tested (Ok tt) ok l) refl)))

    module _ (l : ℕ) (h : l ≡ 0 → ⊥) (ok : Ok tt ≡ page_fits L image p) where
      pub way_index : (cs : List Link) → picked (page_tree L image) s k (children (page_tree L image) (l - 1) p) ≡ cs
          → counted n (counted 1 (in_turn (λ c. descend (page_tree L image) s k (l - 1) c) cs)) ≡ counted n (descend (page_tree L image) s k l p)
      way_index cs e = ap (counted n) (sym (step_index (page_tree L image) s k p (Ok tt) l cs h (tested (Ok tt) ok l) refl e))

      pub way_none : picked (page_tree L image) s k (children (page_tree L image) (l - 1) p) ≡ [] → Ok (Absent (n + 1)) ≡ shown L (counted n (descend (page_tree L image) s k l p))
      unfolding counted shown
      way_none e = ap (λ a. shown L (counted n a)) (sym (step_none (page_tree L image) s k p (Ok tt) l h (tested (Ok tt) ok l) refl e))

  -- where an offset is not allowed, the level plays no part
  any_level : (k : ℕ) (p : Link) (l m : ℕ) → (offset_fits image p.offset ≡ true → l ≡ m) → descend (page_tree L image) s k l p ≡ descend (page_tree L image) s k m p
  any_level k p l m f = by (offset_fits image p.offset) refl
    where
      by : (b : Bool) → offset_fits image p.offset ≡ b → descend (page_tree L image) s k l p ≡ descend (page_tree L image) s k m p
      by true e = ap (λ n. descend (page_tree L image) s k n p) (f e)
      by false e =
          let out = page_ends L image p e in
          step_refused (page_tree L image) s k p _ l _ (out ∙ sym (test_is L image l p)) refl
          ∙ sym (step_refused (page_tree L image) s k p _ m _ (out ∙ sym (test_is L image m p)) refl)

  -- the header, and then the way from the root
  module _ (key : ℕ) where
    pub root_refused : (r : Refusal) → Err r ≡ header_fits image → refused r ≡ searched s L image key
    unfolding searched
    root_refused r e = sym (ends refused _ _ r (sym e))

    pub root_on : (p : Link) (l k : ℕ) → Ok tt ≡ header_fits image → p ≡ root L image → k ≡ asked_for s L key
        → (offset_fits image p.offset ≡ true → l ≡ level_of L (page image p.offset)) → counted 0 (descend (page_tree L image) s k l p) ≡ searched s L image key
    unfolding root_level searched
    root_on p l k ok e h f =
        counted_none (descend (page_tree L image) s k l p)
        ∙ any_level k p l (level_of L (page image p.offset)) f
        ∙ ap (λ (x : Link). descend (page_tree L image) s k (level_of L (page image x.offset)) x) e
        ∙ ap (λ (m : ℕ). descend (page_tree L image) s m (level_of L (page image (root L image).offset)) (root L image)) h
        ∙ sym (goes refused _ _ (sym ok))

-- the chosen child has the level below
pub chosen_level : (L : Layout) (image : List ℕ) (k l : ℕ) (p c : Link) → picked (page_tree L image) Equal k (children (page_tree L image) l p) ≡ c ∷ []
    → page_fits L image c ≡ Ok tt → level_of L (page image c.offset) ≡ l
chosen_level L image k l p c e ok =
    let kids = children (page_tree L image) l p in
    let all : All (Born (page_tree L image) l) (c ∷ []) = subst (All (Born (page_tree L image) l)) e (all_from_seat (Born (page_tree L image) l) Equal _ kids (children_born (page_tree L image) l p)) in
    accepted_level L image c ok l (born_level L image l c all.0)

-- a node is found only where the header is accepted
pub node_header : (L : Layout) (image : List ℕ) (key : ℕ) (d : Node) (n : ℕ) → node_of L image key ≡ Ok (Entry d n) → header_fits image ≡ Ok tt
unfolding node_of searched found_as shown
node_header L image key d n e = by (header_fits image) refl
  where
    by : (v : Verdict) → header_fits image ≡ v → v ≡ Ok tt
    by (Ok tt) v = refl
    by (Err r) v =
        let other = ap (λ a. as_node (shown L a)) (ends refused _ (descend (page_tree L image) Equal (compared L key) (root_level L image) (root L image)) r v) in
        let clash : ◌≡◌ {A = ℕ} 0 1 = cc in
        absurd (omega arith)
