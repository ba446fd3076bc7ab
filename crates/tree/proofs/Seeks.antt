-- A listing at an index page: the child where it starts, and the one behind it. Assumes nothing.
use Prim.Native.Nat.{ℕ, suc, ◌+◌, ◌-◌, ◌≤◌}
use mathlib.Core.Path.{◌≡◌, refl, sym, ap, ◌∙◌}
use mathlib.Core.List.{List, [], ◌∷◌, map}
use native.Mathlib.Nat.{add-zero}
use native.Mathlib.Omega.{arith}
use Rattle.keys.specs.declared.Sought.TheVariants.{AtLeast}
use Rattle.keys.specs.Search.{last_at_most, start}
use Rattle.search.specs.SearchTree.{children}
use Rattle.search.specs.Answer.{Answer, found, absent, refused, counted, or_next, in_turn}
use Rattle.search.specs.Descent.{picked, descend}
use Rattle.search.proofs.Few.{answer_ends, behind_direct}
use Rattle.edition.specs.declared.Layout.{Layout}
use Rattle.page.specs.declared.Link.{Link}
use Rattle.page.specs.Page.{page, entries, key_in, page_fits}
use Rattle.tree.specs.Tree.{page_tree}
use Rattle.tree.specs.Answers.{shown, kids_from, next_of}
use Rattle.tree.proofs.Children.{more, starting_from}
use Rattle.tree.proofs.Walk.{test_is}
use Rattle.tree.proofs.Searched.{sorted, filled}
use Rattle.tree.proofs.Steps.{next_missing, way_index, way_none}
use Rattle.std.specs.Prelude.{Some, None, Result, Ok, Err}
use Rattle.refusal.specs.declared.Refusal.{Refusal}
use Rattle.tree.specs.declared.Fields.{Fields}
use Rattle.tree.specs.declared.Found.{Found}
use Rattle.tree.specs.declared.Found.TheVariants.{Absent}

-- an answer after one page, and after those that answered absent
counted_sum : (n m : ℕ) (a : Answer (List ℕ)) → counted (n + 1 + m) a ≡ counted n (counted 1 (counted m a))
unfolding counted
counted_sum n m (found e j) = let q : n + 1 + m + j ≡ n + (1 + (m + j)) = omega arith in ap (found e) q
counted_sum n m (absent j) = let q : n + 1 + m + j ≡ n + (1 + (m + j)) = omega arith in ap absent q
counted_sum n m (refused r) = refl

-- what is handed on after the first child's answer a, when n pages and this one had been read
module _ (L : Layout) (n : ℕ) (a : Answer (List ℕ)) where
  module _ (m : ℕ) (nothing : Ok (Absent m) ≡ shown L (counted (n + 1) a)) where
    pub absent_pages : (l : ℕ) → ((j : ℕ) → a ≡ absent j → j ≤ l + 1) → m ≤ n + 1 + (l + 1)
    unfolding shown counted
    absent_pages l b = by a nothing b
      where
        by : (x : Answer (List ℕ)) → Ok (Absent m) ≡ shown L (counted (n + 1) x) → ((j : ℕ) → x ≡ absent j → j ≤ l + 1) → m ≤ n + 1 + (l + 1)
        by (found y j) q b = let clash : ◌≡◌ {A = ℕ} 0 1 = cc in absurd (omega arith)
        by (absent j) q b = let same : m ≡ n + 1 + j = cc in omega (arith, b j refl)
        by (refused r) q b = let clash : ◌≡◌ {A = ℕ} 0 1 = cc in absurd (omega arith)

    pub absent_goes : (later : Answer (List ℕ)) → counted m later ≡ counted n (counted 1 (or_next a later))
    unfolding shown counted or_next
    absent_goes later = by a nothing
      where
        by : (x : Answer (List ℕ)) → Ok (Absent m) ≡ shown L (counted (n + 1) x) → counted m later ≡ counted n (counted 1 (or_next x later))
        by (found y j) q = let clash : ◌≡◌ {A = ℕ} 0 1 = cc in absurd (omega arith)
        by (absent j) q = let same : m ≡ n + 1 + j = cc in ap (λ (w : ℕ). counted w later) same ∙ counted_sum n j later
        by (refused r) q = let clash : ◌≡◌ {A = ℕ} 0 1 = cc in absurd (omega arith)

  pub present_ends : (f : Result (Found Fields) Refusal) (later : Answer (List ℕ)) → f ≡ shown L (counted (n + 1) a) → ((m : ℕ) → f ≡ Ok (Absent m) → ⊥)
      → f ≡ shown L (counted n (counted 1 (or_next a later)))
  unfolding shown counted or_next
  present_ends f later e h = by a e
    where
      by : (x : Answer (List ℕ)) → f ≡ shown L (counted (n + 1) x) → f ≡ shown L (counted n (counted 1 (or_next x later)))
      by (found y j) q = let w : n + 1 + j ≡ n + (1 + j) = omega arith in q ∙ ap (λ (m : ℕ). shown L (found y m)) w
      by (absent j) q = absurd (h (n + 1 + j) q)
      by (refused r) q = q

-- a refusal is no absence, nor is an entry
pub refused_stays : (r : Refusal) (m : ℕ) → ◌≡◌ {A = Result (Found Fields) Refusal} (Err r) (Ok (Absent m)) → ⊥
refused_stays r m e = let clash : ◌≡◌ {A = ℕ} 0 1 = cc in omega arith

pub entry_stays : (x : Found Fields) → ((m : ℕ) → x ≡ Absent m → ⊥) → (m : ℕ) → ◌≡◌ {A = Result (Found Fields) Refusal} (Ok x) (Ok (Absent m)) → ⊥
entry_stays x h m e = h m cc

-- an accepted index page, when n pages have been read: the child where the listing starts, and the one behind it
module _ (L : Layout) (image : List ℕ) (k n : ℕ) (p : Link) (ok : Ok tt ≡ page_fits L image p)
    (l i : ℕ) (h : l ≡ 0 → ⊥) (starts : i ≡ start (last_at_most k (map (key_in L) (entries L (page image p.offset))))) where
  abbrev go : ℕ → Link → Answer (List ℕ)
  go m c = descend (page_tree L image) AtLeast k m c

  abbrev from : ℕ → List Link
  from j = kids_from L image (l - 1) p j

  here : (cs : List Link) → from i ≡ cs → picked (page_tree L image) AtLeast k (children (page_tree L image) (l - 1) p) ≡ cs
  here cs e = sym (starting_from L image (l - 1) p k i starts) ∙ e

  pub seek_none : next_of (from i) ≡ None → Ok (Absent (n + 1)) ≡ shown L (counted n (go l p))
  seek_none e = way_none L image AtLeast k n p l h ok (here [] (next_missing _ e))

  -- c is the first child
  module _ (c : Link) (is-first : next_of (from i) ≡ Some c) where
    first : from i ≡ c ∷ from (i + 1)
    first = (more L image (l - 1) p i c is-first).1

    index : (cs : List Link) → from i ≡ cs → counted n (counted 1 (in_turn (λ c. go (l - 1) c) cs)) ≡ counted n (go l p)
    index cs e = way_index L image AtLeast k n p l h ok cs (here cs e)

    pub seek_first : (f : Result (Found Fields) Refusal) → f ≡ shown L (counted (n + 1) (go (l - 1) c)) → ((m : ℕ) → f ≡ Ok (Absent m) → ⊥) → f ≡ shown L (counted n (go l p))
    unfolding in_turn
    seek_first f e stays = present_ends L n (go (l - 1) c) f _ e stays ∙ ap (shown L) (index (c ∷ from (i + 1)) first)

    -- and nothing is found below it
    module _ (m : ℕ) (nothing : Ok (Absent m) ≡ shown L (counted (n + 1) (go (l - 1) c))) where
      pub seek_last : next_of (from (i + 1)) ≡ None → Ok (Absent m) ≡ shown L (counted n (go l p))
      unfolding in_turn shown counted
      seek_last z =
          ap (λ (j : ℕ). Ok (Absent j)) (sym (add-zero m))
          ∙ ap (shown L) (absent_goes L n (go (l - 1) c) m nothing (absent 0) ∙ index (c ∷ []) (first ∙ ap (λ (cs : List Link). c ∷ cs) (next_missing _ z)))

      pub seek_second : (d : Link) → next_of (from (i + 1)) ≡ Some d → counted m (go (l - 1) d) ≡ counted n (go l p)
      unfolding in_turn
      seek_second d z =
          let ds = from (i + 1 + 1) in
          let b = first ∙ ap (λ (cs : List Link). c ∷ cs) (more L image (l - 1) p (i + 1) d z).1 in
          ap (counted m) (sym (answer_ends _ _ (behind_direct (page_tree L image) (sorted L image) (filled L image) k (l - 1) p c d ds (test_is L image (suc (l - 1)) p ∙ sym ok) (here (c ∷ d ∷ ds) b)).some_answer))
          ∙ absent_goes L n (go (l - 1) c) m nothing (in_turn (λ c. go (l - 1) c) (d ∷ ds))
          ∙ index (c ∷ d ∷ ds) b
