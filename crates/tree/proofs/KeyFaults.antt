-- Where refusals 11 and 21 come from. Assumes nothing.
use Prim.Native.Nat.{ℕ}
use mathlib.Core.Path.{◌≡◌, refl, sym, ap, ◌∙◌, subst}
use mathlib.Core.Bool.{Bool, true, false, ◌||◌}
use mathlib.Core.Logic.{⊎_elim}
use mathlib.Core.List.{List, ◌++◌}
use native.Mathlib.Omega.{arith}
use lib.Dec.{eqb}
use Rattle.laws.proofs.Tests.{not_both}
use Rattle.refusal.specs.declared.Fault.TheVariants.{KeyOrder, KeyRange}
use Rattle.refusal.specs.declared.Refusal.{Refusal}
use Rattle.refusal.specs.Number.{number}
use Rattle.refusal.specs.Order.{at_entry, Rule, FirstFault}
use Rattle.refusal.proofs.OrderLaws.{append_fault, Each, fault_among}
use Rattle.keys.specs.declared.Sought.{Sought}
use Rattle.keys.specs.Search.{joined}
use Rattle.search.proofs.Faulted.{FaultOf, check_fault, search_fault, joined_fault}
use Rattle.header.specs.Header.{mark_rules, seal_rules, last_rules, header_rules}
use Rattle.edition.specs.declared.Layout.{Layout}
use Rattle.page.specs.Page.{page_fits}
use Rattle.page.proofs.Exactly.{page_first_fault}
use Rattle.page.proofs.KeyFaults.{key_faults}
use Rattle.tree.specs.Tree.{root, root_level, page_tree, tree_rules}
use Rattle.tree.specs.Lookup.{asked_for, search_rules}
use Rattle.tree.specs.KeyFaults.{OfKeys, KeyFault, order, range}
use Rattle.std.specs.Prelude.{Err}

-- rules that have no refusal 11 or 21
abbrev pub keyed : ℕ → Bool
keyed n = eqb n 11 || eqb n 21

abbrev pub Quiet : List Rule → Type 0
Quiet rules = Each (λ r. keyed (number r.fault) ≡ false) rules

-- rules whose first fault, where it is of keys, has the property
abbrev pub KeysTell : (Refusal → Type 0) → List Rule → Type 0
KeysTell P rules = (r : Refusal) → FirstFault rules r → OfKeys r → P r

marks_quiet : (image : List ℕ) → Quiet (mark_rules image)
unfolding mark_rules
marks_quiet image = (refl, (refl, (refl, (refl, tt))))

seals_quiet : (image : List ℕ) → Quiet (seal_rules image)
unfolding seal_rules
seals_quiet image = (refl, (refl, (refl, tt)))

last_quiet : (image : List ℕ) → Quiet (last_rules image)
unfolding last_rules
last_quiet image = (refl, (refl, tt))

module _ (P : Refusal → Type 0) where
  pub quiet_tell : (rules : List Rule) → Quiet rules → KeysTell P rules
  quiet_tell rules q r f k =
      let no = fault_among (λ s. keyed (number s.fault) ≡ false) rules r q f in
      let yes : keyed (number r.fault) ≡ true = ⊎_elim (λ (e : r.fault ≡ KeyOrder). rw e) (λ (e : r.fault ≡ KeyRange). rw e) k in
      not_both _ yes no

  pub append_tell : (rs ss : List Rule) → KeysTell P rs → KeysTell P ss → KeysTell P (rs ++ ss)
  append_tell rs ss one other r f k =
      ⊎_elim (λ (g : FirstFault rs r). one r g k) (λ (g : FirstFault ss r). other r g k) (append_fault rs ss r f)

  pub joined_tell : {A : Type 0} (list : A → List Rule) (xs : List A) → ((x : A) → KeysTell P (list x)) → KeysTell P (joined list xs)
  joined_tell list xs each r f k = joined_fault list xs r (P r) (λ x m g. each x r g k) f

  pub header_tell : (image : List ℕ) → KeysTell P (header_rules image)
  header_tell image =
      append_tell (mark_rules image ++ seal_rules image) (last_rules image)
      (append_tell (mark_rules image) (seal_rules image) (quiet_tell (mark_rules image) (marks_quiet image)) (quiet_tell (seal_rules image) (seals_quiet image)))
      (quiet_tell (last_rules image) (last_quiet image))

module _ (L : Layout) (image : List ℕ) where
  -- a page at fault, by its own first fault
  page_tells : (r : Refusal) → FaultOf (page_tree L image) (root_level L image) (root L image) r → OfKeys r → KeyFault L image r
  page_tells r h k =
      let p = h.branch in
      let refused = (page_first_fault L image p r).1 h.first in
      let told = key_faults L image p in
      ⊎_elim
      (λ (e : r.fault ≡ KeyOrder).
      let form = told.eleven_form r refused e in
      subst (KeyFault L image) (sym form) (order h.reached ((told.eleven r.more).0 (refused ∙ ap Err form))))
      (λ (e : r.fault ≡ KeyRange).
      let form = told.twenty_one_form r refused e in
      subst (KeyFault L image) (sym form) (range h.reached ((told.twenty_one r.more).0 (refused ∙ ap Err form))))
      k

  pub tree_tells : KeysTell (KeyFault L image) (tree_rules L image)
  unfolding tree_rules
  tree_tells = append_tell (KeyFault L image) _ _ (header_tell (KeyFault L image) image) (λ r f k. page_tells r (check_fault (page_tree L image) (root_level L image) (root L image) r f) k)

  pub search_tells : (s : Sought) (key : ℕ) → KeysTell (KeyFault L image) (search_rules s L image key)
  unfolding search_rules
  search_tells s key =
      append_tell (KeyFault L image) _ _ (header_tell (KeyFault L image) image)
      (λ r f k. page_tells r (search_fault (page_tree L image) (root_level L image) (root L image) s (asked_for s L key) r f) k)

-- "The root's range is everything": a root is never refused with 21
pub root_never : (L : Layout) (image : List ℕ) (i : ℕ) → page_fits L image (root L image) ≡ Err (at_entry KeyRange (root L image).offset i) → ⊥
unfolding root
root_never L image i e = (((key_faults L image (root L image)).twenty_one i).0 e).1.outside (omega arith, tt)
