-- In a sound property tree the lookup answers as the plain scan of all leaf records. Assumes nothing.
use Prim.Native.Nat.{ℕ, ◌%◌}
use mathlib.Core.Path.{◌≡◌, refl, sym, ap, ◌∙◌}
use mathlib.Core.Bool.{Bool, true, false, cond}
use mathlib.Core.Logic.{◌↔◌}
use mathlib.Core.List.{List, map}
use lib.Dec.{eqb}
use borrow.Author.Tests.{eqb-true}
use Rattle.le.specs.Bytes.{field}
use Rattle.refusal.specs.declared.Refusal.{Refusal}
use Rattle.refusal.specs.Order.{demand, after}
use Rattle.refusal.proofs.OrderLaws.{test_goes, test_ends}
use Rattle.keys.specs.Plain.{Missing}
use Rattle.keys.specs.Search.{with_key}
use Rattle.keys.proofs.FoundLaws.{missing_exactly}
use Rattle.search.specs.Answer.{answer}
use Rattle.heap.specs.Shape.{user_root}
use Rattle.heap.specs.Items.{item_fits, bad_item}
use Rattle.heaptree.specs.Scan.{TreeAsScanned}
use Rattle.heaptree.proofs.ShownLaws.{read_says, case_none, case_some}
use Rattle.heaptree.proofs.ScanLaws.{scan_holds as tree-holds}
use Rattle.property.specs.Context.{properties}
use Rattle.property.specs.Lookup.{in_place, value_of, property_from, property}
use Rattle.property.specs.Scan.{PropertiesSound, id_of, property_records, WrongValue, PropertyScanHolds}
use Rattle.property.proofs.ContextLaws.{context_exactly, property_on}
use Rattle.std.specs.Prelude.{Some, None, Result, Ok, Err, Option}
use Rattle.property.specs.declared.Property.{Property}
use Rattle.property.specs.declared.Property.TheVariants.{Empty, Item, Number, Subnode}

-- a leaf record is never answered absent, and refused only where its value names no item
module _ (type value : ℕ) where
  abbrev outcome : Bool → Bool → Bool → Bool → Result (Option Property) Refusal
  outcome inside empty named there =
      cond inside (Ok (Some (Number type value))) (cond empty (Ok (Some (Empty type))) (cond named (after Err (demand there bad_item) (Ok (Some (Item type value)))) (Ok (Some (Subnode type value)))))

  outcome_there : (inside empty named there : Bool) → outcome inside empty named there ≡ Ok None → ⊥
  outcome_there true empty named there e = cc
  outcome_there false true named there e = cc
  outcome_there false false false there e = cc
  outcome_there false false true true e =
      let goes = sym (test_goes Err true bad_item (Ok (Some (Item type value))) refl) ∙ e in
      cc
  outcome_there false false true false e =
      let ends = sym (test_ends Err false bad_item (Ok (Some (Item type value))) refl) ∙ e in
      cc

  outcome_refused : (inside empty named there : Bool) (r : Refusal) → outcome inside empty named there ≡ Err r
      → (named ≡ true) × (there ≡ false) × (r ≡ bad_item)
  outcome_refused true empty named there r e = cc
  outcome_refused false true named there r e = cc
  outcome_refused false false false there r e = cc
  outcome_refused false false true true r e =
      let goes = sym (test_goes Err true bad_item (Ok (Some (Item type value))) refl) ∙ e in
      cc
  outcome_refused false false true false r e =
      let ends = sym (test_ends Err false bad_item (Ok (Some (Item type value))) refl) ∙ e in
      (refl, refl, cc)

-- what a leaf record says
abbrev told : List ℕ → List ℕ → Result (Option Property) Refusal
told block entry = value_of block (field entry 2 2) (field entry 4 4)

module _ (block : List ℕ) where
  answer_there : (o : Option (List ℕ)) (n : ℕ) → property_from block (answer o n) ≡ Ok None → o ≡ None
  unfolding value_of
  answer_there None n e = refl
  answer_there (Some entry) n e =
      absurd (outcome_there (field entry 2 2) (field entry 4 4) (in_place (field entry 2 2)) (eqb (field entry 4 4) 0) (eqb (field entry 4 4 % 32) 0) (item_fits block (field entry 4 4)) (sym (case_some (told block) (Ok None) Err entry n) ∙ e))

  answer_refused : (id : ℕ) (r : Refusal) (o : Option (List ℕ)) (n : ℕ) → with_key id_of id (property_records block) ≡ o → property_from block (answer o n) ≡ Err r → WrongValue block id r
  unfolding value_of
  answer_refused id r None n f e = let none-there = case_none (told block) (Ok None) Err n in cc
  answer_refused id r (Some entry) n f e =
      let wrong = outcome_refused (field entry 2 2) (field entry 4 4) (in_place (field entry 2 2)) (eqb (field entry 4 4) 0) (eqb (field entry 4 4 % 32) 0) (item_fits block (field entry 4 4)) r (sym (case_some (told block) (Ok None) Err entry n) ∙ e) in
      record { entry = entry; found = f; names = eqb-true _ _ wrong.0; wrong = wrong.1; number = wrong.2 }

-- the tree's theorem, read as properties
module _ (block : List ℕ) (sound : PropertiesSound block) where
  tree : TreeAsScanned properties block (user_root block)
  tree = tree-holds properties block (user_root block) sound.tree

  scan_answers : (id : ℕ) → property block id ≡ property_from block (answer (with_key id_of id (property_records block)) 0)
  scan_answers id =
      property_on block id ((context_exactly block).1 (sound.heap, record { kind = sound.kind; root = sound.tree.record_fits_lem }))
      ∙ read_says _ _ _ _ _ (tree.answers id)

  scan_absent : (id : ℕ) → (property block id ≡ Ok None) ↔ Missing id (map id_of (property_records block))
  scan_absent id = (
    (λ e. (missing_exactly id_of id (property_records block)).0 (answer_there block (with_key id_of id (property_records block)) 0 (sym (scan_answers id) ∙ e))),
    (λ m. scan_answers id ∙ ap (λ o. property_from block (answer o 0)) ((missing_exactly id_of id (property_records block)).1 m) ∙ case_none (told block) (Ok None) Err 0),
  )

-- the theorem: a lookup in a sound tree answers as the plain scan does
pub scan_holds : PropertyScanHolds
scan_holds block sound =
    record {
      answers = scan_answers block sound;
      ascending = (tree block sound).ascending;
      absent_iff = scan_absent block sound;
      refused = λ id r e. answer_refused block id r (with_key id_of id (property_records block)) 0 refl (sym (scan_answers block sound id) ∙ e);
    }
