-- The lookup of a row is refused exactly with the first fault of the rules that it tries, and in a sound row index answers as the plain scan of all leaf records. Assumes nothing.
use Prim.Native.Nat.{ℕ}
use mathlib.Core.Path.{◌≡◌, refl, sym, ap, ◌∙◌}
use mathlib.Core.Logic.{◌↔◌}
use mathlib.Core.List.{List, map, ◌++◌}
use Rattle.le.specs.Bytes.{field}
use Rattle.refusal.specs.declared.Refusal.{Refusal}
use Rattle.refusal.specs.Order.{Verdict, in_order, ◌then◌, AllHold, FirstFault}
use Rattle.refusal.proofs.OrderLaws.{in_order_append, refusal_in, refusal_after, answered_exactly, told_exactly}
use Rattle.keys.specs.Plain.{Missing}
use Rattle.keys.specs.Search.{with_key}
use Rattle.keys.proofs.FoundLaws.{missing_exactly}
use Rattle.search.specs.Answer.{Answer, found, absent, refused, answer}
use Rattle.search.proofs.Tried.{verdict_of}
use Rattle.heaptree.specs.declared.HeapTree.{HeapTree}
use Rattle.heaptree.specs.Root.{root_rules}
use Rattle.heaptree.specs.Lookup.{from_root, path_rules, by_case}
use Rattle.heaptree.specs.Scan.{TreeAsScanned}
use Rattle.heaptree.proofs.ShownLaws.{read_says, case_none, case_some}
use Rattle.heaptree.proofs.ScanLaws.{scan_holds as tree-holds}
use Rattle.heaptree.proofs.TriedLaws.{path_tried}
use Rattle.table.specs.Context.{table_rules}
use Rattle.table.specs.RowIndex.{row_id, row_from, index_root, index_test, row_rules, row_of, IndexSound, row_records, RowScanHolds}
use Rattle.table.proofs.IndexLaws.{index_exactly, row_on}
use Rattle.std.specs.Prelude.{Some, None, Result, Ok, Err, Option}

module _ (tree : HeapTree) where
  answer_tried : (a : Answer (List ℕ)) → verdict_of a ≡ refusal_in (row_from tree a)
  unfolding verdict_of by_case refusal_in
  answer_tried (found entry n) = refl
  answer_tried (absent n) = refl
  answer_tried (refused r) = refl

  -- what a leaf record says is never that it is absent
  abbrev told : List ℕ → Result (Option ℕ) Refusal
  told entry = Ok (Some (field entry tree.key tree.entry))

  answer_there : (o : Option (List ℕ)) → row_from tree (answer o 0) ≡ Ok None → o ≡ None
  answer_there None e = refl
  answer_there (Some entry) e =
      let there = sym (case_some told (Ok None) Err entry 0) ∙ e in
      cc

module _ (tree : HeapTree) (block : List ℕ) where
  row_tried : (id : ℕ) → in_order (row_rules tree block id) ≡ refusal_in (row_of tree block id)
  unfolding row_rules row_of index_test
  row_tried id =
      let before = table_rules block ++ root_rules tree block (index_root block) in
      in_order_append before (path_rules tree block (index_root block) id)
      ∙ ap (λ (v : Verdict). in_order before then v) (path_tried tree block (index_root block) id ∙ answer_tried tree (from_root tree block (index_root block) id))
      ∙ sym (refusal_after (in_order before) (row_from tree (from_root tree block (index_root block) id)))

  -- answered, or absent, exactly when each rule holds
  pub row_answered_exactly : (id : ℕ) → (refusal_in (row_of tree block id) ≡ Ok tt) ↔ AllHold (row_rules tree block id)
  row_answered_exactly id = answered_exactly _ _ (row_tried id)

  -- refused exactly with the first fault
  pub row_refused_exactly : (id : ℕ) (r : Refusal) → (row_of tree block id ≡ Err r) ↔ FirstFault (row_rules tree block id) r
  row_refused_exactly id r = told_exactly _ _ (row_tried id) r

-- the tree's theorem, read as rows
module _ (tree : HeapTree) (block : List ℕ) (sound : IndexSound tree block) where
  scanned : TreeAsScanned tree block (index_root block)
  scanned = tree-holds tree block (index_root block) sound.index

  scan_answers : (id : ℕ) → row_of tree block id ≡ row_from tree (answer (with_key (row_id tree) id (row_records tree block)) 0)
  scan_answers id =
      row_on tree block id ((index_exactly tree block).1 (sound.table, sound.index.record_fits_lem)) ∙ read_says _ _ _ _ _ (scanned.answers id)

  scan_absent : (id : ℕ) → (row_of tree block id ≡ Ok None) ↔ Missing id (map (row_id tree) (row_records tree block))
  scan_absent id = (
    (λ e. (missing_exactly (row_id tree) id (row_records tree block)).0 (answer_there tree (with_key (row_id tree) id (row_records tree block)) (sym (scan_answers id) ∙ e))),
    (λ m. scan_answers id ∙ ap (λ (o : Option (List ℕ)). row_from tree (answer o 0)) ((missing_exactly (row_id tree) id (row_records tree block)).1 m) ∙ case_none (told tree) (Ok None) Err 0),
  )

-- the theorem: a lookup in a sound row index answers as the plain scan does
pub row_scan_holds : RowScanHolds
row_scan_holds tree block sound = record { answers = scan_answers tree block sound; ascending = (scanned tree block sound).ascending; absent_iff = scan_absent tree block sound }
