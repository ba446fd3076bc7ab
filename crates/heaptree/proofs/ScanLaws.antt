-- In a sound tree on a heap the descent answers as the plain scan of all leaf records. Assumes nothing.
use Prim.Native.Nat.{ℕ, ◌%◌}
use mathlib.Core.Path.{◌≡◌, refl, sym, ap, ◌∙◌}
use mathlib.Core.Bool.{Bool, true, false, ◌&&◌}
use mathlib.Core.Logic.{◌↔◌}
use mathlib.Core.List.{List, [], map}
use lib.Dec.{leb, eqb}
use lib.ListN.{length}
use borrow.Author.Tests.{eqb-false}
use Rattle.laws.proofs.Tests.{and_both}
use Rattle.keys.specs.Records.{keys_of}
use Rattle.keys.specs.Plain.{Ascending, Missing}
use Rattle.keys.specs.Range.{ordered, climbing}
use Rattle.keys.specs.Search.{with_key}
use Rattle.keys.proofs.Climbs.{climbing_is}
use Rattle.keys.proofs.FoundLaws.{missing_exactly}
use Rattle.search.specs.Answer.{answer}
use Rattle.search.specs.Promises.{Sorted, AsScanned, Says}
use Rattle.search.proofs.Searched.{as_scanned}
use Rattle.search.proofs.Records.{keys_same}
use Rattle.heap.specs.Items.{item_part}
use Rattle.heaptree.specs.declared.HeapTree.{HeapTree}
use Rattle.heaptree.specs.Value.{record_key, shape_at}
use Rattle.heaptree.specs.Root.{index_levels, root_item}
use Rattle.heaptree.specs.Branches.{record_count, records_fit, records_of, child_of, tree_on}
use Rattle.heaptree.specs.Lookup.{root_branch, from_root}
use Rattle.heaptree.specs.Sound.{HeapTreeSound}
use Rattle.heaptree.specs.Scan.{leaf_records, TreeScanHolds}
use Rattle.heaptree.proofs.RecordLaws.{keyed}
use Rattle.heaptree.proofs.SoundLaws.{tree_accepted}
use Rattle.heaptree.proofs.ShownLaws.{none_is}
use Rattle.heaptree.proofs.StepLaws.{branch_fits}
use Rattle.std.specs.Prelude.{Option, Some, None}

-- a tree on a heap is a search tree: the keys of an accepted item ascend in its range
pub sorted : (tree : HeapTree) (block : List ℕ) → Sorted (tree_on tree block)
unfolding child_of records_fit records_of
sorted tree block =
    record {
      ranged = λ levels range entry. refl;
      climbs = λ levels branch e.
          let bytes = item_part block branch.item in
          let shape = shape_at tree levels in
          let n = record_count shape bytes in
          let fits = and_both (leb 1 (length bytes) && eqb (length bytes % shape.size) 0) (climbing (ordered branch.range (keys_of shape n bytes))) (branch_fits tree block levels branch e) in
          ap (ordered branch.range) (sym (keys_same (record_key tree) shape (keyed tree levels) n bytes)) ∙ climbing_is _ fits.1;
    }

-- an answer says one thing
says_none : (o : Option (List ℕ)) (m n : ℕ) → answer o m ≡ answer None n → o ≡ None
unfolding answer
says_none None m n e = refl
says_none (Some x) m n e = cc

-- the root item, if there is one
module _ (tree : HeapTree) (block : List ℕ) (root : ℕ) (sound : HeapTreeSound tree block root) where
  below : (root_item block root ≡ 0 → ⊥) → AsScanned (tree_on tree block) (index_levels block root) (root_branch block root)
  below there = as_scanned (tree_on tree block) (sorted tree block) (index_levels block root) (root_branch block root) (tree_accepted tree block root sound there)

  answers_by : (key : ℕ) (empty : Bool) → eqb (root_item block root) 0 ≡ empty → Says (from_root tree block root key) (with_key (record_key tree) key (leaf_records tree block root))
  unfolding from_root leaf_records
  answers_by key true e = rw e (record { count = 0; is = none_is 0 ∙ sym (ap (λ o. answer o 0) ((missing_exactly (record_key tree) key []).1 tt)) })
  answers_by key false e = rw e (record { count = _; is = (below (eqb-false (root_item block root) 0 e)).answers key })

  ascending_by : (empty : Bool) → eqb (root_item block root) 0 ≡ empty → Ascending (map (record_key tree) (leaf_records tree block root))
  unfolding leaf_records
  ascending_by true e = rw e tt
  ascending_by false e = rw e (below (eqb-false (root_item block root) 0 e)).ascending

  scan_answers : (key : ℕ) → Says (from_root tree block root key) (with_key (record_key tree) key (leaf_records tree block root))
  scan_answers key = answers_by key (eqb (root_item block root) 0) refl

  scan_absent : (key : ℕ) → Says (from_root tree block root key) None ↔ Missing key (map (record_key tree) (leaf_records tree block root))
  scan_absent key = (
    (λ s. (missing_exactly (record_key tree) key (leaf_records tree block root)).0 (says_none _ _ _ (sym (scan_answers key).is ∙ s.is))),
    (λ m. record { count = (scan_answers key).count; is = (scan_answers key).is ∙ ap (λ o. answer o (scan_answers key).count) ((missing_exactly (record_key tree) key (leaf_records tree block root)).1 m) }),
  )

-- the theorem: a lookup in a sound tree answers as the plain scan does
pub scan_holds : TreeScanHolds
scan_holds tree block root sound =
    record {
      answers = scan_answers tree block root sound;
      ascending = ascending_by tree block root sound (eqb (root_item block root) 0) refl;
      absent_iff = scan_absent tree block root sound;
    }
