-- The plain scan of a property tree, and what a lookup in a sound one answers. Assumes nothing: these are definitions.
use Rattle.std.specs.Prelude.{ℕ, ◌%◌, ◌≡◌, false, ◌↔◌, List, map, Some, None, Ok, Err}
use Rattle.le.specs.Bytes.{field}
use Rattle.refusal.specs.declared.Refusal.{Refusal}
use Rattle.keys.specs.Plain.{Ascending, Missing}
use Rattle.keys.specs.Search.{with_key}
use Rattle.search.specs.Answer.{answer}
use Rattle.heap.specs.Shape.{client_kind, user_root, Heap}
use Rattle.heap.specs.Items.{item_fits, bad_item}
use Rattle.heaptree.specs.Value.{record_key}
use Rattle.heaptree.specs.Sound.{HeapTreeSound}
use Rattle.heaptree.specs.Scan.{leaf_records}
use Rattle.property.specs.Context.{properties}
use Rattle.property.specs.Lookup.{property_from, property}

-- a heap of properties whose whole tree is sound
pub record PropertiesSound (block : List ℕ) : Type 0 where
  pub heap : Heap block
  pub kind : client_kind block ≡ 0xBC
  pub tree : HeapTreeSound properties block (user_root block)

-- the id of a leaf record
abbrev pub id_of : List ℕ → ℕ
id_of entry = record_key properties entry

module _ (block : List ℕ) where
  -- all leaf records of the property tree
  abbrev pub property_records : List (List ℕ)
  property_records = leaf_records properties block (user_root block)

  -- the record that the scan finds names an item that the heap has not: the one refusal that a sound tree leaves
  pub record WrongValue (id : ℕ) (refusal : Refusal) : Type 0 where
    pub entry : List ℕ
    pub found : with_key id_of id property_records ≡ Some entry
    pub names : field entry 4 4 % 32 ≡ 0
    pub wrong : item_fits block (field entry 4 4) ≡ false
    pub number : refusal ≡ bad_item

  -- what holds of every lookup in a sound tree
  pub record PropertyAsScanned : Type 0 where
    -- it answers for the leaf record that a plain scan of all leaf records finds
    pub answers : (id : ℕ) → property block id ≡ property_from block (answer (with_key id_of id property_records) 0)
    -- that is the only one with the id, since the ids of the leaf records strictly ascend
    pub ascending : Ascending (map id_of property_records)
    -- absent exactly when no leaf record has the id
    pub absent_iff : (id : ℕ) → (property block id ≡ Ok None) ↔ Missing id (map id_of property_records)
    -- refused only for the value of the record found, never for the tree
    pub refused : (id : ℕ) (refusal : Refusal) → property block id ≡ Err refusal → WrongValue id refusal

-- a heap whose whole property tree is sound is answered as by the plain scan
abbrev pub PropertyScanHolds : Type 0
PropertyScanHolds = (block : List ℕ) → PropertiesSound block → PropertyAsScanned block
