-- The children of entries that are records one behind the other. Assumes nothing: these are definitions.
use Rattle.std.specs.Prelude.{ℕ, ◌+◌, List, Option}
use Rattle.keys.specs.declared.Range.{Range}
use Rattle.keys.specs.declared.Shape.{Shape}
use Rattle.keys.specs.Records.{records_from, record_at, key_at}
use Rattle.keys.specs.Range.{end_of}
use Rattle.search.specs.SearchTree.{offspring}

-- the child of the i-th entry, and the children from the i-th on
abbrev pub child_at : {B : Type 0} → (List ℕ → ℕ) → (Range → List ℕ → B) → Option ℕ → Shape → ℕ → List ℕ → ℕ → B
child_at key child to shape n bytes i = child (record { from = key_at shape bytes i; to = end_of key to (records_from shape n bytes (i + 1)) }) (record_at shape bytes i)

abbrev pub children_from : {B : Type 0} → (List ℕ → ℕ) → (Range → List ℕ → B) → Option ℕ → Shape → ℕ → List ℕ → ℕ → List B
children_from key child to shape n bytes i = offspring key child to (records_from shape n bytes i)
