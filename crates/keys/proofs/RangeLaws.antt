-- Where the ranges of children end, one record at a time. Assumes nothing.
use Prim.Native.Nat.{ℕ, ◌+◌, ◌≤◌, ◌<◌}
use mathlib.Core.Path.{◌≡◌, refl, ap}
use mathlib.Core.List.{List, [], ◌∷◌}
use Rattle.keys.specs.declared.Range.{Range}
use Rattle.keys.specs.declared.Shape.{Shape}
use Rattle.keys.specs.Records.{key_at}
use Rattle.keys.specs.Range.{end_of, range_at}
use Rattle.keys.proofs.RecordLaws.{records_at, records_none}
use Rattle.std.specs.Prelude.{Option, Some}

-- ends by two keys that are the same of every entry
pub end_same : {E : Type 0} (key other : E → ℕ) → ((e : E) → key e ≡ other e) → (to : Option ℕ) (es : List E) → end_of key to es ≡ end_of other to es
unfolding end_of
end_same key other same to [] = refl
end_same key other same to (e ∷ es) = ap Some (same e)

module _ (shape : Shape) (n : ℕ) (bytes : List ℕ) (i from : ℕ) (to : Option ℕ) (first : from ≡ key_at shape bytes i) where
  -- the last record's range, and that of one with a record behind it
  pub range_last : n ≤ i + 1 → ◌≡◌ {A = Range} (record { from = from; to = to }) (range_at shape n bytes i to)
  unfolding end_of
  range_last h = rw (first, records_none shape n bytes (i + 1) h)

  pub range_next : (next : ℕ) → i + 1 < n → next ≡ key_at shape bytes (i + 1) → ◌≡◌ {A = Range} (record { from = from; to = Some next }) (range_at shape n bytes i to)
  unfolding end_of key_at
  range_next next h e = rw (first, e, records_at shape n bytes (i + 1) h)
