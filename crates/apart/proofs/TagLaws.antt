-- Tags that ascend differ. Assumes nothing.
use Prim.Native.Nat.{ℕ, zero, suc, ◌<◌}
use mathlib.Core.Path.{◌≡◌, refl, sym, ◌∙◌}
use mathlib.Core.Bool.{true}
use mathlib.Core.List.{List, [], ◌∷◌}
use native.Mathlib.Nat.{le_of_suc-le-suc, not-suc-le-zero}
use native.Mathlib.Omega.{arith}
use lib.ListN.{length, get_or}
use Rattle.keys.specs.Plain.{Ascending}
use Rattle.keys.specs.Range.{ordered, climbing}
use Rattle.keys.proofs.Climbs.{ordered_exactly}
use Rattle.columns.specs.Record.{column_count}
use Rattle.columns.specs.Columns.{tags}
use Rattle.columns.specs.Sound.{RecordSound}
use Rattle.columns.proofs.SeatLaws.{tag_is, tags_length}
use Rattle.apart.specs.Steps.{Differ}
use Rattle.std.specs.Prelude.{None, Result, Ok, Err, ⊤}
use Rattle.keys.specs.declared.Disorder.{Disorder}

-- in an ascending list a number is below each that stands behind it
below_each : (x : ℕ) (xs : List ℕ) → Ascending (x ∷ xs) → (j : ℕ) → j < length xs → x < get_or xs j 0
below_each x [] a j h = absurd (not-suc-le-zero h)
below_each x (y ∷ ys) a zero h = a.0
below_each x (y ∷ ys) a (suc j) h = let up = below_each y ys a.1 j (le_of_suc-le-suc h) in omega (arith, up, a.0)

rest : (x : ℕ) (xs : List ℕ) → Ascending (x ∷ xs) → Ascending xs
rest x [] a = tt
rest x (y ∷ ys) a = a.1

ascends : (xs : List ℕ) → Ascending xs → (i j : ℕ) → i < j → j < length xs → get_or xs i 0 < get_or xs j 0
ascends [] a i j l h = absurd (not-suc-le-zero h)
ascends (x ∷ xs) a i zero l h = absurd (not-suc-le-zero l)
ascends (x ∷ xs) a zero (suc j) l h = below_each x xs a j (le_of_suc-le-suc h)
ascends (x ∷ xs) a (suc i) (suc j) l h = ascends xs (rest x xs a) i j (le_of_suc-le-suc l) (le_of_suc-le-suc h)

climbed : (o : Result ⊤ Disorder) → climbing o ≡ true → o ≡ Ok tt
unfolding climbing
climbed (Ok tt) e = refl
climbed (Err disorder) e = cc

module _ (table : List ℕ) where
  pub climb_differ : RecordSound table → (o : Result ⊤ Disorder) → o ≡ ordered (record { from = 0; to = None }) (tags table) → climbing o ≡ true → Differ table (column_count table)
  climb_differ sound o told e i j l h same =
      let up = ascends (tags table) ((ordered_exactly (record { from = 0; to = None }) (tags table)).0 (sym told ∙ climbed o e)).0 i j l (rw (tags_length table sound) h) in
      let first = tag_is table sound i (omega (arith, l, h)) in
      let second = tag_is table sound j h in
      omega (arith, up, first, second, same)
