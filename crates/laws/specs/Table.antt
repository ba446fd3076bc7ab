-- A table that a function fills. Assumes nothing: this is a definition.
use Rattle.std.specs.Prelude.{ℕ, zero, suc, List, [], ◌∷◌}

-- f i, f (i + 1), ..: n of them
abbrev pub tabulate : (ℕ → ℕ) → ℕ → ℕ → List ℕ
tabulate f zero i = []
tabulate f (suc n) i = f i ∷ tabulate f n (suc i)
