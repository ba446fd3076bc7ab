-- What a table of 256 numbers has for a byte, where antt computes the whole table to be what the polynomial leaves. Assumes nothing.
use Rattle.std.proofs.Common.{◌≡◌, ℕ, ◌<◌, List, get_or, ap₂, ◌∙◌}
use Rattle.laws.specs.Table.{tabulate}
use Rattle.laws.proofs.Table.{at}
use Rattle.remainder.specs.Remainder.{table_entry}

pub entry : (table : List ℕ) (j b : ℕ) {k : ℕ} → table ≡ tabulate (table_entry j) 256 0 → k ≡ b → b < 256 → get_or table k 0 ≡ table_entry j b
entry table j b computed place h = ap₂ (λ (t : List ℕ) (k : ℕ). get_or t k 0) computed place ∙ at (table_entry j) 256 b h
