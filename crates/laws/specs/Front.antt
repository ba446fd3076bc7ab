-- What stands at the front of a lent buffer. Assumes nothing: this is a definition.
use Rattle.std.specs.Prelude.{ℕ, List, ◌++◌, length, drop}

-- these at the front of a buffer, what follows them as it was
abbrev pub fronted : List ℕ → List ℕ → List ℕ
fronted s out = s ++ drop (length s) out
