-- What is compared of a number, and the number. Assumes nothing.
use Prim.Native.Nat.{ℕ, ◌≤◌, ◌<◌}
use mathlib.Core.Bool.{Bool, true, false}
use native.Mathlib.Nat.{le_refl}
use native.Mathlib.Omega.{arith}
use Rattle.keys.specs.Records.{cleared, significant}

pub significant_most : (reserved : Bool) (number : ℕ) → significant reserved number ≤ number
unfolding significant cleared
significant_most true number = omega arith
significant_most false number = le_refl number

-- what is compared lies above the whole of a number of which less is compared
pub significant_above : (reserved : Bool) (one other : ℕ) → significant reserved one < significant reserved other → one < significant reserved other
unfolding significant cleared
significant_above true one other h = omega arith
significant_above false one other h = h
