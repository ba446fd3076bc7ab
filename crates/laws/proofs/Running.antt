-- The running length: what stands in the buffer, and what is still to come. Assumes nothing.
use Prim.Native.Nat.{ℕ, ◌+◌, ◌-◌, ◌≤◌}
use mathlib.Core.Path.{◌≡◌, refl, sym, ap, ◌∙◌}
use mathlib.Core.List.{List, [], ◌++◌}
use native.Mathlib.Omega.{arith}
use lib.ListN.{length, take, drop, length-append, length-drop}
use lib.Seq.{take_at, drop_at, drop-drop, take-add, take_all, length-take-le}
use Rattle.laws.specs.Front.{fronted}
use Rattle.laws.proofs.Fronts.{behind}

-- of the whole, n stand in the buffer, and s and then more are still to come
module _ (whole s more : List ℕ) (n : ℕ) (here : n ≤ length whole) (left : drop n whole ≡ s ++ more) where
  pub room_left : n + length s ≤ length whole
  room_left = omega (arith, length-drop n whole, ap length left, length-append s more)

  pub left_on : drop (n + length s) whole ≡ more
  left_on = sym (drop-drop (length s) n whole) ∙ ap (drop (length s)) left ∙ drop_at s more (length s) refl

  taken_on : take (n + length s) whole ≡ take n whole ++ s
  taken_on = take-add n (length s) whole ∙ ap (λ (x : List ℕ). take n whole ++ take (length s) x) left ∙ ap (λ (x : List ℕ). take n whole ++ x) (take_at s more (length s) refl)

  -- s comes to stand right behind what stands there
  pub stands_on : (o out : List ℕ) → out ≡ fronted (take n whole) o
      → take n out ++ (fronted s (take (length out - n) (drop n out)) ++ drop (length out - n) (drop n out)) ≡ fronted (take (n + length s) whole) o
  stands_on o out e =
      behind o (take n whole) s out n e (sym (length-take-le n whole here)) ∙ ap (λ (x : List ℕ). fronted x o) (sym taken_on)

-- nothing is left to come: the whole stands there
pub stands_whole : (whole o out : List ℕ) (n : ℕ) → n ≤ length whole → drop n whole ≡ [] → out ≡ fronted (take n whole) o → out ≡ fronted whole o
stands_whole whole o out n here left e =
    e ∙ ap (λ (x : List ℕ). fronted x o) (take_all n whole (omega (arith, length-drop n whole, ap length left)))
