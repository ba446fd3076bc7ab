-- Pieces of one length, one behind the other. Assumes nothing.
use Prim.Native.Nat.{ℕ, zero, suc, ◌+◌, ◌*◌, ◌<◌}
use mathlib.Core.Path.{◌≡◌, refl, sym, ap, ap₂, ◌∙◌}
use mathlib.Core.List.{List, [], ◌∷◌, ◌++◌, append_assoc, append-nil}
use native.Mathlib.Nat.{mul-zero, mul-suc, add_comm, le_of_suc-le-suc, not-suc-le-zero}
use native.Mathlib.Numerals.{add-one}
use lib.ListN.{length, get_or, take, drop, length-append}
use lib.Seq.{take-suc, take_at, drop-append-add}
use Rattle.keys.specs.Search.{joined}

-- pieces of w words each
module _ (piece : ℕ → List ℕ) (w : ℕ) (long : (x : ℕ) → length (piece x) ≡ w) where
  pub pieces_length : (xs : List ℕ) → length (joined piece xs) ≡ w * length xs
  unfolding joined
  pieces_length [] = sym (mul-zero w)
  pieces_length (x ∷ xs) = length-append (piece x) (joined piece xs) ∙ ap₂ ◌+◌ (long x) (pieces_length xs) ∙ add_comm w (w * length xs) ∙ sym (mul-suc w (length xs))

  joined_append : (xs ys : List ℕ) → joined piece (xs ++ ys) ≡ joined piece xs ++ joined piece ys
  unfolding joined
  joined_append [] ys = refl
  joined_append (x ∷ xs) ys = ap (λ (s : List ℕ). piece x ++ s) (joined_append xs ys) ∙ sym (append_assoc (piece x) (joined piece xs) (joined piece ys))

  -- one piece more
  pub pieces_on : (xs : List ℕ) (i : ℕ) → i < length xs → joined piece (take (i + 1) xs) ≡ joined piece (take i xs) ++ piece (get_or xs i 0)
  unfolding joined
  pieces_on xs i h =
      ap (λ (k : ℕ). joined piece (take k xs)) (add-one i)
      ∙ ap (joined piece) (take-suc xs i 0 h)
      ∙ joined_append (take i xs) (get_or xs i 0 ∷ [])
      ∙ ap (λ (s : List ℕ). joined piece (take i xs) ++ s) (append-nil (piece (get_or xs i 0)))

  -- the i-th piece
  pub piece_at : (xs rest : List ℕ) (i : ℕ) → i < length xs → take w (drop (w * i) (joined piece xs ++ rest)) ≡ piece (get_or xs i 0)
  unfolding joined
  piece_at [] rest i h = absurd (not-suc-le-zero h)
  piece_at (x ∷ xs) rest zero h =
      ap₂ (λ (k : ℕ) (s : List ℕ). take w (drop k s)) (mul-zero w) (append_assoc (piece x) (joined piece xs) rest)
      ∙ take_at (piece x) (joined piece xs ++ rest) w (long x)
  piece_at (x ∷ xs) rest (suc i) h =
      ap₂ (λ (k : ℕ) (s : List ℕ). take w (drop k s)) (mul-suc w i ∙ add_comm (w * i) w ∙ ap (λ (k : ℕ). k + w * i) (sym (long x))) (append_assoc (piece x) (joined piece xs) rest)
      ∙ ap (take w) (drop-append-add (piece x) (joined piece xs ++ rest) (w * i))
      ∙ piece_at xs rest i (le_of_suc-le-suc h)
