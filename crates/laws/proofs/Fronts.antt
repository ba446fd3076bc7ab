-- What comes to stand at the front of a buffer. Assumes nothing.
use Prim.Native.Nat.{ℕ, ◌-◌, ◌≤◌}
use mathlib.Core.Path.{◌≡◌, refl, sym, ap, ap₂, ◌∙◌}
use mathlib.Core.List.{List, ◌++◌, append_assoc, append-nil}
use native.Mathlib.Nat.{sub-zero}
use native.Mathlib.Omega.{arith}
use lib.ListN.{length, take, drop, length-append, drop_of_length-le}
use lib.Seq.{take_at, drop_at, drop-drop, take_all}
use Rattle.laws.specs.Front.{fronted}

-- the front of out is replaced by s, and then by what f makes of it
pub front : (f : List ℕ → List ℕ) (s out p u : List ℕ) → p ≡ s → length (f s) ≡ length s → u ≡ f (take (length s - 0) (p ++ drop (length s - 0) out))
    → u ++ drop (length s - 0) (p ++ drop (length s - 0) out) ≡ fronted (f s) out
front f s out p u e long g =
    ap₂ ◌++◌
    (g ∙ ap f (ap₂ (λ (k : ℕ) (q : List ℕ). take k (q ++ drop k out)) whole e ∙ take_at s (drop (length s) out) (length s) refl))
    (ap₂ (λ (k : ℕ) (q : List ℕ). drop k (q ++ drop k out)) whole e ∙ drop_at s (drop (length s) out) (length s) refl
    ∙ ap (λ (k : ℕ). drop k out) (sym long))
  where
    whole : length s - 0 ≡ length s
    whole = sub-zero (length s)

-- the rest of a buffer is lent, and c comes to stand at its front, right behind J
pub behind : (o J c out : List ℕ) (n : ℕ) → out ≡ fronted J o → n ≡ length J
    → take n out ++ (fronted c (take (length out - n) (drop n out)) ++ drop (length out - n) (drop n out)) ≡ fronted (J ++ c) o
behind o J c out n e h =
    ap₂ (λ (x y : List ℕ). x ++ (fronted c (take (length out - n) y) ++ drop (length out - n) y)) head rest
    ∙ ap₂ (λ (x y : List ℕ). J ++ ((c ++ drop (length c) x) ++ y)) (take_all (length out - n) (drop (length J) o) small) (drop_of_length-le (drop (length J) o) small)
    ∙ ap (λ (x : List ℕ). J ++ x) (append-nil (c ++ drop (length c) (drop (length J) o)))
    ∙ sym (append_assoc J c (drop (length c) (drop (length J) o)))
    ∙ ap (λ (x : List ℕ). (J ++ c) ++ x) (drop-drop (length c) (length J) o ∙ ap (λ (k : ℕ). drop k o) (sym (length-append J c)))
  where
    head : take n out ≡ J
    head = ap (take n) e ∙ take_at J (drop (length J) o) n (sym h)

    rest : drop n out ≡ drop (length J) o
    rest = ap (drop n) e ∙ drop_at J (drop (length J) o) n (sym h)

    small : length (drop (length J) o) ≤ length out - n
    small = omega (arith, ap length e, length-append J (drop (length J) o), h)
