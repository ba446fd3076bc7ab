-- The nine words of a place. Assumes nothing.
use Prim.Native.Nat.{ℕ}
use mathlib.Core.Path.{◌≡◌, refl, sym, ap, ◌∙◌}
use mathlib.Core.List.{List, ◌++◌, append_assoc}
use native.Mathlib.Omega.{arith}
use lib.ListN.{length, get_or, take, drop, length-append}
use lib.Seq.{take_at, drop_at, drop-drop}
use Rattle.laws.specs.Front.{fronted}
use Rattle.refusal.proofs.NumberLaws.{number_some, refusal_same}
use Rattle.edition.specs.declared.Layout.{Layout}
use Rattle.nodelist.specs.Places.{node_words, place_of}
use Rattle.std.specs.Prelude.{Result, Ok, Err}
use Rattle.refusal.specs.declared.Refusal.{Refusal}
use Rattle.tree.specs.declared.Found.{Found}
use Rattle.tree.specs.declared.Node.{Node}
use Rattle.tree.specs.declared.Found.TheVariants.{Absent, Entry}

pub words_length : (x : Result (Found Node) Refusal) → length (node_words x) ≡ 9
unfolding node_words
words_length (Ok (Entry n pages)) = refl
words_length (Ok (Absent pages)) = refl
words_length (Err r) = refl

-- the nine words tell the answer
pub words_injective : (x y : Result (Found Node) Refusal) → node_words x ≡ node_words y → x ≡ y
unfolding node_words
words_injective (Ok (Entry n p)) (Ok (Entry m q)) e = ap found_in e
  where
    found_in : List ℕ → Result (Found Node) Refusal
    found_in w = Ok (Entry (record { node = get_or w 5 0; block = get_or w 6 0; subnode = get_or w 7 0; parent = get_or w 8 0 }) (get_or w 4 0))
words_injective (Ok (Absent p)) (Ok (Absent q)) e = ap (λ (w : List ℕ). Ok (Absent (get_or w 4 0))) e
words_injective (Err r) (Err s) e =
    ap Err (refusal_same r s (ap (λ (w : List ℕ). get_or w 0 0) e) (ap (λ (w : List ℕ). get_or w 1 0) e) (ap (λ (w : List ℕ). get_or w 2 0) e))
words_injective (Ok (Entry n p)) (Ok (Absent q)) e = let clash : ◌≡◌ {A = ℕ} 1 0 = ap (λ (w : List ℕ). get_or w 3 0) e in absurd (omega arith)
words_injective (Ok (Entry n p)) (Err s) e = let clash : ◌≡◌ {A = ℕ} 1 0 = ap (λ (w : List ℕ). get_or w 3 0) e in absurd (omega arith)
words_injective (Ok (Absent p)) (Ok (Entry m q)) e = let clash : ◌≡◌ {A = ℕ} 0 1 = ap (λ (w : List ℕ). get_or w 3 0) e in absurd (omega arith)
words_injective (Err r) (Ok (Entry m q)) e = let clash : ◌≡◌ {A = ℕ} 0 1 = ap (λ (w : List ℕ). get_or w 3 0) e in absurd (omega arith)
words_injective (Ok (Absent p)) (Err s) e = absurd (number_some s.fault (sym (ap (λ (w : List ℕ). get_or w 0 0) e)))
words_injective (Err r) (Ok (Absent q)) e = absurd (number_some r.fault (ap (λ (w : List ℕ). get_or w 0 0) e))

-- every place has nine words
pub place_length : (L : Layout) (image : List ℕ) (node : ℕ) → length (place_of L image node) ≡ 9
place_length L image node = words_length _

-- a place written right behind those so far
pub place_written : (o J c x out : List ℕ) (n m : ℕ) → out ≡ fronted J o → n ≡ length J → m ≡ length c → x ≡ c
    → take n out ++ (x ++ drop m (drop n out)) ≡ fronted (J ++ c) o
place_written o J c x out n m e h k w =
    rw (w, k, take-is, rest)
    (sym (append_assoc J c (drop (length c) (drop (length J) o)))
    ∙ ap (λ (y : List ℕ). (J ++ c) ++ y) (drop-drop (length c) (length J) o ∙ ap (λ (i : ℕ). drop i o) (sym (length-append J c))))
  where
    take-is : take n out ≡ J
    take-is = ap (take n) e ∙ take_at J (drop (length J) o) n (sym h)

    rest : drop n out ≡ drop (length J) o
    rest = ap (drop n) e ∙ drop_at J (drop (length J) o) n (sym h)
