-- The six words of a place, and where they come to stand. Assumes nothing.
use Prim.Native.Nat.{ℕ, zero, suc}
use mathlib.Core.Path.{◌≡◌, refl, sym, ap, ap₂, ◌∙◌}
use mathlib.Core.Bool.{cond}
use mathlib.Core.List.{List, ◌++◌, append_assoc}
use lib.Dec.{eqb}
use lib.ListN.{length, get_or, take, drop, length-append}
use lib.Seq.{take_at, drop_at, drop-drop}
use borrow.Author.Tests.{ne_eqb}
use borrow.Rule.Slice.PartMut.{put_mid}
use Rattle.laws.specs.Front.{fronted}
use Rattle.refusal.specs.declared.Fault.TheVariants.{ImageLength}
use Rattle.refusal.specs.declared.Refusal.{Refusal}
use Rattle.refusal.specs.Number.{number}
use Rattle.refusal.specs.Order.{◌at◌}
use Rattle.refusal.proofs.NumberLaws.{number_some, refusal_same}
use Rattle.rowcells.specs.RowCells.{cell_words, place_of}
use Rattle.std.specs.Prelude.{Option, Some, None, Result, Ok, Err}
use Rattle.cells.specs.declared.Cell.{Cell}
use Rattle.cells.specs.declared.Cell.TheVariants.{Empty, Item, Missing, Number, Subnode}

-- c comes to stand right behind J, in place of as many words
pub put_behind : (o J c out : List ℕ) (n k : ℕ) → out ≡ fronted J o → n ≡ length J → k ≡ length c → put_mid n k out c ≡ fronted (J ++ c) o
put_behind o J c out n k e h w =
    ap (λ x. take n x ++ (c ++ drop k (drop n x))) e
    ∙ ap₂ (λ x y. x ++ (c ++ drop k y)) (take_at J (drop (length J) o) n (sym h)) (drop_at J (drop (length J) o) n (sym h))
    ∙ sym (append_assoc J c (drop k (drop (length J) o)))
    ∙ ap (λ x. (J ++ c) ++ x) (ap (λ m. drop m (drop (length J) o)) w ∙ drop-drop (length c) (length J) o ∙ ap (λ m. drop m o) (sym (length-append J c)))

pub words_length : (x : Result (Option Cell) Refusal) → length (cell_words x) ≡ 6
unfolding cell_words
words_length (Ok (Some (Number value))) = refl
words_length (Ok (Some Empty)) = refl
words_length (Ok (Some (Item item))) = refl
words_length (Ok (Some (Subnode subnode))) = refl
words_length (Ok (Some Missing)) = refl
words_length (Ok None) = refl
words_length (Err r) = refl

pub place_length : (block rows : List ℕ) (row tag : ℕ) → length (place_of block rows row tag) ≡ 6
place_length block rows row tag = words_length _

-- the six words tell the answer: a refusal by the first, else whether it is there, then its kind and its value
made : ℕ → ℕ → Result (Option Cell) Refusal
made zero value = Ok (Some (Number value))
made (suc zero) value = Ok (Some Empty)
made (suc (suc zero)) value = Ok (Some (Item value))
made (suc (suc (suc zero))) value = Ok (Some (Subnode value))
made (suc (suc (suc (suc n)))) value = Ok (Some Missing)

present : List ℕ → Result (Option Cell) Refusal
present w = cond (eqb (get_or w 3 0) 0) (Ok None) (made (get_or w 4 0) (get_or w 5 0))

told : Refusal → List ℕ → Result (Option Cell) Refusal
told r w = cond (eqb (get_or w 0 0) 0) (present w) (Err r)

-- a refusal to stand where an answer has none
refusal_or : Result (Option Cell) Refusal → Refusal
refusal_or (Ok cell) = ImageLength at 0
refusal_or (Err r) = r

or_one : ℕ → ℕ
or_one zero = 1
or_one (suc n) = suc n

or_some : (n : ℕ) → (n ≡ 0 → ⊥) → or_one n ≡ n
unfolding or_one
or_some zero h = absurd (h refl)
or_some (suc n) h = refl

back : (x : Result (Option Cell) Refusal) → told (refusal_or x) (cell_words x) ≡ x
unfolding told present made refusal_or cell_words
back (Ok (Some (Number value))) = refl
back (Ok (Some Empty)) = refl
back (Ok (Some (Item item))) = refl
back (Ok (Some (Subnode subnode))) = refl
back (Ok (Some Missing)) = refl
back (Ok None) = refl
back (Err r) = rw (ne_eqb (number r.fault) 0 (number_some r.fault))

number_told : (x : Result (Option Cell) Refusal) → number (refusal_or x).fault ≡ or_one (get_or (cell_words x) 0 0)
unfolding refusal_or cell_words or_one
number_told (Ok (Some (Number value))) = refl
number_told (Ok (Some Empty)) = refl
number_told (Ok (Some (Item item))) = refl
number_told (Ok (Some (Subnode subnode))) = refl
number_told (Ok (Some Missing)) = refl
number_told (Ok None) = refl
number_told (Err r) = sym (or_some (number r.fault) (number_some r.fault))

place_told : (x : Result (Option Cell) Refusal) → ((refusal_or x).place ≡ get_or (cell_words x) 1 0) × ((refusal_or x).more ≡ get_or (cell_words x) 2 0)
unfolding refusal_or cell_words
place_told (Ok (Some (Number value))) = (refl, refl)
place_told (Ok (Some Empty)) = (refl, refl)
place_told (Ok (Some (Item item))) = (refl, refl)
place_told (Ok (Some (Subnode subnode))) = (refl, refl)
place_told (Ok (Some Missing)) = (refl, refl)
place_told (Ok None) = (refl, refl)
place_told (Err r) = (refl, refl)

pub words_injective : (x y : Result (Option Cell) Refusal) → cell_words x ≡ cell_words y → x ≡ y
words_injective x y e =
    let same = refusal_same (refusal_or x) (refusal_or y) (number_told x ∙ ap (λ (w : List ℕ). or_one (get_or w 0 0)) e ∙ sym (number_told y))
    ((place_told x).0 ∙ ap (λ (w : List ℕ). get_or w 1 0) e ∙ sym (place_told y).0) ((place_told x).1 ∙ ap (λ (w : List ℕ). get_or w 2 0) e ∙ sym (place_told y).1) in
    sym (back x) ∙ ap₂ told same e ∙ back y
