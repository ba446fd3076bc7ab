-- The tables' rules, computed once over the tables and carried to each byte, and the round trips that follow. Assumes nothing.
use Rattle.std.proofs.Common.{◌≡◌, ℕ, ◌+◌, ◌/◌, ◌%◌, ◌<◌, ◌≤◌, Bool, true, false, cond, eqb, List, [], ◌∷◌, map, get_or, refl, ap, ◌∙◌, ap₂, arith}
use lib.Bits.{xor_lt}
use Rattle.laws.proofs.Table.{agree}
use Rattle.le.specs.Bytes.{Bytes}
use Rattle.le.proofs.ByteLaws.{first_below, rest_bytes}
use Rattle.coding.specs.Table.{coding_table, entry, R, S, I}
use Rattle.coding.specs.Coding.{plus, minus, cyclic_byte, cyclic, word, coded, encoded, decoded}

-- g undoes f on bytes
abbrev pub Undoes : (ℕ → ℕ) → (ℕ → ℕ) → Type 0
Undoes g f = (b : ℕ) → b < 256 → g (f b) ≡ b

pub i_undoes_r : Undoes I R
unfolding coding_table entry
i_undoes_r = agree (λ b. I (R b)) (λ b. b) 256 refl

pub r_undoes_i : Undoes R I
unfolding coding_table entry
r_undoes_i = agree (λ b. R (I b)) (λ b. b) 256 refl

pub s_undoes_s : Undoes S S
unfolding coding_table entry
s_undoes_s = agree (λ b. S (S b)) (λ b. b) 256 refl

-- each of the 768 entries is a byte
entry_byte : (k : ℕ) → k < 768 → get_or coding_table k 0 % 256 ≡ get_or coding_table k 0
unfolding coding_table
entry_byte = agree (λ k. get_or coding_table k 0 % 256) (λ k. get_or coding_table k 0) 768 refl

pub entry_below : (from b : ℕ) → from ≤ 512 → b < 256 → entry from b < 256
unfolding entry
entry_below from b h k = omega (arith, entry_byte (from + b) (omega arith))

map_undone : (f g : ℕ → ℕ) → Undoes g f → (s : List ℕ) → Bytes s → map g (map f s) ≡ s
map_undone f g u [] h = refl
map_undone f g u (b ∷ s) h = ap₂ ◌∷◌ (u b (first_below h)) (map_undone f g u s (rest_bytes h))

-- a byte added and subtracted again, in either order
plus_minus : (x k : ℕ) → x < 256 → k < 256 → plus (minus x k) k ≡ x
plus_minus x k h j = omega arith

minus_plus : (x k : ℕ) → x < 256 → k < 256 → minus (plus x k) k ≡ x
minus_plus x k h j = omega arith

-- the steps on one byte, done twice: from the inside out each step meets the one that undoes it
byte_twice : (w b : ℕ) → w < 65536 → b < 256 → cyclic_byte w (cyclic_byte w b) ≡ b
unfolding cyclic_byte
byte_twice w b hw hb =
    let low = w % 256 in
    let high = w / 256 in
    let x = R (plus b low) in
    let y = S (plus x high) in
    let z = I (minus y high) in
    ap (λ (v : ℕ). minus (I (minus (S (plus (R v) high)) high)) low)
    (plus_minus z low (entry_below 512 (minus y high) (omega arith) (omega arith)) (omega arith))
    ∙ ap (λ (v : ℕ). minus (I (minus (S (plus v high)) high)) low) (r_undoes_i (minus y high) (omega arith))
    ∙ ap (λ (v : ℕ). minus (I (minus (S v) high)) low)
    (plus_minus y high (entry_below 256 (plus x high) (omega arith) (omega arith)) (omega arith))
    ∙ ap (λ (v : ℕ). minus (I (minus v high)) low) (s_undoes_s (plus x high) (omega arith))
    ∙ ap (λ (v : ℕ). minus (I v) low) (minus_plus x high (entry_below 0 (plus b low) (omega arith) (omega arith)) (omega arith))
    ∙ ap (λ (v : ℕ). minus v low) (i_undoes_r (plus b low) (omega arith))
    ∙ minus_plus b low hb (omega arith)

-- "same steps both ways": done twice under one number they give the bytes back
pub cyclic_twice : (w : ℕ) (s : List ℕ) → w < 65536 → Bytes s → cyclic w (cyclic w s) ≡ s
unfolding cyclic
cyclic_twice w [] hw h = refl
cyclic_twice w (b ∷ s) hw h = ap₂ ◌∷◌ (byte_twice w b hw (first_below h)) (cyclic_twice ((w + 1) % 65536) s (omega arith) (rest_bytes h))

word_below : (block : ℕ) → word block < 65536
unfolding word
word_below block = xor_lt 16 (block % 65536) (block / 65536 % 65536) (omega arith) (omega arith)

coded_undone : (f g : ℕ → ℕ) → Undoes g f → (method block : ℕ) (s : List ℕ) → Bytes s → coded g method block (coded f method block s) ≡ s
unfolding coded
coded_undone f g u method block s h = by_method (eqb method 1) (eqb method 2)
  where
    by_method : (p c : Bool) →
        (let once = cond p (map f s) (cond c (cyclic (word block) s) s) in cond p (map g once) (cond c (cyclic (word block) once) once)) ≡ s
    by_method true c = map_undone f g u s h
    by_method false true = cyclic_twice (word block) s (word_below block) h
    by_method false false = refl

-- decoding what was encoded gives back every byte string, under every method and block number; and the other way round
pub decoded_encoded : (method block : ℕ) (s : List ℕ) → Bytes s → decoded method block (encoded method block s) ≡ s
decoded_encoded = coded_undone R I i_undoes_r

pub encoded_decoded : (method block : ℕ) (s : List ℕ) → Bytes s → encoded method block (decoded method block s) ≡ s
encoded_decoded = coded_undone I R r_undoes_i
