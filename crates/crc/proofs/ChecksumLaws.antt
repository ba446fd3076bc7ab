-- A checksum goes on where it stopped, and a step over n bytes is n steps over one. Assumes nothing.
use mathlib.Core.Path.{◌≡◌, refl, sym, ap, ap₂, ◌∙◌}
use mathlib.Core.List.{List, [], ◌∷◌, ◌++◌}
use Prim.Native.Nat.{ℕ, zero, suc, ◌+◌, ◌-◌, ◌*◌, ◌/◌, ◌%◌, ◌^◌, ◌<◌, ◌≤◌}
use native.Mathlib.Nat.{add-zero, zero-mul, pow-suc, mul_comm}
use native.Mathlib.Omega.{arith}
use native.Mathlib.Numerals.{add-one}
use lib.ListN.{length, take, drop, get_or, drop_of_length-le, take-append-drop}
use lib.Pow.{pow-add}
use lib.Seq.{drop-cons, drop-drop}
use Rattle.std.specs.List.{fold}
use Rattle.std.specs.Simd.{first_chunks}
use lib.Bits.{bit_xor, xor_zero_l, xor_zero_r, xor_comm, xor_assoc, xor_shifted, xor_block}
use Rattle.le.specs.Bytes.{Bytes, field, byte}
use Rattle.le.proofs.FieldLaws.{field_none, field_more, field_add}
use Rattle.le.proofs.ByteLaws.{field_below}
use Rattle.remainder.specs.Remainder.{bits}
use Rattle.remainder.proofs.Remainders.{bits_xor, bits_shift, bits_add, bits_raised}
use Rattle.crc.specs.Checksum.{checksum_from}

-- a checksum goes on where it stopped
pub checksum_append : (c : ℕ) (s t : List ℕ) → checksum_from c (s ++ t) ≡ checksum_from (checksum_from c s) t
unfolding checksum_from
checksum_append c [] t = refl
checksum_append c (b ∷ s) t = checksum_append (bits 8 (bit_xor c b)) s t

-- one byte more of s, and none left
checksum_next : (c : ℕ) (s : List ℕ) (i : ℕ) → i < length s → checksum_from c (drop i s) ≡ checksum_from (bits 8 (bit_xor c (get_or s i 0))) (drop (i + 1) s)
unfolding checksum_from
checksum_next c s i h = rw (add-one, drop-cons s i 0)

pub checksum_done : (c : ℕ) (s : List ℕ) (i : ℕ) → length s ≤ i → checksum_from c (drop i s) ≡ c
unfolding checksum_from
checksum_done c s i h = rw (drop_of_length-le s h)

-- a byte and what stands above it: eight bits fall out, and what stood above is added
byte_more : (c b f : ℕ) → b < 256 → bits 8 (bit_xor c (b + 256 * f)) ≡ bit_xor (bits 8 (bit_xor c b)) f
byte_more c b f h =
    let e : b + 256 * f ≡ f * 2 ^ 8 + b = omega arith in
    ap (λ (x : ℕ). bits 8 (bit_xor c x)) (e ∙ sym (xor_shifted f 8 b h) ∙ xor_comm (f * 2 ^ 8) b)
    ∙ ap (bits 8) (sym (xor_assoc c b (f * 2 ^ 8)))
    ∙ bits_xor 8 (bit_xor c b) (f * 2 ^ 8)
    ∙ ap (bit_xor (bits 8 (bit_xor c b))) (bits_shift 8 f)

-- n bytes at once: the number that they make is added at the low end, and all its bits fall out
pub checksum_word : (n c : ℕ) (s : List ℕ) (i : ℕ) → Bytes s → i + n ≤ length s
    → checksum_from c (drop i s) ≡ checksum_from (bits (8 * n) (bit_xor c (field s i n))) (drop (i + n) s)
unfolding bits byte
checksum_word zero c s i b h =
    ap₂ (λ (x j : ℕ). checksum_from x (drop j s)) (sym (ap (bit_xor c) (field_none s i) ∙ xor_zero_r c)) (sym (add-zero i))
checksum_word (suc n) c s i b h =
    let e : 8 * suc n ≡ 8 + 8 * n = omega arith in
    let w : suc n ≡ 1 + n = omega arith in
    let j : i + 1 + n ≡ i + suc n = omega arith in
    checksum_next c s i (omega arith)
    ∙ checksum_word n (bits 8 (bit_xor c (get_or s i 0))) s (i + 1) b (omega arith)
    ∙ ap₂ (λ (x j : ℕ). checksum_from x (drop j s))
    (sym
    (ap (λ (k : ℕ). bits k (bit_xor c (field s i (suc n)))) e
    ∙ bits_add 8 (8 * n) (bit_xor c (field s i (suc n)))
    ∙ ap (bits (8 * n))
    (ap (λ (x : ℕ). bits 8 (bit_xor c x)) (ap (field s i) w ∙ field_more s i n)
    ∙ byte_more c (get_or s i 0) (field s (i + 1) n) (b.below i (omega arith)))))
    j

-- all the bytes at once
pub checksum_whole : (c : ℕ) (s : List ℕ) → Bytes s → checksum_from c s ≡ bits (8 * length s) (bit_xor c (field s 0 (length s)))
checksum_whole c s b =
    let n = length s in
    checksum_word n c s 0 b (omega arith) ∙ checksum_done (bits (8 * n) (bit_xor c (field s 0 n))) s (0 + n) (omega arith)

-- eight bytes at once, in two halves
pub checksum_eight : (c : ℕ) (s : List ℕ) → c < 4294967296 → Bytes s → length s ≡ 8 → checksum_from c s ≡ bits 64 (bit_xor c (field s 0 4) + 4294967296 * field s 4 4)
checksum_eight c s h b l =
    let e : field s 0 4 + 4294967296 * field s 4 4 ≡ field s 4 4 * 2 ^ 32 + field s 0 4 = omega arith in
    let none : c ≡ 0 * 2 ^ 32 + c = omega arith in
    rw l at (checksum_whole c s b)
    ∙ ap (bits 64)
    (ap₂ bit_xor none (field_add 4 4 s 0 ∙ e)
    ∙ xor_block 32 0 (field s 4 4) c (field s 0 4) h (field_below s 0 4 b)
    ∙ ap (λ (x : ℕ). x * 2 ^ 32 + bit_xor c (field s 0 4)) (xor_zero_l (field s 4 4))
    ∙ omega arith)

-- k parts of n bytes, one after the other, and then what is left
pub checksum_parts : (n k c : ℕ) (s : List ℕ) → checksum_from (fold checksum_from c (first_chunks n k s)) (drop (k * n) s) ≡ checksum_from c s
checksum_parts n zero c s = ap (λ (i : ℕ). checksum_from c (drop i s)) (zero-mul n)
checksum_parts n (suc k) c s =
    let e : suc k * n ≡ n + k * n = omega arith in
    ap (λ (t : List ℕ). checksum_from (fold checksum_from (checksum_from c (take n s)) (first_chunks n k (drop n s))) t)
    (ap (λ (i : ℕ). drop i s) e ∙ sym (drop-drop (k * n) n s))
    ∙ checksum_parts n k (checksum_from c (take n s)) (drop n s)
    ∙ sym (checksum_append c (take n s) (drop n s))
    ∙ ap (checksum_from c) (take-append-drop n s)

byte_power : (n : ℕ) → 256 ^ n ≡ 2 ^ (8 * n)
byte_power zero = refl
byte_power (suc n) =
    let e : 8 + 8 * n ≡ 8 * suc n = omega arith in
    pow-suc 256 n ∙ ap (λ (x : ℕ). x * 256) (byte_power n) ∙ mul_comm (2 ^ (8 * n)) 256 ∙ sym (pow-add 2 8 (8 * n)) ∙ ap (◌^◌ 2) e

-- fewer bytes than eight, all that there are: they are moved to the upper end of eight
pub checksum_rest : (c : ℕ) (s : List ℕ) (moved : ℕ) → Bytes s → length s < 8 → moved ≡ bit_xor c (field s 0 (length s)) * 2 ^ (64 - 8 * length s) % 2 ^ 64
    → checksum_from c s ≡ bit_xor (c / 2 ^ (8 * length s)) (bits 64 moved)
checksum_rest c s moved b h e =
    let n = length s in
    let x = bit_xor c (field s 0 n) in
    let whole : 64 - 8 * n + 8 * n ≡ 64 = omega arith in
    let below : field s 0 n < 2 ^ (8 * n) = omega (arith, field_below s 0 n b, byte_power n) in
    checksum_whole c s b
    ∙ bits_raised (64 - 8 * n) (8 * n) c (field s 0 n) below
    ∙ ap (λ (k : ℕ). bit_xor (c / 2 ^ (8 * n)) (bits k (x * 2 ^ (64 - 8 * n) % 2 ^ k))) whole
    ∙ ap (λ (y : ℕ). bit_xor (c / 2 ^ (8 * n)) (bits 64 y)) (sym e)
