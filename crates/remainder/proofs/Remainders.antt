-- The step of a bit is linear, so that many bits of a number leave what they leave of each of its bytes. Assumes nothing.
use mathlib.Core.Path.{◌≡◌, refl, sym, ap, ap₂, ◌∙◌}
use Prim.Native.Nat.{ℕ, zero, suc, ◌+◌, ◌*◌, ◌/◌, ◌%◌, ◌^◌, ◌<◌}
use native.Mathlib.Nat.{zero-add, suc-add, pow-suc, mod-lt, div-eq_of_lt, div-div-eq-div-mul}
use native.Mathlib.Omega.{arith}
use lib.Pow.{pow_pos, split, shr-shr, shl-shr}
use lib.Bits.{bit_xor, xor_zero_r, xor_comm, xor_shr, xor_mod, xor_shifted, shifted_half, shifted_even}
use Rattle.laws.proofs.Xor.{xor_swap, digit_cases}
use Rattle.remainder.specs.Remainder.{polynomial, bit, bits, table_entry}

-- 003, 5.3: the last number of its first table
published : bits 8 255 ≡ 0x2D02EF8D
unfolding bits bit
published = refl

digit_mul : (x y : ℕ) → x < 2 → y < 2 → bit_xor x y * polynomial ≡ bit_xor (x * polynomial) (y * polynomial)
digit_mul x y hx hy =
    digit_cases (λ x. bit_xor x y * polynomial ≡ bit_xor (x * polynomial) (y * polynomial)) refl
    (digit_cases (λ y. bit_xor 1 y * polynomial ≡ bit_xor (1 * polynomial) (y * polynomial)) refl refl y hy) x hx

bit_of_xor : (a b : ℕ) → bit (bit_xor a b) ≡ bit_xor (bit a) (bit b)
unfolding bit
bit_of_xor a b =
    ap₂ (λ (x y : ℕ). bit_xor x (y * polynomial)) (xor_shr a b 1) (xor_mod a b 1)
    ∙ ap (bit_xor (bit_xor (a / 2) (b / 2))) (digit_mul (a % 2) (b % 2) (omega arith) (omega arith))
    ∙ xor_swap (a / 2) (b / 2) (a % 2 * polynomial) (b % 2 * polynomial)

pub bits_xor : (n a b : ℕ) → bits n (bit_xor a b) ≡ bit_xor (bits n a) (bits n b)
unfolding bits
bits_xor zero a b = refl
bits_xor (suc n) a b = ap (bits n) (bit_of_xor a b) ∙ bits_xor n (bit a) (bit b)

-- n bits fall out of a number that has none
pub bits_shift : (n h : ℕ) → bits n (h * 2 ^ n) ≡ h
unfolding bits bit
bits_shift zero h = omega arith
bits_shift (suc n) h =
    ap (bits n) (ap₂ (λ (x y : ℕ). bit_xor x (y * polynomial)) (shifted_half h n) (shifted_even h n) ∙ xor_zero_r (h * 2 ^ n))
    ∙ bits_shift n h

-- m bits fall out, and then n
pub bits_add : (m n x : ℕ) → bits (m + n) x ≡ bits n (bits m x)
unfolding bits
bits_add zero n x = ap (λ (k : ℕ). bits k x) (zero-add n)
bits_add (suc m) n x = ap (λ (k : ℕ). bits k x) (suc-add m n) ∙ bits_add m n (bit x)

-- what lies above the bits that fall out is added to what they leave
pub bits_split : (n x : ℕ) → bits n x ≡ bit_xor (x / 2 ^ n) (bits n (x % 2 ^ n))
bits_split n x =
    ap (bits n) (sym (xor_shifted (x / 2 ^ n) n (x % 2 ^ n) (mod-lt x (pow_pos n)) ∙ split x n))
    ∙ bits_xor n (x / 2 ^ n * 2 ^ n) (x % 2 ^ n)
    ∙ ap (λ (y : ℕ). bit_xor y (bits n (x % 2 ^ n))) (bits_shift n (x / 2 ^ n))

-- m bits fall out of the lowest m alone, and then n of everything
pub bits_parts : (m n x : ℕ) → bits (m + n) x ≡ bit_xor (bits (m + n) (x % 2 ^ m)) (bits n (x / 2 ^ m))
bits_parts m n x =
    bits_add m n x
    ∙ ap (bits n) (bits_split m x)
    ∙ bits_xor n (x / 2 ^ m) (bits m (x % 2 ^ m))
    ∙ xor_comm (bits n (x / 2 ^ m)) (bits n (bits m (x % 2 ^ m)))
    ∙ ap (λ (y : ℕ). bit_xor y (bits n (x / 2 ^ m))) (sym (bits_add m n (x % 2 ^ m)))

bits_none : (n : ℕ) → bits n 0 ≡ 0
unfolding bits bit
bits_none zero = refl
bits_none (suc n) = bits_none n

-- the k bytes of x / d, each by its table, added without carry; the last by table j
unfoldable pub spread : ℕ → ℕ → ℕ → ℕ → ℕ
spread zero j d x = 0
spread (suc k) j d x = bit_xor (table_entry (k + j) (x / d % 256)) (spread k j (d * 256) x)

pub bits_spread : (k j d x : ℕ) → x / d < 256 ^ k → bits (8 * (k + j)) (x / d) ≡ spread k j d x
unfolding spread table_entry
bits_spread zero j d x h =
    let none : x / d ≡ 0 = omega arith in
    ap (bits (8 * (0 + j))) none ∙ bits_none (8 * (0 + j))
bits_spread (suc k) j d x h =
    let e : 8 * (suc k + j) ≡ 8 + 8 * (k + j) = omega arith in
    let e' : 8 * (k + j + 1) ≡ 8 + 8 * (k + j) = omega arith in
    let q : x / d / 256 ≡ x / (d * 256) = div-div-eq-div-mul x d 256 in
    ap (λ (n : ℕ). bits n (x / d)) e
    ∙ bits_parts 8 (8 * (k + j)) (x / d)
    ∙ ap₂ bit_xor
    (ap (λ (n : ℕ). bits n (x / d % 256)) (sym e'))
    (ap (bits (8 * (k + j))) q ∙ bits_spread k j (d * 256) x (omega (arith, q, pow-suc 256 k)))

-- k bits of a sum with a number of k bits, as m + k bits of what comes to stand m bits higher, and what lies above it
pub bits_raised : (m k c f : ℕ) → f < 2 ^ k → bits k (bit_xor c f) ≡ bit_xor (c / 2 ^ k) (bits (m + k) (bit_xor c f * 2 ^ m % 2 ^ (m + k)))
bits_raised m k c f h =
    let x = bit_xor c f in
    let above : x * 2 ^ m / 2 ^ (m + k) ≡ c / 2 ^ k =
    sym (shr-shr (x * 2 ^ m) m k)
    ∙ ap (λ (y : ℕ). y / 2 ^ k) (shl-shr x m)
    ∙ xor_shr c f k
    ∙ ap (bit_xor (c / 2 ^ k)) (div-eq_of_lt h)
    ∙ xor_zero_r (c / 2 ^ k) in
    ap (bits k) (sym (bits_shift m x))
    ∙ sym (bits_add m k (x * 2 ^ m))
    ∙ bits_split (m + k) (x * 2 ^ m)
    ∙ ap (λ (y : ℕ). bit_xor y (bits (m + k) (x * 2 ^ m % 2 ^ (m + k)))) above
