-- Numbers as little-endian bytes of any width, and back; signed 32 and 64 bits in two's complement; runs of stores.
-- Assumes nothing.
use Rattle.std.specs.Prelude.{◌≡◌, refl, List, [], ◌∷◌, ◌++◌, ℕ, zero, suc, ◌+◌, ◌*◌, ◌/◌, ◌%◌, ◌^◌, ◌≤◌, ◌<◌, length, get_or, set, ℤ}
use Rattle.std.proofs.Common.{sym, ap, ◌∙◌, add-zero, div-lt_iff_lt-mul, pow-suc, arith, to_z-of_z}
use Rattle.std.proofs.Math.Nat.{mod-add-div, div-div-eq-div-mul, pow-succ', pow-le-pow_right}
use Rattle.std.proofs.Math.Arith.{mod-mul}
use Rattle.std.proofs.lemmas.List.Edits.{sets}
use Rattle.std.specs.Int.{Width, w64}
use mir.Val.{SFits, bits, to_z, of_z}
use Rattle.std.proofs.Math.Facts.{Fits-of_z}
use Rattle.base_integers.specs.Meaning.Bytes.{bytes_of, number_of, signed64}

pub bytes-length : (k n : ℕ) → length (bytes_of k n) ≡ k
unfolding bytes_of
bytes-length zero n = refl
bytes-length (suc k) n = ap suc (bytes-length k (n / 256))

-- byte k, counted from the lowest, is the number over 256 ^ k, modulo 256
pub byte_at : (w n k : ℕ) → k < w → get_or (bytes_of w n) k 0 ≡ n / 256 ^ k % 256
unfolding bytes_of
byte_at zero n k h = absurd (none k h)
  where
    none : (k : ℕ) → k < 0 → ⊥
    none k h = omega arith
byte_at (suc w) n zero h = omega arith
byte_at (suc w) n (suc k) h =
    let high : n / 256 ^ suc k ≡ n / 256 / 256 ^ k = ap (λ (p : ℕ). n / p) (pow-succ' 256 k) ∙ sym (div-div-eq-div-mul n 256 (256 ^ k)) in
    byte_at w (n / 256) k (omega (arith, h)) ∙ ap (λ (m : ℕ). m % 256) (sym high)

-- what was written is read back
pub number-bytes : (k n : ℕ) → n < 256 ^ k → number_of (bytes_of k n) ≡ n
unfolding bytes_of number_of
number-bytes zero n h = omega arith
number-bytes (suc k) n h = ap (λ (m : ℕ). n % 256 + 256 * m) (number-bytes k (n / 256) ((div-lt_iff_lt-mul (omega arith)).1 (omega arith))) ∙ mod-add-div n 256

-- the low bytes and then the high ones
pub bytes-split : (j k n : ℕ) → bytes_of j (n % 256 ^ j) ++ bytes_of k (n / 256 ^ j) ≡ bytes_of (j + k) n
unfolding bytes_of
bytes-split zero k n = (λ i. bytes_of (none i) (all i))
  where
    all : n / 256 ^ 0 ≡ n
    all = omega arith

    none : k ≡ 0 + k
    none = omega arith
bytes-split (suc j) k n =
    let low : n % 256 ^ suc j ≡ n / 256 % 256 ^ j * 256 + n % 256 = ap (λ (p : ℕ). n % p) (pow-suc 256 j) ∙ mod-mul n (pow-le-pow_right (omega arith) {i = 0} {j = j} (omega arith)) (omega arith) in
    let first : n % 256 ^ suc j % 256 ≡ n % 256 = omega (arith, low) in
    let others : n % 256 ^ suc j / 256 ≡ n / 256 % 256 ^ j = omega (arith, low) in
    let high : n / 256 ^ suc j ≡ n / 256 / 256 ^ j = ap (λ (p : ℕ). n / p) (pow-succ' 256 j) ∙ sym (div-div-eq-div-mul n 256 (256 ^ j)) in
    let count : suc (j + k) ≡ suc j + k = omega arith in
    (λ i. first i ∷ bytes_of j (others i) ++ bytes_of k (high i)) ∙ ap (λ (l : List ℕ). n % 256 ∷ l) (bytes-split j k (n / 256)) ∙ ap (λ (m : ℕ). bytes_of m n) count

number-signed : (w : Width) (k : ℕ) (z : ℤ) → 2 ^ bits w ≤ 256 ^ k → SFits w z → to_z w (number_of (bytes_of k (of_z w z))) ≡ z
number-signed w k z h f = ap (to_z w) (number-bytes k (of_z w z) (omega (arith, (Fits-of_z f).fits))) ∙ to_z-of_z f

pub number-signed64 : (z : ℤ) → SFits w64 z → to_z w64 (number_of (signed64 z)) ≡ z
unfolding signed64
number-signed64 z f = number-signed w64 8 z (omega arith) f

-- two runs of stores, the second right after the first, are one run
pub sets-append : {A : Type 0} (l : List A) (i : ℕ) (a b : List A) → sets (sets l i a) (i + length a) b ≡ sets l i (a ++ b)
sets-append l i [] b = ap (λ (k : ℕ). sets l k b) (add-zero i)
sets-append l i (x ∷ a) b = ap (λ (k : ℕ). sets (sets (set l i x) (suc i) a) k b) next ∙ sets-append (set l i x) (suc i) a b
  where
    next : i + suc (length a) ≡ suc i + length a
    next = omega arith
