-- The low bytes of a number: those that the library's method gives, copied into part of a buffer, are a run of stores.
-- And a number by halves: the low 32 of 64 bits are the number's own where it fits 32, and the bytes of 64 bits are
-- those of the halves. Assumes nothing.
use Rattle.std.specs.Prelude.{◌≡◌, refl, List, [], ◌∷◌, ◌++◌, ℕ, zero, suc, ◌+◌, ◌/◌, ◌%◌, ◌^◌, ◌≤◌, length, take, drop, ℤ, pos, negsuc}
use Rattle.std.proofs.Common.{sym, ap, ◌∙◌, append_assoc, pow-suc, arith, SFits, of_z}
use Rattle.std.proofs.Math.Nat.{div-div-eq-div-mul}
use Rattle.std.proofs.lemmas.List.{drop-drop}
use Rattle.std.proofs.lemmas.List.Edits.{sets, sets-eq}
use Rattle.std.specs.Int.{w32, w64, byte_at, bytes_low_first}
use borrow.Rule.Slice.PartMut.{put_mid}
use Rattle.base_integers.specs.Meaning.Bytes.{bytes_of}
use Rattle.base_integers.specs.Steps.Bytes.{bytes-split, sets-append}

pub low_bits : (z : ℤ) → SFits w32 z → of_z w64 z % 4294967296 ≡ of_z w32 z
low_bits (pos n) f = omega (arith, f.sfits)
low_bits (negsuc n) f = omega (arith, f.sfits)

-- a copy into the part from `at` on
pub copied : (l bytes : List ℕ) (at part : ℕ) → part ≡ length bytes → at + part ≤ length l → put_mid at part l bytes ≡ sets l at bytes
copied l bytes at part e h = (λ i. take at l ++ (bytes ++ past i)) ∙ sym (append_assoc (take at l) bytes (drop (at + length bytes) l)) ∙ sym (sets-eq bytes l at (omega arith))
  where
    past : drop part (drop at l) ≡ drop (at + length bytes) l
    past = drop-drop part at l ∙ ap (λ (k : ℕ). drop (at + k) l) e

-- the first k of j bytes, from byte i upward
low-from : (i k j n : ℕ) → k ≤ j → take k (bytes_low_first i j n) ≡ bytes_of k (n / 256 ^ i)
unfolding bytes_of
low-from i zero j n h = refl
low-from i (suc k) zero n h = absurd (omega arith)
low-from i (suc k) (suc j) n h = λ p. byte i n p ∷ (low-from (suc i) k j n (omega arith) ∙ ap (bytes_of k) next) p
  where
    byte : (i n : ℕ) → byte_at i n ≡ n / 256 ^ i % 256
    byte zero n = omega arith
    byte (suc i) n = refl

    next : n / 256 ^ suc i ≡ n / 256 ^ i / 256
    next = ap (λ (p : ℕ). n / p) (pow-suc 256 i) ∙ sym (div-div-eq-div-mul n (256 ^ i) 256)

pub low-bytes : (k n : ℕ) → k ≤ 8 → take k (bytes_low_first 0 8 n) ≡ bytes_of k n
low-bytes k n h = low-from 0 k 8 n h ∙ ap (bytes_of k) (omega arith)

-- two halves in a row
pub two-halves : (l : List ℕ) (at n : ℕ) → sets (sets l at (bytes_of 4 (n % 4294967296))) (at + 4) (bytes_of 4 (n / 4294967296)) ≡ sets l at (bytes_of 8 n)
unfolding bytes_of
two-halves l at n = sets-append l at (bytes_of 4 (n % 4294967296)) (bytes_of 4 (n / 4294967296)) ∙ ap (sets l at) (bytes-split 4 4 n)

pub low_half : (n : ℕ) → bytes_of 4 (n % 4294967296) ≡ bytes_of 4 n
unfolding bytes_of
low_half n = λ i. first i ∷ second i ∷ third i ∷ fourth i ∷ []
  where
    first : n % 4294967296 % 256 ≡ n % 256
    first = omega arith

    second : n % 4294967296 / 256 % 256 ≡ n / 256 % 256
    second = omega arith

    third : n % 4294967296 / 256 / 256 % 256 ≡ n / 256 / 256 % 256
    third = omega arith

    fourth : n % 4294967296 / 256 / 256 / 256 % 256 ≡ n / 256 / 256 / 256 % 256
    fourth = omega arith
