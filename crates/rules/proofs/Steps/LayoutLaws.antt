-- Written fields are read back: 32 bits, unsigned and signed, by the bytes at their offset. Assumes nothing.
use Rattle.std.specs.Prelude.{◌≡◌, List, ℕ, ◌+◌, ◌<◌, get_or, take, drop, ℤ}
use Rattle.std.proofs.Common.{sym, ap, ◌∙◌, arith, get_or-drop, get_or-take, SFits, to_z, of_z, to_z-of_z}
use Rattle.std.specs.Int.{w32}
use Rattle.std.proofs.Math.Facts.{Fits-of_z}
use Rattle.base_integers.specs.Meaning.Bytes.{bytes_of, number_of, signed32}
use Rattle.base_integers.specs.Steps.Bytes.{number-bytes}
use Rattle.rules.specs.Meaning.Layout.{u32_at, i32_at}

byte-there : (s b : List ℕ) (k i : ℕ) → take 4 (drop k s) ≡ b → i < 4 → get_or s (k + i) 0 ≡ get_or b i 0
byte-there s b k i e h = sym (get_or-drop k s i 0) ∙ sym (get_or-take 4 (drop k s) i 0 h) ∙ ap (λ (l : List ℕ). get_or l i 0) e

pub word-there : (s : List ℕ) (k n : ℕ) → n < 4294967296 → take 4 (drop k s) ≡ bytes_of 4 n → u32_at s k ≡ n
unfolding u32_at bytes_of number_of
word-there s k n h e = omega (
  arith,
  ap (λ (j : ℕ). get_or s j 0) first,
  byte-there s (bytes_of 4 n) k 0 e (omega arith),
  byte-there s (bytes_of 4 n) k 1 e (omega arith),
  byte-there s (bytes_of 4 n) k 2 e (omega arith),
  byte-there s (bytes_of 4 n) k 3 e (omega arith),
  number-bytes 4 n h,
)
  where
    first : k ≡ k + 0
    first = omega arith

pub signed-there : (s : List ℕ) (k : ℕ) (x : ℤ) → SFits w32 x → take 4 (drop k s) ≡ signed32 x → i32_at s k ≡ x
unfolding i32_at signed32
signed-there s k x f e = ap (to_z w32) (word-there s k (of_z w32 x) (omega (arith, (Fits-of_z f).fits)) e) ∙ to_z-of_z f
