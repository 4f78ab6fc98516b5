-- A part of a file: a field of it is the field of the file at its offset. Assumes nothing.
use Rattle.std.specs.Prelude.{◌≡◌, List, ℕ, ◌+◌, ◌*◌, ◌≤◌, ◌<◌, length, get_or, take, drop}
use Rattle.std.proofs.Math.Path.{ap}
use Rattle.std.proofs.Common.{◌∙◌, arith, length-drop, get_or-take, get_or-drop, length-take-le, to_z}
use Rattle.std.specs.Int.{w32}
use Rattle.rules.specs.Meaning.Layout.{u8_at, u16_at, u32_at, i32_at}

module _ (s : List ℕ) (at n : ℕ) where
  abbrev pub part_of : List ℕ
  part_of = take n (drop at s)

  pub part_length : at + n ≤ length s → length part_of ≡ n
  part_length h = length-take-le n (drop at s) (omega (arith, length-drop at s))

  byte-is : (i : ℕ) → i < n → get_or part_of i 0 ≡ get_or s (at + i) 0
  byte-is i h = get_or-take n (drop at s) i 0 h ∙ get_or-drop at s i 0

  byte_at : (i k : ℕ) → i < n → at + i ≡ k → get_or part_of i 0 ≡ get_or s k 0
  byte_at i k h e = byte-is i h ∙ ap (λ (j : ℕ). get_or s j 0) e

  pub part-u8 : (i : ℕ) → i < n → u8_at part_of i ≡ u8_at s (at + i)
  unfolding u8_at
  part-u8 i h = byte-is i h

  pub part-u16 : (i : ℕ) → i + 1 < n → u16_at part_of i ≡ u16_at s (at + i)
  unfolding u16_at
  part-u16 i h = λ j. byte-is i (omega arith) j + 256 * byte_at (i + 1) (at + i + 1) h (omega arith) j

  pub part-u32 : (i : ℕ) → i + 3 < n → u32_at part_of i ≡ u32_at s (at + i)
  unfolding u32_at
  part-u32 i h = λ j.
      byte-is i (omega arith) j
      + 256 * (byte_at (i + 1) (at + i + 1) (omega arith) (omega arith) j + 256 * (byte_at (i + 2) (at + i + 2) (omega arith) (omega arith) j + 256 * byte_at (i + 3) (at + i + 3) h (omega arith) j))

  pub part-i32 : (i : ℕ) → i + 3 < n → i32_at part_of i ≡ i32_at s (at + i)
  unfolding i32_at
  part-i32 i h = ap (to_z w32) (part-u32 i h)
