-- The transpose of a table undoes the other one; and each byte of a file in the other arrangement. Assumes nothing.
use Rattle.std.specs.Prelude.{◌≡◌, List, [], ◌∷◌, length, get_or}
use Rattle.std.proofs.Math.Path.{sym}
use Rattle.std.proofs.Common.{ap, ◌∙◌, add-zero, mul_comm, div-lt_iff_lt-mul, mod-lt, mod-eq_of_lt, ext_get_or}
use Prim.Native.Nat.{ℕ, zero, suc, ◌+◌, ◌*◌, ◌-◌, ◌/◌, ◌%◌, ◌≤◌, ◌<◌}
use Rattle.std.proofs.Math.Nat.{mul-le-mul_right, div-add-mod', div-eq_of_lt, mul-add-div_right, mul-add-mod_self_right}
use Rattle.std.proofs.Math.Decide.{dec_lt}
use native.Mathlib.Omega.{arith}
use borrow.Author.Tests.{lt-ltb, le-ltb}
use Rattle.std.proofs.Math.ListN.{get_or-eq_default}
use Rattle.column_file.proofs.Steps.Listed.{listed-length, listed_at, listed-past}
use Rattle.column_file.specs.Meaning.Columns.{transposed, arranged_byte, arranged}

-- THE TABLE: row i and column j
pub transposed-at : (rows columns i j : ℕ) → j < columns → transposed rows columns (i * columns + j) ≡ j * rows + i
unfolding transposed
transposed-at rows columns i j h =
    let m = mul-add-mod_self_right i columns j ∙ mod-eq_of_lt h in
    let d : (i * columns + j) / columns ≡ i = mul-add-div_right (omega arith) i j ∙ ap (λ (x : ℕ). i + x) (div-eq_of_lt h) ∙ add-zero i in
    λ k. m k * rows + d k

-- a table with a byte has a column
some-column : (rows columns q : ℕ) → q < rows * columns → 0 < columns
some-column rows zero q h = absurd (omega (arith, mul_comm rows 0))
some-column rows (suc n) q h = omega arith

module _ (rows columns q : ℕ) (h : q < rows * columns) where
  row_in : q / columns < rows
  row_in = (div-lt_iff_lt-mul (some-column rows columns q h)).1 h

  column-in : q % columns < columns
  column-in = mod-lt q (some-column rows columns q h)

  pub transposed-in : transposed rows columns q < columns * rows
  unfolding transposed
  transposed-in = let n : suc (q % columns) ≤ columns = column-in in omega (arith, row_in, mul-le-mul_right rows n)

  -- there and back
  pub transposed-back : transposed columns rows (transposed rows columns q) ≡ q
  unfolding transposed
  transposed-back = transposed-at columns rows (q % columns) (q / columns) row_in ∙ div-add-mod' q columns

-- A BYTE of a file in the other arrangement
module _ (letter start rows columns : ℕ) (s : List ℕ) where
  pub arranged-length : length (arranged letter start rows columns s) ≡ length s
  unfolding arranged
  arranged-length = listed-length (length s) (arranged_byte letter start rows columns s)

  byte-is : (k : ℕ) → k < length s → get_or (arranged letter start rows columns s) k 0 ≡ arranged_byte letter start rows columns s k
  unfolding arranged
  byte-is k h = listed_at (length s) (arranged_byte letter start rows columns s) k h

  pub arranged-mark : (k : ℕ) → k < 3 → k < length s → get_or (arranged letter start rows columns s) k 0 ≡ get_or (76 ∷ 84 ∷ letter ∷ []) k 0
  unfolding arranged_byte
  arranged-mark k h l = byte-is k l ∙ simp (lt-ltb k 3 h)

  -- past the end both are zero
  pub arranged-kept : (k : ℕ) → 3 ≤ k → k < start → get_or (arranged letter start rows columns s) k 0 ≡ get_or s k 0
  unfolding arranged_byte arranged
  arranged-kept k h l = elim (dec_lt k (length s)) [
    | yes i ↦ byte-is k i ∙ simp (le-ltb k 3 h, lt-ltb k start l)
    | no g ↦ listed-past (length s) (arranged_byte letter start rows columns s) k (omega arith) ∙ sym (get_or-eq_default s 0 (omega arith))
  ]

  pub arranged-order : (q : ℕ) → 3 ≤ start → start + q < length s → get_or (arranged letter start rows columns s) (start + q) 0 ≡ get_or s (start + transposed rows columns q) 0
  unfolding arranged_byte
  arranged-order q h l =
      let a : 3 ≤ start + q = omega arith in
      let b : start ≤ start + q = omega arith in
      let e : start + q - start ≡ q = omega arith in
      byte-is (start + q) l ∙ simp (le-ltb (start + q) 3 a, le-ltb (start + q) start b, e)

-- THERE AND BACK: the mark of s is LT and a letter, and its orders end it
module _ (letter other start rows columns : ℕ) (s : List ℕ) (h : 3 ≤ start) (full : length s ≡ start + rows * columns)
    (a : get_or s 0 0 ≡ 76) (b : get_or s 1 0 ≡ 84) (d : get_or s 2 0 ≡ letter) where
  abbrev t : List ℕ
  t = arranged other start rows columns s

  abbrev back : List ℕ
  back = arranged letter start columns rows t

  long : length t ≡ length s
  long = arranged-length other start rows columns s

  mark : (k : ℕ) → k < 3 → get_or (76 ∷ 84 ∷ letter ∷ []) k 0 ≡ get_or s k 0
  mark zero l = sym a
  mark (suc zero) l = sym b
  mark (suc (suc zero)) l = sym d
  mark (suc (suc (suc k))) l = absurd (omega arith)

  order : (q : ℕ) → start + q < length s → get_or back (start + q) 0 ≡ get_or s (start + q) 0
  order q l =
      let i : q < columns * rows = omega (arith, mul_comm rows columns) in
      arranged-order letter start columns rows t q h (omega (arith, long))
      ∙ arranged-order other start rows columns s (transposed columns rows q) h (omega (arith, transposed-in columns rows q i))
      ∙ ap (λ (x : ℕ). get_or s (start + x) 0) (transposed-back columns rows q i)

  byte-back : (k : ℕ) → k < length s → get_or back k 0 ≡ get_or s k 0
  byte-back k l = elim (dec_lt k 3) [
    | yes m ↦ arranged-mark letter start columns rows t k m (omega (arith, long)) ∙ mark k m
    | no g ↦ elim (dec_lt k start) [
      | yes m ↦ arranged-kept letter start columns rows t k (omega arith) m ∙ arranged-kept other start rows columns s k (omega arith) m
      | no n ↦ past (k - start) (omega arith)
    ]
  ]
    where
      past : (q : ℕ) → k ≡ start + q → get_or back k 0 ≡ get_or s k 0
      past q e = ap (λ (x : ℕ). get_or back x 0) e ∙ order q (omega arith) ∙ ap (λ (x : ℕ). get_or s x 0) (sym e)

  pub there_and_back : arranged letter start columns rows (arranged other start rows columns s) ≡ s
  there_and_back =
      let e = arranged-length letter start columns rows t ∙ long in
      ext_get_or 0 back s e (λ k l. byte-back k (omega (arith, e)))
