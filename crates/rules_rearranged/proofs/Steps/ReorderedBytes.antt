-- Every byte of a file with its rows in another order, and from it the fields: the orders of a rearranged case and
-- the volumes of a rearranged proposal have moved, all else stands where it was. Assumes nothing.
use Rattle.std.specs.Prelude.{◌≡◌, List, ◌++◌, take, drop}
use Rattle.std.proofs.Common.{sym, ◌∙◌, div-add-mod', div-lt_iff_lt-mul, mod-lt, ext_get_or, to_z}
use Rattle.std.proofs.Math.Path.{ap}
use Prim.Native.Nat.{ℕ, zero, suc, ◌+◌, ◌*◌, ◌-◌, ◌/◌, ◌%◌, ◌≤◌, ◌<◌}
use Rattle.std.proofs.Math.Nat.{mul-le-mul_right}
use native.Mathlib.Omega.{arith}
use Rattle.std.proofs.Math.Decide.{dec_lt}
use Rattle.std.proofs.Math.ListN.{length, get_or, length-append, length-drop, get_or-append}
use Rattle.std.proofs.Math.Seq.{length-take-le, get_or-append-add, get_or-take, get_or-drop}
use Rattle.std.specs.Int.{w32}
use Rattle.rules.specs.Meaning.Layout.{u8_at, u16_at, u32_at, i32_at}
use Rattle.rules_rearranged.specs.Meaning.Rearranged.{file_row, joined_rows, reordered, Reordered}

module _ (start size n : ℕ) (source : ℕ → ℕ) (s : List ℕ) (fits : start + n * size ≤ length s) (inside : (i : ℕ) → i < n → source i < n) where
  row' : ℕ → List ℕ
  row' i = file_row start size s (source i)

  -- the rows, joined
  row-length : (i : ℕ) → i < n → length (row' i) ≡ size
  unfolding row' file_row
  row-length i h = length-take-le size (drop (start + source i * size) s) (omega (arith, length-drop (start + source i * size) s, mul-le-mul_right size (inside i h)))

  row-byte : (i k : ℕ) → k < size → get_or (row' i) k 0 ≡ get_or s (start + source i * size + k) 0
  unfolding row' file_row
  row-byte i k l = get_or-take size (drop (start + source i * size) s) k 0 l ∙ get_or-drop (start + source i * size) s k 0

  joined_length : (j : ℕ) → j ≤ n → length (joined_rows j row') ≡ j * size
  unfolding joined_rows
  joined_length zero h = omega arith
  joined_length (suc j) h = omega (arith, length-append (joined_rows j row') (row' j), joined_length j (omega arith), row-length j h)

  joined-byte : (j i k : ℕ) → i < j → j ≤ n → k < size → get_or (joined_rows j row') (i * size + k) 0 ≡ get_or (row' i) k 0
  unfolding joined_rows
  joined-byte zero i k h l b = absurd (omega arith)
  joined-byte (suc j) i k h l b = elim (dec_lt i j) [
    | yes m ↦ get_or-append (joined_rows j row') (row' j) 0 (i * size + k) (omega (arith, joined_length j (omega arith), mul-le-mul_right size m)) ∙ joined-byte j i k m (omega arith) b
    | no g ↦ last (omega arith) (joined_length j (omega arith))
  ]
    where
      last : i ≡ j → length (joined_rows j row') ≡ j * size → get_or (joined_rows j row' ++ row' j) (i * size + k) 0 ≡ get_or (row' i) k 0
      last e q = ap (λ (x : ℕ). get_or (joined_rows j row' ++ row' j) (x * size + k) 0) e ∙ ap (λ (x : ℕ). get_or (joined_rows j row' ++ row' j) (x + k) 0) (sym q)
          ∙ get_or-append-add (joined_rows j row') (row' j) k 0 ∙ ap (λ (x : ℕ). get_or (row' x) k 0) (sym e)

  -- the three parts of the file
  rows : List ℕ
  rows = joined_rows n row'

  rest : List ℕ
  rest = drop (start + n * size) s

  rows-length : length rows ≡ n * size
  unfolding rows
  rows-length = joined_length n (omega arith)

  head-length : length (take start s) ≡ start
  head-length = length-take-le start s (omega arith)

  past_head : (k : ℕ) → get_or (take start s ++ (rows ++ rest)) (start + k) 0 ≡ get_or (rows ++ rest) k 0
  past_head k = ap (λ (x : ℕ). get_or (take start s ++ (rows ++ rest)) (x + k) 0) (sym head-length) ∙ get_or-append-add (take start s) (rows ++ rest) k 0

  pub is-reordered : Reordered start size n source s (reordered start size n source s)
  unfolding reordered rows rest row'
  is-reordered = record {
    long = omega (arith, length-append (take start s) (rows ++ rest), length-append rows rest, head-length, rows-length, length-drop (start + n * size) s);
    before = λ k h. get_or-append (take start s) (rows ++ rest) 0 k (omega (arith, head-length)) ∙ get_or-take start s k 0 h;
    row = λ i k h l.
        let e : start + i * size + k ≡ start + (i * size + k) = omega arith in
        ap (λ (x : ℕ). get_or (take start s ++ (rows ++ rest)) x 0) e ∙ past_head (i * size + k)
        ∙ get_or-append rows rest 0 (i * size + k) (omega (arith, rows-length, mul-le-mul_right size h)) ∙ joined-byte n i k h (omega arith) l ∙ row-byte i k l;
    after = λ k h.
        let e : k ≡ start + (length rows + (k - (start + n * size))) = omega (arith, rows-length) in
        let f : start + n * size + (k - (start + n * size)) ≡ k = omega arith in
        ap (λ (x : ℕ). get_or (take start s ++ (rows ++ rest)) x 0) e ∙ past_head (length rows + (k - (start + n * size)))
        ∙ get_or-append-add rows rest (k - (start + n * size)) 0 ∙ get_or-drop (start + n * size) s (k - (start + n * size)) 0 ∙ ap (λ (x : ℕ). get_or s x 0) f;
  }

-- no other file has this
pub only-reordered : (start size n : ℕ) (source : ℕ → ℕ) (s a b : List ℕ) → 0 < size → Reordered start size n source s a → Reordered start size n source s b → a ≡ b
only-reordered start size n source s a b positive x y = ext_get_or 0 a b (x.long ∙ sym y.long) (λ k l. at k)
  where
    within : (k : ℕ) → start ≤ k → k < start + n * size → get_or a k 0 ≡ get_or b k 0
    within k h l =
        let i : ℕ = (k - start) / size in
        let j : ℕ = (k - start) % size in
        let e : k ≡ start + i * size + j = omega (arith, div-add-mod' (k - start) size) in
        let in_row : i < n = (div-lt_iff_lt-mul positive).1 (omega arith) in
        let in_size : j < size = mod-lt (k - start) positive in
        ap (λ (m : ℕ). get_or a m 0) e ∙ x.row i j in_row in_size ∙ sym (y.row i j in_row in_size) ∙ ap (λ (m : ℕ). get_or b m 0) (sym e)

    at : (k : ℕ) → get_or a k 0 ≡ get_or b k 0
    at k = elim (dec_lt k start) [
      | yes h ↦ x.before k h ∙ sym (y.before k h)
      | no g ↦ elim (dec_lt k (start + n * size)) [ yes l ↦ within k (omega arith) l | no m ↦ x.after k (omega arith) ∙ sym (y.after k (omega arith)) ]
    ]

-- A FIELD BEFORE THE ROWS, in one, after them
module _ {start size n : ℕ} {source : ℕ → ℕ} {s s'' : List ℕ} (r : Reordered start size n source s s'') where
  pub u8-before : (k : ℕ) → k + 1 ≤ start → u8_at s'' k ≡ u8_at s k
  unfolding u8_at
  u8-before k h = r.before k (omega arith)

  pub u16-before : (k : ℕ) → k + 2 ≤ start → u16_at s'' k ≡ u16_at s k
  unfolding u16_at
  u16-before k h = λ j. r.before k (omega arith) j + 256 * r.before (k + 1) (omega arith) j

  pub u32-before : (k : ℕ) → k + 4 ≤ start → u32_at s'' k ≡ u32_at s k
  unfolding u32_at
  u32-before k h = λ j. r.before k (omega arith) j + 256 * (r.before (k + 1) (omega arith) j + 256 * (r.before (k + 2) (omega arith) j + 256 * r.before (k + 3) (omega arith) j))

  pub i32-before : (k : ℕ) → k + 4 ≤ start → i32_at s'' k ≡ i32_at s k
  unfolding i32_at
  i32-before k h = ap (to_z w32) (u32-before k h)

  pub u32-after : (k : ℕ) → start + n * size ≤ k → u32_at s'' k ≡ u32_at s k
  unfolding u32_at
  u32-after k h = λ j. r.after k h j + 256 * (r.after (k + 1) (omega arith) j + 256 * (r.after (k + 2) (omega arith) j + 256 * r.after (k + 3) (omega arith) j))

  module _ (i : ℕ) (h : i < n) where
    byte : (k b : ℕ) → k + b < size → get_or s'' (start + i * size + k + b) 0 ≡ get_or s (start + source i * size + k + b) 0
    byte k b l =
        let e : start + i * size + k + b ≡ start + i * size + (k + b) = omega arith in
        let f : start + source i * size + (k + b) ≡ start + source i * size + k + b = omega arith in
        ap (λ (x : ℕ). get_or s'' x 0) e ∙ r.row i (k + b) h l ∙ ap (λ (x : ℕ). get_or s x 0) f

    pub u8-row : (k : ℕ) → k < size → u8_at s'' (start + i * size + k) ≡ u8_at s (start + source i * size + k)
    unfolding u8_at
    u8-row k l = r.row i k h l

    pub u32-row : (k : ℕ) → k + 4 ≤ size → u32_at s'' (start + i * size + k) ≡ u32_at s (start + source i * size + k)
    unfolding u32_at
    u32-row k l = λ j. r.row i k h (omega arith) j + 256 * (byte k 1 (omega arith) j + 256 * (byte k 2 (omega arith) j + 256 * byte k 3 (omega arith) j))

    pub i32-row : (k : ℕ) → k + 4 ≤ size → i32_at s'' (start + i * size + k) ≡ i32_at s (start + source i * size + k)
    unfolding i32_at
    i32-row k l = ap (to_z w32) (u32-row k l)
