-- The parts of a file in the other arrangement as runs of stores. Assumes nothing.
use Rattle.std.specs.Prelude.{◌≡◌, ℕ, suc, ◌+◌, ◌*◌, ◌-◌, ◌≤◌, ◌<◌}
use Rattle.std.proofs.Math.Path.{refl, sym, ap}
use Rattle.std.proofs.Common.{◌∙◌, mul_comm, mul-le-mul_right, ext_get_or}
use mathlib.Core.List.{List, [], ◌∷◌, ◌++◌}
use native.Mathlib.Omega.{arith}
use borrow.Author.Tests.{lt-ltb, le-ltb}
use Rattle.std.proofs.Math.ListN.{length, get_or, drop, get_or-append}
use Rattle.std.proofs.Math.Seq.{sets, sets-eq}
use Rattle.column_file.proofs.Steps.Listed.{listed-length, listed_at, listed-ext, store-list}
use Rattle.column_file.specs.Meaning.Columns.{listed, transposed, arranged_byte, arranged}
use Rattle.column_file.proofs.Steps.Transposed.{transposed-at}
use Rattle.column_file.specs.Steps.Stored.{every, orders}

-- row i of the table, and byte j of it in the source, are within a file that holds the table
pub row_inside : (start rows columns i : ℕ) {n : ℕ} → start + rows * columns ≤ n → i < rows → start + i * columns + columns ≤ n
row_inside start rows columns i h l = let m : suc i ≤ rows = l in omega (arith, mul-le-mul_right columns m)

pub byte_inside : (start rows columns i j : ℕ) {n : ℕ} → start + rows * columns ≤ n → i < rows → j < columns → start + i + j * rows < n
byte_inside start rows columns i j h l k = let m : suc j ≤ columns = k in omega (arith, mul-le-mul_right rows m, mul_comm rows columns)

-- no row yet, and one row more
pub no_row : (l s : List ℕ) (start rows columns : ℕ) → l ≡ sets l start (orders start rows columns (0 * columns) s)
unfolding orders listed
no_row l s start rows columns = let e : 0 ≡ 0 * columns = omega arith in ap (λ (n : ℕ). sets l start (listed n (λ q. get_or s (start + transposed rows columns q) 0))) e

pub next_row : (l s : List ℕ) (start rows columns i : ℕ)
    → sets (sets l start (orders start rows columns (i * columns) s)) (start + i * columns) (every (start + i) rows columns s) ≡ sets l start (orders start rows columns ((i + 1) * columns) s)
unfolding every orders
next_row l s start rows columns i =
    let f : ℕ → ℕ = λ q. get_or s (start + transposed rows columns q) 0 in
    let e : i * columns + columns ≡ (i + 1) * columns = omega arith in
    ap (sets (sets l start (listed (i * columns) f)) (start + i * columns))
    (listed-ext columns (λ j. get_or s (start + i + j * rows) 0) (λ j. f (i * columns + j)) (λ j h. place j (sym (transposed-at rows columns i j h))))
    ∙ store-list l start (i * columns) columns f
    ∙ ap (λ (n : ℕ). sets l start (listed n f)) e
  where
    place : (j : ℕ) {q : ℕ} → j * rows + i ≡ q → get_or s (start + i + j * rows) 0 ≡ get_or s (start + q) 0
    place j {q} e = let p : start + i + j * rows ≡ start + q = omega arith in ap (λ (x : ℕ). get_or s x 0) p

-- MARK, KEPT BYTES AND ORDERS in one run, which is the file
module _ (letter start rows columns : ℕ) (s : List ℕ) (h : 3 ≤ start) (full : start + rows * columns ≡ length s) where
  abbrev byte : ℕ → ℕ
  byte = arranged_byte letter start rows columns s

  mark-part : listed 3 byte ≡ 76 ∷ 84 ∷ letter ∷ []
  unfolding listed arranged_byte
  mark-part = refl

  kept-part : listed (start - 3) (λ k. byte (3 + k)) ≡ every 3 1 (start - 3) s
  unfolding every arranged_byte
  kept-part = listed-ext (start - 3) (λ k. byte (3 + k)) (λ j. get_or s (3 + j * 1) 0) at
    where
      at : (k : ℕ) → k < start - 3 → byte (3 + k) ≡ get_or s (3 + k * 1) 0
      at k l =
          let a : 3 ≤ 3 + k = omega arith in
          let b : 3 + k < start = omega arith in
          let e : 3 + k ≡ 3 + k * 1 = omega arith in
          simp (le-ltb (3 + k) 3 a, lt-ltb (3 + k) start b) (ap (λ (x : ℕ). get_or s x 0) e)

  orders-part : listed (rows * columns) (λ q. byte (start + q)) ≡ orders start rows columns (rows * columns) s
  unfolding orders arranged_byte
  orders-part = listed-ext (rows * columns) (λ q. byte (start + q)) (λ q. get_or s (start + transposed rows columns q) 0) at
    where
      at : (q : ℕ) → q < rows * columns → byte (start + q) ≡ get_or s (start + transposed rows columns q) 0
      at q l =
          let a : 3 ≤ start + q = omega arith in
          let b : start ≤ start + q = omega arith in
          let e : start + q - start ≡ q = omega arith in
          simp (le-ltb (start + q) 3 a, le-ltb (start + q) start b, e)

  pub file-run : (l : List ℕ) → length s ≤ length l
      → sets (sets (sets l 0 (76 ∷ 84 ∷ letter ∷ [])) 3 (every 3 1 (start - 3) s)) start (orders start rows columns (rows * columns) s) ≡ arranged letter start rows columns s ++ drop (length s) l
  unfolding arranged
  file-run l room =
      let front : 3 + (start - 3) ≡ start = omega arith in
      let past : start ≡ 0 + start = omega arith in
      let e : 0 + length (listed (length s) byte) ≡ length s = omega (arith, listed-length (length s) byte) in
      sym (λ j. sets (sets (sets l 0 (mark-part j)) 3 (kept-part j)) start (orders-part j))
      ∙ ap (λ (x : List ℕ). sets x start (listed (rows * columns) (λ q. byte (start + q)))) (store-list l 0 3 (start - 3) byte ∙ ap (λ (n : ℕ). sets l 0 (listed n byte)) front)
      ∙ ap (λ (x : ℕ). sets (sets l 0 (listed start byte)) x (listed (rows * columns) (λ q. byte (start + q)))) past
      ∙ store-list l 0 start (rows * columns) byte
      ∙ ap (λ (n : ℕ). sets l 0 (listed n byte)) full
      ∙ sets-eq (listed (length s) byte) l 0 (omega (arith, e))
      ∙ ap (λ (n : ℕ). listed (length s) byte ++ drop n l) e

-- A COPY of the first n bytes
pub copy_run : (text rest l : List ℕ) (n : ℕ) → length text ≡ n → n ≤ length l → sets l 0 (every 0 1 n (text ++ rest)) ≡ text ++ drop n l
unfolding every
copy_run text rest l n e h =
    let f : ℕ → ℕ = λ j. get_or (text ++ rest) (0 + j * 1) 0 in
    let p : 0 + length text ≡ n = omega (arith, e) in
    ap (sets l 0) (ext_get_or 0 (listed n f) text (listed-length n f ∙ sym e) (λ k i. listed_at n f k (omega (arith, listed-length n f)) ∙ same k (omega (arith, listed-length n f))))
    ∙ sets-eq text l 0 (omega (arith, e))
    ∙ ap (λ (k : ℕ). text ++ drop k l) p
  where
    same : (k : ℕ) → k < n → get_or (text ++ rest) (0 + k * 1) 0 ≡ get_or text k 0
    same k i = let q : 0 + k * 1 ≡ k = omega arith in ap (λ (x : ℕ). get_or (text ++ rest) x 0) q ∙ get_or-append text rest 0 k (omega (arith, e))
