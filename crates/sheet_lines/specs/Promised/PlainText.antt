-- A SHEET IS ITS LINES, A LINE ITS FIELDS, in plain bytes and both ways. `get_or text i 0` is the byte at place i of
-- the text, counted from 0. Byte 10 ends a line, and the last line may lack it; byte 44 stands between two fields.
-- Each sheet has its fields in exactly one way (`cells_of`, `cells_are`). Assumes nothing.
use Rattle.std.specs.Prelude.{◌≡◌, ◌⊎◌, ◌≢◌, List, [], ◌∷◌, ◌++◌, ℕ, ◌<◌, length, get_or}

-- a text without a byte
abbrev pub Without : ℕ → List ℕ → Type 0
Without mark text = (i : ℕ) → i < length text → get_or text i 0 ≢ mark

-- lines, each followed by byte 10; fields, with byte 44 between two of them
unfoldable pub ended : List (List ℕ) → List ℕ
ended [] = []
ended (l ∷ ls) = l ++ 10 ∷ ended ls

unfoldable pub joined : List (List ℕ) → List ℕ
joined [] = []
joined (f ∷ []) = f
joined (f ∷ g ∷ gs) = f ++ 44 ∷ joined (g ∷ gs)

-- A SHEET'S LINES: none has byte 10, and each is ended by it; only a last line that is not empty may lack it
pub record LastUnended (sheet : List ℕ) (ls : List (List ℕ)) : Type 0 where
  pub front : List (List ℕ)
  pub last : List ℕ
  pub lines_are : ls ≡ front ++ (last ∷ [])
  pub text-is : sheet ≡ ended front ++ last
  pub not-empty : 0 < length last

pub record SheetText (sheet : List ℕ) (ls : List (List ℕ)) : Type 0 where
  pub no-newline : (k : ℕ) → k < length ls → Without 10 (get_or ls k [])
  pub text-is : (sheet ≡ ended ls) ⊎ LastUnended sheet ls

-- A LINE'S FIELDS: one or more, none with byte 44
pub record LineText (line : List ℕ) (fs : List (List ℕ)) : Type 0 where
  pub some-field : 0 < length fs
  pub no-comma : (j : ℕ) → j < length fs → Without 44 (get_or fs j [])
  pub text-is : line ≡ joined fs

-- A SHEET'S FIELDS, line by line: `get_or (get_or rows k []) j []` is field j of line k
pub record Cells (sheet : List ℕ) (rows : List (List (List ℕ))) : Type 0 where
  pub lines : List (List ℕ)
  pub sheet-is : SheetText sheet lines
  pub count : length rows ≡ length lines
  pub line-is : (k : ℕ) → k < length rows → LineText (get_or lines k []) (get_or rows k [])
