-- The PTDF table of a case: 64 rows of 16, zero where the case has no branch or no zone.
use Rattle.std.specs.Prelude.{List, ℕ, zero, suc, set, replicate, ℤ, pos}
use Rattle.rules.specs.Meaning.Layout.{zones_in, branches_in, ptdf_in}

-- a list of `size` places: f k at each place k below n, blank at the others
unfoldable pub filled : {A : Type 0} → ℕ → A → (ℕ → A) → ℕ → List A
filled size blank f zero = replicate size blank
filled size blank f (suc n) = set (filled size blank f n) n (f n)

abbrev pub empty_row : List ℤ
empty_row = replicate 16 (pos 0)

unfoldable pub row_of : List ℕ → ℕ → List ℤ
row_of s m = filled 16 (pos 0) (ptdf_in s m) (zones_in s)

unfoldable pub table_of : List ℕ → List (List ℤ)
table_of s = filled 64 empty_row (row_of s) (branches_in s)
