-- A number as one walk from the left finds it: the leading digits of a text, then perhaps a point and digits, then
-- the mark or the end of the text. Assumes nothing.
use Rattle.std.specs.Prelude.{Bool, ℕ}
use Rattle.std.proofs.Math.Bool.{true, cond}
use mathlib.Core.List.{List, [], ◌∷◌}
use Rattle.std.proofs.Math.Dec.{eqb}
use Rattle.sheet_numbers.specs.Meaning.Numeral.{is_digit, negative}

-- the text ends here, or here is the mark
unfoldable pub stops : ℕ → List ℕ → Bool
stops mark [] = true
stops mark (b ∷ bs) = eqb b mark

-- a sign takes a byte
abbrev pub sign_length : List ℕ → ℕ
sign_length t = cond (negative t) 1 0

-- THE LEADING DIGITS of a text, and the rest
unfoldable pub leading : List ℕ → List ℕ
leading [] = []
leading (b ∷ bs) = cond (is_digit b) (b ∷ leading bs) []
