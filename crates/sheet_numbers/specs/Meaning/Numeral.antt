-- A DECIMAL NUMBER AS TEXT: which texts are numbers, and their value. A number has digits, perhaps with a minus
-- sign before and a point and any number of digits after. Assumes nothing.
use Rattle.std.specs.Prelude.{Bool, true, false, not, cond, ◌&&◌, ◌||◌, List, [], ◌∷◌, ◌++◌, ℕ, zero, suc, drop, eqb, leb, ℤ, pos, neg_ℤ}
use Rattle.text_rules.specs.Meaning.Text.{value_of}

-- DIGITS: one or more, and nothing else
unfoldable pub is_digit : ℕ → Bool
is_digit b = leb 48 b && leb b 57

unfoldable pub only_digits : List ℕ → Bool
only_digits [] = true
only_digits (b ∷ bs) = is_digit b && only_digits bs

unfoldable pub digits : List ℕ → Bool
digits [] = false
digits (b ∷ bs) = only_digits (b ∷ bs)

-- A MARK in a text: whether the text starts with it; whether the text has it; the bytes before the first one, or
-- all where there is none; and the bytes after it
unfoldable pub starts : ℕ → List ℕ → Bool
starts mark [] = false
starts mark (b ∷ bs) = eqb b mark

unfoldable pub has : ℕ → List ℕ → Bool
has mark [] = false
has mark (b ∷ bs) = eqb b mark || has mark bs

unfoldable pub before : ℕ → List ℕ → List ℕ
before mark [] = []
before mark (b ∷ bs) = cond (eqb b mark) [] (b ∷ before mark bs)

unfoldable pub after : ℕ → List ℕ → List ℕ
after mark [] = []
after mark (b ∷ bs) = cond (eqb b mark) bs (after mark bs)

-- A NUMBER: perhaps a minus sign (45), digits, perhaps a point (46) and digits
unfoldable pub negative : List ℕ → Bool
negative text = starts 45 text

unfoldable pub unsigned : List ℕ → List ℕ
unsigned text = drop (cond (negative text) 1 0) text

unfoldable pub whole : List ℕ → List ℕ
whole text = before 46 (unsigned text)

unfoldable pub decimals : List ℕ → List ℕ
decimals text = after 46 (unsigned text)

unfoldable pub is_number : List ℕ → Bool
is_number text = digits (whole text) && (not (has 46 (unsigned text)) || digits (decimals text))

-- ITS VALUE. The first k of some digits, zeros where there are fewer
unfoldable pub first_of : ℕ → List ℕ → List ℕ
first_of zero ds = []
first_of (suc k) [] = 48 ∷ first_of k []
first_of (suc k) (d ∷ ds) = d ∷ first_of k ds

-- in units of decimal k: all digits before the point and k after it. Where all later decimals are zero this is
-- exact (theorem `exact`).
unfoldable pub units : ℕ → List ℕ → ℕ
units k text = value_of (whole text ++ first_of k (decimals text))

abbrev pub sign : Bool → ℕ → ℤ
sign true n = neg_ℤ (pos n)
sign false n = pos n

unfoldable pub value : ℕ → List ℕ → ℤ
value k text = sign (negative text) (units k text)

-- some decimal after decimal k is not zero
unfoldable pub non_zero : List ℕ → Bool
non_zero [] = false
non_zero (d ∷ ds) = not (eqb d 48) || non_zero ds

unfoldable pub finer : ℕ → List ℕ → Bool
finer k text = non_zero (drop k (decimals text))
