-- Numbers as decimal text in ASCII: counts, and amounts with a point. Assumes nothing.
use Rattle.std.specs.Prelude.{true, false, List, [], ◌∷◌, ◌++◌, ℕ, zero, suc, ◌+◌, ◌-◌, ◌*◌, ◌/◌, ◌%◌, ◌^◌, ltb, ℤ, pos, negsuc}

-- the digit of n at place k, counted from the right from 0
abbrev pub digit_at : ℕ → ℕ → ℕ
digit_at k n = 48 + n / 10 ^ k % 10

-- the last k digits of n, with leading zeros where n has fewer
unfoldable pub last_digits : ℕ → ℕ → List ℕ
last_digits zero n = []
last_digits (suc k) n = digit_at k n ∷ last_digits k n

-- how many digits n has: one, and one more for each time that it can be divided by ten, at most n times.
unfoldable pub places_in : ℕ → ℕ → ℕ
places_in zero n = 1
places_in (suc most) n = elim (ltb n 10) [ true ↦ 1 | false ↦ suc (places_in most (n / 10)) ]

unfoldable pub places : ℕ → ℕ
places n = places_in n n

-- A COUNT: no leading zero, and 0 alone is 0
unfoldable pub count_text : ℕ → List ℕ
count_text n = last_digits (places n) n

-- AN AMOUNT with k decimals, from a number of units of the last decimal: a minus sign before a negative one only,
-- the whole part, a point, k decimals
unfoldable pub size_text : ℕ → ℕ → List ℕ
size_text k n = count_text (n / 10 ^ k) ++ (46 ∷ last_digits k n)

unfoldable pub amount_text : ℕ → ℤ → List ℕ
amount_text k (pos n) = size_text k n
amount_text k (negsuc n) = 45 ∷ size_text k (suc n)

-- THE VALUE of digits, the first the most significant
unfoldable pub value_from : ℕ → List ℕ → ℕ
value_from v [] = v
value_from v (d ∷ ds) = value_from (10 * v + (d - 48)) ds

abbrev pub value_of : List ℕ → ℕ
value_of ds = value_from 0 ds
