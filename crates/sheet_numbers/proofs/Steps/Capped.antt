-- A number's size cut at a cap that is above every limit, so that no count of digits overflows it; and digits as
-- the walk takes them. Assumes nothing.
use Rattle.std.specs.Prelude.{◌≡◌, Bool, cond, List, [], ◌∷◌, ◌++◌, ℕ, zero, suc, ◌+◌, ◌*◌, ◌-◌, ◌≤◌, ◌<◌, min, length, take}
use Rattle.std.proofs.Common.{sym, ap, ◌∙◌, arith, lt-ltb, le-ltb}
use Rattle.std.proofs.Math.Decide.{dec_lt}
use Rattle.text_rules.specs.Meaning.Text.{value_from, value_of}
use Rattle.sheet_numbers.specs.Meaning.Numeral.{whole, decimals, first_of, units}
use Rattle.sheet_numbers.proofs.Promised.Exact.{value-then}
use Rattle.sheet_numbers.specs.Steps.Capped.{cap, capped}

pub capped-over : (n : ℕ) → cap < n → capped n ≡ cap
unfolding capped
capped-over n h = ap (λ (t : Bool). cond t cap n) (lt-ltb cap n h)

pub capped-within : (n : ℕ) → n ≤ cap → capped n ≡ n
unfolding capped
capped-within n h = ap (λ (t : Bool). cond t cap n) (le-ltb cap n h)

pub capped-reached : (n : ℕ) → cap ≤ n → capped n ≡ cap
capped-reached n h = elim (dec_lt cap n) [ yes l ↦ capped-over n l | no g ↦ capped-within n (omega arith) ∙ omega arith ]

pub capped-min : (n : ℕ) → capped n ≡ min n cap
capped-min n = elim (dec_lt cap n) [ yes l ↦ capped-over n l ∙ omega arith | no g ↦ capped-within n (omega arith) ∙ omega arith ]

pub capped_le : (n : ℕ) → capped n ≤ cap
capped_le n = elim (dec_lt cap n) [ yes h ↦ omega (arith, capped-over n h) | no g ↦ omega (arith, capped-within n (omega arith)) ]

-- one more digit of a size that was cut, and several
capped-more : (n d : ℕ) → capped (10 * capped n + d) ≡ capped (10 * n + d)
capped-more n d = elim (dec_lt cap n) [
  | yes h ↦ capped-over (10 * capped n + d) (omega (arith, capped-over n h)) ∙ sym (capped-over (10 * n + d) (omega arith))
  | no g ↦ ap (λ (m : ℕ). capped (10 * m + d)) (capped-within n (omega arith))
]

pub capped-from : (n : ℕ) (ds : List ℕ) → capped (value_from (capped n) ds) ≡ capped (value_from n ds)
unfolding value_from
capped-from n [] = capped-within (capped n) (capped_le n)
capped-from n (d ∷ ds) = sym (capped-from (10 * capped n + (d - 48)) ds) ∙ ap (λ (m : ℕ). capped (value_from m ds)) (capped-more n (d - 48)) ∙ capped-from (10 * n + (d - 48)) ds

-- the first k digits: those that are there, and zeros for the others
pub first-split : (k : ℕ) (ds : List ℕ) → first_of k ds ≡ take k ds ++ first_of (k - length ds) []
unfolding first_of
first-split zero ds = sym (none (length ds))
  where
    none : (n : ℕ) → first_of (0 - n) [] ≡ []
    none n = let e : 0 - n ≡ 0 = omega arith in ap (λ (k : ℕ). first_of k []) e
first-split (suc k) [] = let e : suc k ≡ suc k - 0 = omega arith in ap (λ (n : ℕ). first_of n []) e
first-split (suc k) (d ∷ ds) = let e : k - length ds ≡ suc k - suc (length ds) = omega arith in
    ap (λ (l : List ℕ). d ∷ l) (first-split k ds ∙ ap (λ (n : ℕ). take k ds ++ first_of n []) e)

-- A NUMBER'S SIZE from its digits before the point, cut at the cap, and then those after it
pub held_whole : (k : ℕ) (text w : List ℕ) → whole text ≡ w → decimals text ≡ [] → capped (value_from (capped (value_of w)) (first_of k [])) ≡ capped (units k text)
unfolding units
held_whole k text w p q = capped-from (value_of w) (first_of k []) ∙ ap capped (sym (value-then 0 w (first_of k []))) ∙ (λ i. capped (value_of (sym p i ++ first_of k (sym q i))))

pub held-units : (k : ℕ) (text w d : List ℕ) → whole text ≡ w → decimals text ≡ d
    → capped (value_from (capped (value_from (capped (value_of w)) (take k d))) (first_of (k - length d) [])) ≡ capped (units k text)
unfolding units
held-units k text w d p q =
    capped-from (value_from (capped (value_of w)) (take k d)) (first_of (k - length d) [])
    ∙ ap capped (sym (value-then (capped (value_of w)) (take k d) (first_of (k - length d) [])) ∙ ap (value_from (capped (value_of w))) (sym (first-split k d)))
    ∙ capped-from (value_of w) (first_of k d)
    ∙ ap capped (sym (value-then 0 w (first_of k d)))
    ∙ (λ i. capped (value_of (sym p i ++ first_of k (sym q i))))
