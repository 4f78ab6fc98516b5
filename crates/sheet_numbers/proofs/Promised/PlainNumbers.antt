-- A NUMBER IN PLAIN BYTES, both ways: which bytes are a number, its value, and which numbers are whole in a unit.
-- `get_or text k 0` is the byte at place k of the text, counted from 0. 45 is the minus sign, 46 the point, and 48 to
-- 57 are the digits 0 to 9. Assumes nothing.
use Rattle.std.specs.Prelude.{◌≡◌, refl, ◌↔◌, ◌⊎◌, Bool, true, false, cond, ◌&&◌, List, [], ◌∷◌, ◌++◌, ℕ, zero, suc, ◌+◌, ◌*◌, ◌-◌, ◌^◌, ◌≤◌, ◌<◌, length, get_or, ℤ, pos, neg_ℤ}
use Rattle.std.proofs.Common.{sym, ap, ◌∙◌, subst, inl, inr, append-nil, mul-lt-mul_of_pos_right, arith, le-leb}
use Rattle.std.proofs.Math.Option.{Option, none, some}
use Rattle.std.proofs.Math.Decide.{dec_lt}
use Rattle.base_integers.specs.Meaning.NaturalSums.{sum_nat}
use Rattle.base_integers.specs.Steps.NaturalSums.{sum-ext}
use Rattle.text_rules.specs.Meaning.Text.{value_from, value_of}
use Rattle.text_rules.proofs.Promised.Value.{power-positive}
use Rattle.sheet_numbers.specs.Meaning.Numeral.{is_digit, only_digits, digits, negative, whole, decimals, is_number, units, sign, value, finer}
use Rattle.sheet_numbers.proofs.Steps.Scan.{clash}
use Rattle.sheet_numbers.proofs.Promised.Spelled.{minus, numeral, pointed, point_digits, Spelled, spelled, after_point, number_spelled}
use Rattle.sheet_numbers.proofs.Promised.Exact.{exact}
use Rattle.sheet_numbers.proofs.Promised.Finer.{digit-parts, first-digit, other-digits, finer-iff}
use Rattle.sheet_numbers.proofs.Promised.Printed.{value-shift}

-- DIGITS: bytes from 48 to 57
abbrev pub AllDigits : List ℕ → Type 0
AllDigits ds = (i : ℕ) → i < length ds → (48 ≤ get_or ds i 0) × (get_or ds i 0 ≤ 57)

-- A NUMBER: 45 or nothing, one or more digits, and 46 with one or more digits or nothing
pub record Spells (text : List ℕ) (negative : Bool) (before after : List ℕ) : Type 0 where
  pub some-digit : 0 < length before
  pub before-digits : AllDigits before
  pub after-digits : AllDigits after
  pub text-is : ((0 < length after) × (text ≡ cond negative (45 ∷ []) [] ++ (before ++ 46 ∷ after))) ⊎ ((length after ≡ 0) × (text ≡ cond negative (45 ∷ []) [] ++ before))

pub record Number (text : List ℕ) : Type 0 where
  pub negative : Bool
  pub before : List ℕ
  pub after : List ℕ
  pub spells : Spells text negative before after

-- THE VALUE OF DIGITS: the last counts once, the one before it ten times, and so on
abbrev pub worth : List ℕ → ℕ
worth ds = sum_nat (length ds) (λ i. (get_or ds i 0 - 48) * 10 ^ (length ds - 1 - i))

-- A NUMBER TIMES `per` IS THE WHOLE NUMBER x. The number is all its digits over ten to the number of its decimals
pub record Times (per : ℕ) (text : List ℕ) (x : ℤ) : Type 0 where
  pub negative : Bool
  pub before : List ℕ
  pub after : List ℕ
  pub size : ℕ
  pub spells : Spells text negative before after
  pub size_is : size * 10 ^ length after ≡ worth (before ++ after) * per
  pub value-is : x ≡ cond negative (neg_ℤ (pos size)) (pos size)

-- DIGITS BOTH WAYS
no_less : (i : ℕ) → i < 0 → ⊥
no_less i h = omega arith

only-all : (ds : List ℕ) → only_digits ds ≡ true → AllDigits ds
only-all [] e i h = absurd (no_less i h)
only-all (d ∷ ds) e zero h = digit-parts d (first-digit d ds e)
only-all (d ∷ ds) e (suc i) h = only-all ds (other-digits d ds e) i (omega arith)

all-only : (ds : List ℕ) → AllDigits ds → only_digits ds ≡ true
unfolding only_digits is_digit
all-only [] f = refl
all-only (d ∷ ds) f = (λ i. le-leb 48 d (f 0 (omega arith)).0 i && le-leb d 57 (f 0 (omega arith)).1 i && all-only ds (λ j l. f (suc j) (omega arith)) i)

digits-all : (ds : List ℕ) → digits ds ≡ true → (0 < length ds) × AllDigits ds
unfolding digits
digits-all [] e = absurd (clash (sym e))
digits-all (d ∷ ds) e = (omega arith, only-all (d ∷ ds) e)

all_digits : (ds : List ℕ) → 0 < length ds → AllDigits ds → digits ds ≡ true
unfolding digits
all_digits [] h f = absurd (omega arith)
all_digits (d ∷ ds) h f = all-only (d ∷ ds) f

-- A NUMBER BOTH WAYS
front : (s : Bool) → minus s ≡ cond s (45 ∷ []) []
front true = refl
front false = refl

from_parts : (text : List ℕ) (s : Bool) (w : List ℕ) (o : Option (List ℕ)) → digits w ≡ true → point_digits o ≡ true → text ≡ numeral s w o → Spells text s w (pointed o)
unfolding numeral
from_parts text s w none e f q = record {
  some-digit = (digits-all w e).0;
  before-digits = (digits-all w e).1;
  after-digits = λ i h. absurd (no_less i h);
  text-is = inr (refl, q ∙ (λ i. front s i ++ append-nil w i));
}
from_parts text s w (some d) e f q = record {
  some-digit = (digits-all w e).0;
  before-digits = (digits-all w e).1;
  after-digits = (digits-all d f).1;
  text-is = inl ((digits-all d f).0, q ∙ ap (λ (l : List ℕ). l ++ (w ++ 46 ∷ d)) (front s));
}

-- the parts that the meaning finds are these
pub parts : (text : List ℕ) (s : Bool) (w d : List ℕ) → Spells text s w d → (is_number text ≡ true) × ((negative text ≡ s) × ((whole text ≡ w) × (decimals text ≡ d)))
unfolding numeral
parts text s w d p = by p.text-is
  where
    found : (o : Option (List ℕ)) → point_digits o ≡ true → text ≡ numeral s w o → pointed o ≡ d → (is_number text ≡ true) × ((negative text ≡ s) × ((whole text ≡ w) × (decimals text ≡ d)))
    found o f q r =
        let m : Spelled text s w o = subst (λ (t : List ℕ). Spelled t s w o) (sym q) (spelled s w o (all_digits w p.some-digit p.before-digits) f) in
        (m.is-number, (m.sign-is, (m.whole_is, m.decimals-are ∙ r)))

    empty : (l : List ℕ) → length l ≡ 0 → [] ≡ l
    empty [] e = refl
    empty (b ∷ l) e = absurd (omega arith)

    by : ((0 < length d) × (text ≡ cond s (45 ∷ []) [] ++ (w ++ 46 ∷ d))) ⊎ ((length d ≡ 0) × (text ≡ cond s (45 ∷ []) [] ++ w)) → (is_number text ≡ true) × ((negative text ≡ s) × ((whole text ≡ w) × (decimals text ≡ d)))
    by (inl h) = found (some d) (all_digits d h.0 p.after-digits) (h.1 ∙ ap (λ (l : List ℕ). l ++ (w ++ 46 ∷ d)) (sym (front s))) refl
    by (inr h) = found none refl (h.1 ∙ (λ i. sym (front s) i ++ sym (append-nil w) i)) (empty d h.0)

-- THE THEOREM: which bytes are a number
pub number-bytes : (text : List ℕ) → (is_number text ≡ true) ↔ Number text
number-bytes text = (to, λ n. (parts text n.negative n.before n.after n.spells).0)
  where
    to : is_number text ≡ true → Number text
    to e =
        let w = number_spelled text e in
        record { negative = negative text; before = whole text; after = pointed (after_point text); spells = from_parts text (negative text) (whole text) (after_point text) w.0 w.1.0 w.1.1 }

-- its parts are the only ones
pub spells-once : (text : List ℕ) (s t : Bool) (w x d y : List ℕ) → Spells text s w d → Spells text t x y → (s ≡ t) × ((w ≡ x) × (d ≡ y))
spells-once text s t w x d y p q =
    let a = (parts text s w d p).1 in
    let b = (parts text t x y q).1 in
    (sym a.0 ∙ b.0, (sym a.1.0 ∙ b.1.0, sym a.1.1 ∙ b.1.1))

-- THE VALUE OF DIGITS by both definitions
sum-front : (n : ℕ) (f : ℕ → ℕ) → sum_nat (suc n) f ≡ f 0 + sum_nat n (λ i. f (suc i))
unfolding sum_nat
sum-front zero f = omega arith
sum-front (suc n) f = omega (arith, sum-front n f)

pub worth-is : (ds : List ℕ) → value_of ds ≡ worth ds
unfolding value_from sum_nat
worth-is [] = refl
worth-is (d ∷ ds) =
    value-shift (10 * 0 + (d - 48)) ds
    ∙ (λ i. first i + (worth-is ds ∙ others) i)
    ∙ sym (sum-front (length ds) (λ i. (get_or (d ∷ ds) i 0 - 48) * 10 ^ (suc (length ds) - 1 - i)))
  where
    first : (10 * 0 + (d - 48)) * 10 ^ length ds ≡ (d - 48) * 10 ^ (suc (length ds) - 1 - 0)
    first = let e : length ds ≡ suc (length ds) - 1 - 0 = omega arith in let z : 10 * 0 + (d - 48) ≡ d - 48 = omega arith in (λ i. z i * 10 ^ e i)

    others : worth ds ≡ sum_nat (length ds) (λ i. (get_or ds i 0 - 48) * 10 ^ (suc (length ds) - 1 - suc i))
    others = sum-ext (length ds) (λ i. (get_or ds i 0 - 48) * 10 ^ (length ds - 1 - i)) (λ i. (get_or ds i 0 - 48) * 10 ^ (suc (length ds) - 1 - suc i)) each
      where
        each : (i : ℕ) → i < length ds → (get_or ds i 0 - 48) * 10 ^ (length ds - 1 - i) ≡ (get_or ds i 0 - 48) * 10 ^ (suc (length ds) - 1 - suc i)
        each i h = let e : length ds - 1 - i ≡ suc (length ds) - 1 - suc i = omega arith in ap (λ (k : ℕ). (get_or ds i 0 - 48) * 10 ^ k) e

-- IN UNITS OF DECIMAL k. A number that is not finer is a whole number of units, and conversely
signs : (s : Bool) (n : ℕ) → sign s n ≡ cond s (neg_ℤ (pos n)) (pos n)
signs true n = refl
signs false n = refl

pub value-times : (k : ℕ) (text : List ℕ) → is_number text ≡ true → finer k text ≡ false → Times (10 ^ k) text (value k text)
unfolding value
value-times k text e f =
    let n = (number-bytes text).0 e in
    let p = (parts text n.negative n.before n.after n.spells).1 in
    record {
      negative = n.negative;
      before = n.before;
      after = n.after;
      size = units k text;
      spells = n.spells;
      size_is = subst (λ (d : List ℕ). units k text * 10 ^ length d ≡ worth (n.before ++ d) * 10 ^ k) p.1.1
          (subst (λ (w : List ℕ). units k text * 10 ^ length (decimals text) ≡ worth (w ++ decimals text) * 10 ^ k) p.1.0
          (exact k text f ∙ ap (λ (x : ℕ). x * 10 ^ k) (worth-is (whole text ++ decimals text))));
      value-is = signs (negative text) (units k text) ∙ ap (λ (s : Bool). cond s (neg_ℤ (pos (units k text))) (pos (units k text))) p.0;
    }

same_size : (a b p : ℕ) → 0 < p → a * p ≡ b * p → a ≡ b
same_size a b p h e = elim (dec_lt a b) [
  | yes l ↦ absurd (omega (arith, mul-lt-mul_of_pos_right l h))
  | no g ↦ elim (dec_lt b a) [ yes l ↦ absurd (omega (arith, mul-lt-mul_of_pos_right l h)) | no j ↦ omega arith ]
]

pub times-value : (k : ℕ) (text : List ℕ) (x : ℤ) → Times (10 ^ k) text x → (finer k text ≡ false) × (value k text ≡ x)
unfolding value
times-value k text x t =
    let p = parts text t.negative t.before t.after t.spells in
    let q = p.1 in
    let size : t.size * 10 ^ length (decimals text) ≡ value_of (whole text ++ decimals text) * 10 ^ k =
    subst (λ (d : List ℕ). t.size * 10 ^ length d ≡ value_of (whole text ++ d) * 10 ^ k) (sym q.1.1)
    (subst (λ (w : List ℕ). t.size * 10 ^ length t.after ≡ value_of (w ++ t.after) * 10 ^ k) (sym q.1.0)
    (t.size_is ∙ ap (λ (n : ℕ). n * 10 ^ k) (sym (worth-is (t.before ++ t.after))))) in
    let f : finer k text ≡ false = (finer-iff k text p.0).1 (t.size, size) in
    (f, (λ i. sign (q.0 i) (same_size (units k text) t.size (10 ^ length (decimals text)) (power-positive (length (decimals text))) (exact k text f ∙ sym size) i)) ∙ signs t.negative t.size ∙ sym t.value-is)

pub times-once : (k : ℕ) (text : List ℕ) (x y : ℤ) → Times (10 ^ k) text x → Times (10 ^ k) text y → x ≡ y
times-once k text x y a b = sym (times-value k text x a).1 ∙ (times-value k text y b).1

-- FINER, both ways: no whole number of units is the number
pub finer-times : (k : ℕ) (text : List ℕ) → is_number text ≡ true → (finer k text ≡ true) ↔ ((x : ℤ) → Times (10 ^ k) text x → ⊥)
finer-times k text e = (λ f x t. clash (sym f ∙ (times-value k text x t).0), λ never. by never (finer k text) refl)
  where
    by : ((x : ℤ) → Times (10 ^ k) text x → ⊥) → (b : Bool) → finer k text ≡ b → b ≡ true
    by never true f = refl
    by never false f = absurd (never (value k text) (value-times k text e f))
