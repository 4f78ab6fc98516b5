-- WHICH TEXTS ARE NUMBERS: perhaps a minus sign, digits, perhaps a point and digits. Each such text is a number
-- with these parts, and each number is such a text. Assumes nothing.
use Rattle.std.specs.Prelude.{◌≡◌, Bool, not, cond, ◌&&◌, ◌||◌, ℕ, eqb}
use Rattle.std.proofs.Math.Path.{refl, ap}
use Rattle.std.proofs.Common.{sym, ◌∙◌, eqb-true}
use Rattle.std.proofs.Math.Bool.{true, false}
use mathlib.Core.List.{List, [], ◌∷◌, ◌++◌, append-nil}
use Rattle.std.proofs.Math.Option.{Option, none, some}
use Rattle.std.proofs.Math.ListN.{drop}
use Rattle.sheet_numbers.specs.Meaning.Numeral.{is_digit, only_digits, digits, starts, has, before, after, negative, unsigned, whole, decimals, is_number}
use Rattle.sheet_numbers.specs.Steps.Scan.{leading}
use Rattle.sheet_numbers.proofs.Steps.Scan.{clash, before-then, after_then, has-then}

-- the text of a sign, digits and perhaps digits after a point
abbrev pub minus : Bool → List ℕ
minus true = 45 ∷ []
minus false = []

abbrev pub point : Option (List ℕ) → List ℕ
point none = []
point (some d) = 46 ∷ d

unfoldable pub numeral : Bool → List ℕ → Option (List ℕ) → List ℕ
numeral s w d = minus s ++ (w ++ point d)

-- all of them digits
abbrev pub point_digits : Option (List ℕ) → Bool
point_digits none = true
point_digits (some d) = digits d

abbrev pub pointed : Option (List ℕ) → List ℕ
pointed none = []
pointed (some d) = d

pub record Spelled (text : List ℕ) (s : Bool) (w : List ℕ) (d : Option (List ℕ)) : Type 0 where
  pub is-number : is_number text ≡ true
  pub sign-is : negative text ≡ s
  pub whole_is : whole text ≡ w
  pub decimals-are : decimals text ≡ pointed d

-- a text of digits has no other leading digits than all of it
only-digits : (w : List ℕ) → digits w ≡ true → only_digits w ≡ true
unfolding digits
only-digits [] e = absurd (clash (sym e))
only-digits (b ∷ w) e = e

all-leading : (w : List ℕ) → only_digits w ≡ true → leading w ≡ w
unfolding only_digits leading
all-leading [] e = refl
all-leading (b ∷ w) e = by (is_digit b) e (all-leading w)
  where
    by : (c : Bool) → c && only_digits w ≡ true → (only_digits w ≡ true → leading w ≡ w) → cond c (b ∷ leading w) [] ≡ b ∷ w
    by true e ih = ap (λ (l : List ℕ). b ∷ l) (ih e)
    by false e ih = absurd (clash (sym e))

pub digits-lead : (w : List ℕ) → digits w ≡ true → leading w ≡ w
digits-lead w e = all-leading w (only-digits w e)

no_sign : (w l : List ℕ) → digits w ≡ true → starts 45 (w ++ l) ≡ false
unfolding digits only_digits starts is_digit
no_sign [] l e = absurd (clash (sym e))
no_sign (b ∷ w) l e = by (eqb b 45) refl
  where
    by : (c : Bool) → eqb b 45 ≡ c → c ≡ false
    by true q = absurd (clash (sym (ap (λ (x : ℕ). is_digit x && only_digits w) (sym (eqb-true b 45 q)) ∙ e)))
    by false q = refl

module _ (s : Bool) (w : List ℕ) (d : Option (List ℕ)) (e : digits w ≡ true) (f : point_digits d ≡ true) where
  abbrev text : List ℕ
  text = numeral s w d

  sign_of : negative text ≡ s
  unfolding numeral negative starts
  sign_of = by s
    where
      by : (s : Bool) → starts 45 (minus s ++ (w ++ point d)) ≡ s
      by true = refl
      by false = no_sign w (point d) e

  unsigned_of : unsigned text ≡ w ++ point d
  unfolding unsigned numeral
  unsigned_of = ap (λ (b : Bool). drop (cond b 1 0) text) sign_of ∙ by s
    where
      by : (s : Bool) → drop (cond s 1 0) (minus s ++ (w ++ point d)) ≡ w ++ point d
      by true = refl
      by false = refl

  led : leading w ≡ w
  led = digits-lead w e

  -- THE THEOREM, from the parts to the text
  pub spelled : Spelled text s w d
  unfolding is_number whole decimals is_digit before after has
  spelled = record { is-number = number d f unsigned_of; sign-is = sign_of; whole_is = first d unsigned_of; decimals-are = second d unsigned_of }
    where
      first : (d : Option (List ℕ)) → unsigned text ≡ w ++ point d → before 46 (unsigned text) ≡ w
      first none q = ap (before 46) (q ∙ ap (λ (l : List ℕ). l ++ []) (sym led)) ∙ before-then [] 46 refl w ∙ append-nil (leading w) ∙ led
      first (some d) q = ap (before 46) (q ∙ ap (λ (l : List ℕ). l ++ 46 ∷ d) (sym led)) ∙ before-then (46 ∷ d) 46 refl w ∙ append-nil (leading w) ∙ led

      second : (d : Option (List ℕ)) → unsigned text ≡ w ++ point d → after 46 (unsigned text) ≡ pointed d
      second none q = ap (after 46) (q ∙ ap (λ (l : List ℕ). l ++ []) (sym led)) ∙ after_then [] 46 refl w
      second (some d) q = ap (after 46) (q ∙ ap (λ (l : List ℕ). l ++ 46 ∷ d) (sym led)) ∙ after_then (46 ∷ d) 46 refl w

      number : (d : Option (List ℕ)) → point_digits d ≡ true → unsigned text ≡ w ++ point d → digits (before 46 (unsigned text)) && (not (has 46 (unsigned text)) || digits (after 46 (unsigned text))) ≡ true
      number none f q = (λ i. (ap digits (first none q) ∙ e) i && (not ((ap (has 46) (q ∙ ap (λ (l : List ℕ). l ++ []) (sym led)) ∙ has-then [] 46 refl w) i) || digits (after 46 (unsigned text))))
      number (some d) f q = (λ i. (ap digits (first (some d) q) ∙ e) i && (not ((ap (has 46) (q ∙ ap (λ (l : List ℕ). l ++ 46 ∷ d) (sym led)) ∙ has-then (46 ∷ d) 46 refl w) i) || (ap digits (second (some d) q) ∙ f) i))

-- AND FROM THE TEXT TO THE PARTS
unfoldable pub after_point : List ℕ → Option (List ℕ)
after_point text = cond (has 46 (unsigned text)) (some (decimals text)) none

signed : (text : List ℕ) → text ≡ minus (negative text) ++ unsigned text
unfolding negative starts unsigned
signed [] = refl
signed (b ∷ t) = by (eqb b 45) refl
  where
    by : (c : Bool) → eqb b 45 ≡ c → b ∷ t ≡ minus c ++ drop (cond c 1 0) (b ∷ t)
    by true q = ap (λ (x : ℕ). x ∷ t) (eqb-true b 45 q)
    by false q = refl

rejoined : (u : List ℕ) → u ≡ before 46 u ++ point (cond (has 46 u) (some (after 46 u)) none)
unfolding before after has
rejoined [] = refl
rejoined (b ∷ u) = by (eqb b 46) refl (rejoined u)
  where
    by : (c : Bool) → eqb b 46 ≡ c → u ≡ before 46 u ++ point (cond (has 46 u) (some (after 46 u)) none)
        → b ∷ u ≡ cond c [] (b ∷ before 46 u) ++ point (cond (c || has 46 u) (some (cond c u (after 46 u))) none)
    by true q e = ap (λ (x : ℕ). x ∷ u) (eqb-true b 46 q)
    by false q e = ap (λ (l : List ℕ). b ∷ l) e

pub number_spelled : (text : List ℕ) → is_number text ≡ true → (digits (whole text) ≡ true) × ((point_digits (after_point text) ≡ true) × (text ≡ numeral (negative text) (whole text) (after_point text)))
unfolding is_number whole decimals after_point numeral
number_spelled text e = (
  left (digits (whole text)) (not (has 46 (unsigned text)) || digits (decimals text)) e,
  (
    by (has 46 (unsigned text)) (right (digits (whole text)) (not (has 46 (unsigned text)) || digits (decimals text)) e),
    signed text ∙ ap (λ (l : List ℕ). minus (negative text) ++ l) (rejoined (unsigned text)),
  ),
)
  where
    left : (a b : Bool) → a && b ≡ true → a ≡ true
    left true b e = refl
    left false b e = e

    right : (a b : Bool) → a && b ≡ true → b ≡ true
    right true b e = e
    right false b e = absurd (clash (sym e))

    by : (c : Bool) → not c || digits (decimals text) ≡ true → point_digits (cond c (some (decimals text)) none) ≡ true
    by true e = e
    by false e = refl
