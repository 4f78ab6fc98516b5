-- THE DESK'S LINES IN PLAIN BYTES: their names and order, which lines a number has, and what each line says when it
-- is read back (`ReadsCount` and `ReadsAmount` of `text_decimal`). A line ends with byte 10. Assumes nothing.
use Rattle.std.specs.Prelude.{◌≡◌, ◌⊎◌, ◌≢◌, Bool, ℕ, zero, suc, ◌+◌, ◌<◌, length, get_or, eqb, ℤ}
use Rattle.std.proofs.Math.Path.{refl, ap}
use Rattle.std.proofs.Common.{sym, subst, ◌∙◌, inl, inr, arith, length-append, eqb→eq, T_not}
use Rattle.std.proofs.Math.Bool.{true, false, cond}
use mathlib.Core.List.{List, [], ◌∷◌, ◌++◌, append-nil}
use Rattle.std.proofs.Math.ListN.{get_or-append}
use Rattle.std.proofs.Math.Dec.{T}
use Rattle.text_rules.specs.Meaning.Text.{count_text, amount_text}
use Rattle.text_rules.proofs.Promised.PlainAmounts.{AllDigits, ReadsCount, ReadsAmount, count-reads, amount-reads}
use Rattle.base_integers.specs.Steps.Ranges.{is_true, is_false, not_is}
use Rattle.base_causes.specs.declared.Outcome.{Outcome}
use Rattle.rules.specs.Meaning.Layout.{u8_at, zones_in}
use Rattle.rules.specs.Meaning.Hour.{case_of, plan_of, prices_of, zone_price, welfare, owed, bound, gap, rent}
use Rattle.rules.specs.Meaning.Verdict.{outcome}
use Rattle.rules.specs.Meaning.Report.{totals_of, reports}
use Rattle.rules.specs.Meaning.Lines.{verdict_line, total_line, total_lines, price_line, price_lines, hour_lines, lines_of, hour_text}
use Rattle.rules.proofs.Promised.PlainReport.{reports-of, leaves_of}
use Rattle.rules.proofs.Promised.PlainFacts.{eq-eqb}

-- "verdict "
abbrev pub verdict_name : List ℕ
verdict_name = 118 ∷ 101 ∷ 114 ∷ 100 ∷ 105 ∷ 99 ∷ 116 ∷ 32 ∷ []

-- THE FIRST LINE: "verdict ", the number, a space, the index
pub record VerdictLine (number index : ℕ) (line : List ℕ) : Type 0 where
  pub number-text : List ℕ
  pub index-text : List ℕ
  pub line-is : line ≡ verdict_name ++ number-text ++ (32 ∷ []) ++ index-text ++ (10 ∷ [])
  pub number-reads : ReadsCount number number-text
  pub index_reads : ReadsCount index index-text

-- A TOTAL'S LINE: its name, and x units of 0.00000001 euros as an amount with eight decimals
pub record TotalLine (name : List ℕ) (x : ℤ) (line : List ℕ) : Type 0 where
  pub amount-text : List ℕ
  pub line-is : line ≡ name ++ amount-text ++ (10 ∷ [])
  pub amount-reads : ReadsAmount 8 x amount-text

-- A ZONE'S LINE: "price ", the zone, a space, and x units of 0.0000001 euros per MWh as an amount with seven
pub record PriceLine (zone : ℕ) (x : ℤ) (line : List ℕ) : Type 0 where
  pub zone-text : List ℕ
  pub amount-text : List ℕ
  pub line-is : line ≡ (112 ∷ 114 ∷ 105 ∷ 99 ∷ 101 ∷ 32 ∷ []) ++ zone-text ++ (32 ∷ []) ++ amount-text ++ (10 ∷ [])
  pub zone-reads : ReadsCount zone zone-text
  pub amount-reads : ReadsAmount 7 x amount-text

-- the lines of zones 0 to n - 1, one after another
abbrev pub each_zone : ℕ → (ℕ → List ℕ) → List ℕ
each_zone zero line = []
each_zone (suc n) line = each_zone n line ++ line n

-- ALL LINES for the case s and the proposal t. Byte 5 of the case is the count of zones
pub record AllLines (s t text : List ℕ) : Type 0 where
  pub first-line : List ℕ
  pub welfare-line : List ℕ
  pub bound-line : List ℕ
  pub gap-line : List ℕ
  pub rent-line : List ℕ
  pub owed-line : List ℕ
  pub price-line : ℕ → List ℕ
  pub text-is : text ≡ first-line ++ (welfare-line ++ bound-line ++ gap-line ++ rent-line ++ owed-line ++ each_zone (get_or s 5 0) price-line)
  pub first-is : VerdictLine (outcome s t 176).number (outcome s t 176).index first-line
  -- "welfare ", "bound ", "gap ", "rent ", "owed "
  pub welfare-is : TotalLine (119 ∷ 101 ∷ 108 ∷ 102 ∷ 97 ∷ 114 ∷ 101 ∷ 32 ∷ []) (welfare (case_of s) (plan_of s t)) welfare-line
  pub bound-is : TotalLine (98 ∷ 111 ∷ 117 ∷ 110 ∷ 100 ∷ 32 ∷ []) (bound (case_of s) (prices_of s t)) bound-line
  pub gap_is : TotalLine (103 ∷ 97 ∷ 112 ∷ 32 ∷ []) (gap (case_of s) (plan_of s t) (prices_of s t)) gap-line
  pub rent-is : TotalLine (114 ∷ 101 ∷ 110 ∷ 116 ∷ 32 ∷ []) (rent (case_of s) (plan_of s t) (prices_of s t)) rent-line
  pub owed-is : TotalLine (111 ∷ 119 ∷ 101 ∷ 100 ∷ 32 ∷ []) (owed (case_of s) (prices_of s t)) owed-line
  pub price-is : (z : ℕ) → z < get_or s 5 0 → PriceLine z (zone_price (case_of s) (prices_of s t) z) (price-line z)

-- EACH LINE reads as its record says
verdict-reads : (o : Outcome) → VerdictLine o.number o.index (verdict_line o)
unfolding verdict_line
verdict-reads o = record {
  number-text = count_text o.number;
  index-text = count_text o.index;
  line-is = refl;
  number-reads = count-reads o.number;
  index_reads = count-reads o.index;
}

total-reads : (name : List ℕ) (x : ℤ) → TotalLine name x (total_line name x)
unfolding total_line
total-reads name x = record { amount-text = amount_text 8 x; line-is = refl; amount-reads = amount-reads 8 x }

price-reads : (z : ℕ) (x : ℤ) → PriceLine z x (price_line z x)
unfolding price_line
price-reads z x = record { zone-text = count_text z; amount-text = amount_text 7 x; line-is = refl; zone-reads = count-reads z; amount-reads = amount-reads 7 x }

prices-are : (n : ℕ) (price : ℕ → ℤ) → price_lines n price ≡ each_zone n (λ z. price_line z (price z))
unfolding price_lines
prices-are zero price = refl
prices-are (suc n) price = ap (λ (l : List ℕ). l ++ price_line n (price n)) (prices-are n price)

-- BYTES ABOVE 10: no newline among them
abbrev Above : List ℕ → Type 0
Above [] = Unit {0}
Above (x ∷ xs) = (10 < x) × Above xs

above-both : (a b : List ℕ) → Above a → Above b → Above (a ++ b)
above-both [] b h l = l
above-both (x ∷ a) b h l = (h.0, above-both a b h.1 l)

above-digits : (ds : List ℕ) → AllDigits ds → Above ds
above-digits [] h = tt
above-digits (d ∷ ds) h = (omega (arith, (h 0 (omega arith)).0), above-digits ds (λ i l. h (suc i) (omega arith)))

above_at : (a : List ℕ) → Above a → (k : ℕ) → k < length a → 10 < get_or a k 0
above_at [] h k l = absurd (omega arith)
above_at (x ∷ a) h zero l = h.0
above_at (x ∷ a) h (suc k) l = above_at a h.1 k (omega arith)

-- a line whose only newline is its last byte
last-only : (a line : List ℕ) → line ≡ a ++ (10 ∷ []) → Above a → (k : ℕ) → get_or line k 0 ≡ 10 → k + 1 < length line → ⊥
last-only a line is h k e l =
    let inside : k < length a = omega (arith, l, ap length is, length-append a (10 ∷ [])) in
    omega (arith, above_at a h k inside, sym (get_or-append a (10 ∷ []) 0 k inside) ∙ ap (λ (x : List ℕ). get_or x k 0) (sym is) ∙ e)

verdict-once : {number index : ℕ} {line : List ℕ} → VerdictLine number index line → (k : ℕ) → get_or line k 0 ≡ 10 → k + 1 < length line → ⊥
verdict-once v k e l =
    let name : Above verdict_name = (omega arith, (omega arith, (omega arith, (omega arith, (omega arith, (omega arith, (omega arith, (omega arith, tt)))))))) in
    let number = above-both verdict_name v.number-text name (above-digits v.number-text v.number-reads.all_digits) in
    let space = above-both (verdict_name ++ v.number-text) (32 ∷ []) number (omega arith, tt) in
    let index = above-both (verdict_name ++ v.number-text ++ (32 ∷ [])) v.index-text space (above-digits v.index-text v.index_reads.all_digits) in
    last-only (verdict_name ++ v.number-text ++ (32 ∷ []) ++ v.index-text) _ v.line-is index k e l

module _ (s t : List ℕ) where
  abbrev answered : Outcome
  answered = outcome s t 176

  abbrev hour-lines : List ℕ
  hour-lines = hour_lines (case_of s).zones (totals_of (case_of s) (plan_of s t) (prices_of s t)) (zone_price (case_of s) (prices_of s t))

  text-by : (b : Bool) → reports answered.number ≡ b → hour_text s t ≡ verdict_line answered ++ cond b hour-lines []
  unfolding hour_text lines_of
  text-by b e = ap (λ (x : Bool). verdict_line answered ++ cond x hour-lines []) e

  -- FOR 0 AND 26 every line is printed
  pub all_lines : ((outcome s t 176).number ≡ 0) ⊎ ((outcome s t 176).number ≡ 26) → AllLines s t (hour_text s t)
  unfolding hour_lines total_lines totals_of case_of zones_in u8_at
  all_lines h = record {
    first-line = verdict_line answered;
    welfare-line = total_line _ (welfare (case_of s) (plan_of s t));
    bound-line = total_line _ (bound (case_of s) (prices_of s t));
    gap-line = total_line _ (gap (case_of s) (plan_of s t) (prices_of s t));
    rent-line = total_line _ (rent (case_of s) (plan_of s t) (prices_of s t));
    owed-line = total_line _ (owed (case_of s) (prices_of s t));
    price-line = λ z. price_line z (zone_price (case_of s) (prices_of s t) z);
    text-is = text-by true (yes (reports answered.number) (reports-of answered.number h)) ∙ ap (λ (l : List ℕ). verdict_line answered ++ (total_lines (totals_of (case_of s) (plan_of s t) (prices_of s t)) ++ l)) (prices-are (get_or s 5 0) (zone_price (case_of s) (prices_of s t)));
    first-is = verdict-reads answered;
    welfare-is = total-reads _ _;
    bound-is = total-reads _ _;
    gap_is = total-reads _ _;
    rent-is = total-reads _ _;
    owed-is = total-reads _ _;
    price-is = λ z l. price-reads z (zone_price (case_of s) (prices_of s t) z);
  }
    where
      yes : (b : Bool) → T b → b ≡ true
      yes true t = refl
      yes false t = absurd t

  -- FOR ANY OTHER NUMBER the first line alone
  pub one_line : (outcome s t 176).number ≢ 0 → (outcome s t 176).number ≢ 26 → VerdictLine (outcome s t 176).number (outcome s t 176).index (hour_text s t)
  one_line a b = subst (λ (l : List ℕ). VerdictLine answered.number answered.index l)
      (sym (text-by false (not_is (reports answered.number) (leaves_of answered.number a b)) ∙ append-nil (verdict_line answered))) (verdict-reads answered)

  -- conversely, a newline before the end of the text means 0 or 26
  pub newline-inside : (k : ℕ) → get_or (hour_text s t) k 0 ≡ 10 → k + 1 < length (hour_text s t) → ((outcome s t 176).number ≡ 0) ⊎ ((outcome s t 176).number ≡ 26)
  newline-inside k e l = by (eqb answered.number 0) (eqb answered.number 26) refl refl
    where
      differs : (n : ℕ) → eqb answered.number n ≡ false → answered.number ≢ n
      differs n q p = T_not (eqb answered.number n) (is_false q) (eq-eqb answered.number n p)

      by : (a b : Bool) → eqb answered.number 0 ≡ a → eqb answered.number 26 ≡ b → (answered.number ≡ 0) ⊎ (answered.number ≡ 26)
      by true b p q = inl (eqb→eq answered.number 0 (is_true p))
      by false true p q = inr (eqb→eq answered.number 26 (is_true q))
      by false false p q = absurd (verdict-once (one_line (differs 0 p) (differs 26 q)) k e l)
