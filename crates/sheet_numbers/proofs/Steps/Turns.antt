-- What a turn of the walks over digits does: a digit before a point, one after it that counts, one past those that
-- count, and their end. Assumes nothing.
use Rattle.std.specs.Prelude.{◌≡◌, refl, Bool, true, false, not, ◌||◌, eqb, get_or, take, drop}
use Rattle.std.proofs.Math.Path.{sym, ap}
use Rattle.std.proofs.Common.{◌∙◌, pow-suc}
use Rattle.std.proofs.Math.Bool.{or-false, or_assoc}
use mathlib.Core.List.{List, []}
use Prim.Native.Nat.{ℕ, zero, suc, ◌+◌, ◌*◌, ◌-◌, ◌^◌, ◌≤◌, ◌<◌}
use Rattle.std.proofs.Math.Nat.{pow-le-pow_right}
use native.Mathlib.Omega.{arith}
use Rattle.std.proofs.Math.ListN.{length}
use Rattle.std.proofs.Math.Seq.{take-nil, drop-nil}
use Rattle.text_rules.specs.Meaning.Text.{value_from}
use Rattle.sheet_numbers.specs.declared.Whole.{Whole}
use Rattle.sheet_numbers.specs.declared.Decimals.{Decimals}
use Rattle.sheet_numbers.specs.Meaning.Numeral.{is_digit, first_of, non_zero}
use Rattle.sheet_numbers.proofs.Promised.Finer.{digit-parts}
use Rattle.sheet_numbers.specs.Steps.Scan.{leading}
use Rattle.sheet_numbers.proofs.Steps.Scan.{lead-digit}
use Rattle.sheet_numbers.specs.Steps.Capped.{cap, capped}
use Rattle.sheet_numbers.proofs.Steps.Capped.{capped_le, capped-within, capped-from}
use Rattle.sheet_numbers.specs.Steps.Pieces.{whole_from, whole_at, decimals_from, decimals_at}

-- A WALK OVER THE DIGITS BEFORE A POINT: from i on they give the same result as from `at` on
pub record WholeSoFar (s : List ℕ) (at value i : ℕ) : Type 0 where
  pub inside : i ≤ length s
  pub held : value ≤ cap
  pub same : whole_from value i (drop i s) ≡ whole_at s at

module _ (s : List ℕ) (at value i : ℕ) (w : WholeSoFar s at value i) where
  pub whole-turn : {v : ℕ} → i < length s → is_digit (get_or s i 0) ≡ true → v ≡ capped (10 * value + (get_or s i 0 - 48)) → WholeSoFar s at v (i + 1)
  unfolding value_from
  whole-turn {v} h e q = record {
    inside = omega arith;
    held = omega (arith, q, capped_le (10 * value + (get_or s i 0 - 48)));
    same = sym (from (lead-digit s i h e) ∙ (λ j. record { value = (sym (capped-from (10 * value + (get_or s i 0 - 48)) ds) ∙ ap (λ (n : ℕ). capped (value_from n ds)) (sym q)) j; end = onward j })) ∙ w.same;
  }
    where
      ds : List ℕ
      ds = leading (drop (i + 1) s)

      from : {a b : List ℕ} → a ≡ b → ◌≡◌ {A = Whole} (record { value = capped (value_from value a); end = i + length a }) (record { value = capped (value_from value b); end = i + length b })
      from e = ap (λ (l : List ℕ). record { value = capped (value_from value l); end = i + length l }) e

      onward : i + suc (length ds) ≡ i + 1 + length ds
      onward = omega arith

  pub whole-done : leading (drop i s) ≡ [] → record { value = value; end = i } ≡ whole_at s at
  unfolding value_from
  whole-done e = sym (ap (λ (l : List ℕ). record { value = capped (value_from value l); end = i + length l }) e ∙ (λ j. record { value = capped-within value w.held j; end = here j })) ∙ w.same
    where
      here : i + 0 ≡ i
      here = omega arith

-- AFTER A POINT: a digit that counts
module _ (s : List ℕ) (i v : ℕ) (f : Bool) (h : i < length s) (e : is_digit (get_or s i 0) ≡ true) where
  abbrev d : ℕ
  d = get_or s i 0

  abbrev ds : List ℕ
  ds = leading (drop (i + 1) s)

  abbrev from : ℕ → List ℕ → Decimals
  from left l = record { value = capped (value_from v (take left l)); missing = left - length l; finer = f || non_zero (drop left l); end = i + length l }

  onward : i + suc (length ds) ≡ i + 1 + length ds
  onward = omega arith

  pub digit-counts : (left : ℕ) → 0 < left → decimals_from v left f i (drop i s) ≡ decimals_from (10 * v + (d - 48)) (left - 1) f (i + 1) (drop (i + 1) s)
  unfolding value_from
  digit-counts zero l = absurd (omega arith)
  digit-counts (suc k) l =
      ap (from (suc k)) (lead-digit s i h e)
      ∙ (λ j. record { value = capped (value_from (10 * v + (d - 48)) (take k ds)); missing = left_over j; finer = f || non_zero (drop k ds); end = onward j })
      ∙ ap (λ (n : ℕ). decimals_from (10 * v + (d - 48)) n f (i + 1) (drop (i + 1) s)) less
    where
      less : k ≡ suc k - 1
      less = omega arith

      left_over : suc k - suc (length ds) ≡ k - length ds
      left_over = omega arith

  pub digit-past : decimals_from v 0 f i (drop i s) ≡ decimals_from v 0 (f || not (eqb d 48)) (i + 1) (drop (i + 1) s)
  unfolding non_zero
  digit-past =
      ap (from 0) (lead-digit s i h e)
      ∙ (λ j. record { value = capped (value_from v []); missing = none j; finer = sym (or_assoc f (not (eqb d 48)) (non_zero ds)) j; end = onward j })
    where
      none : 0 - suc (length ds) ≡ 0 - length ds
      none = omega arith

-- no digit left
pub digits-done : (v left i : ℕ) (f : Bool) (t : List ℕ) → leading t ≡ [] → decimals_from v left f i t ≡ record { value = capped v; missing = left; finer = f; end = i }
unfolding value_from non_zero
digits-done v left i f t e =
    ap (λ (l : List ℕ). record { value = capped (value_from v (take left l)); missing = left - length l; finer = f || non_zero (drop left l); end = i + length l }) e
    ∙ (λ j. record {
      value = ap (λ (l : List ℕ). capped (value_from v l)) (take-nil left) j;
      missing = all j;
      finer = (ap (λ (l : List ℕ). f || non_zero l) (drop-nil left) ∙ or-false f) j;
      end = here j;
    })
  where
    all : left - 0 ≡ left
    all = omega arith

    here : i + 0 ≡ i
    here = omega arith

pub zero_more : (v n : ℕ) → 0 < n → capped (value_from v (first_of n [])) ≡ capped (value_from (capped (10 * v + 0)) (first_of (n - 1) []))
unfolding value_from first_of
zero_more v zero h = absurd (omega arith)
zero_more v (suc n) h = sym (capped-from (10 * v + 0) (first_of n [])) ∙ ap (λ (k : ℕ). capped (value_from (capped (10 * v + 0)) (first_of k []))) less
  where
    less : n ≡ suc n - 1
    less = omega arith

pub no_zero : (v : ℕ) → v ≤ cap → capped (value_from v (first_of 0 [])) ≡ v
unfolding value_from first_of
no_zero v h = capped-within v h

-- A WALK OVER THEM. The size grows by one digit for each that counts; so few digits fit 64 bits
pub record DecimalsSoFar (s : List ℕ) (at x k value left : ℕ) (f : Bool) (i : ℕ) : Type 0 where
  pub inside : i ≤ length s
  pub counted : left ≤ k
  pub bound : value < 1000000001 * 10 ^ (k - left)
  pub same : decimals_from value left f i (drop i s) ≡ decimals_at s at x k

pub decimals-start : (s : List ℕ) (at x k : ℕ) → at ≤ length s → x ≤ cap → DecimalsSoFar s at x k x k false at
decimals-start s at x k h l = record { inside = h; counted = omega arith; bound = omega (arith, ap (λ (n : ℕ). 10 ^ n) none); same = refl }
  where
    none : k - k ≡ 0
    none = omega arith

module _ (s : List ℕ) (at x k value left : ℕ) (f : Bool) (i : ℕ) (w : DecimalsSoFar s at x k value left f i) where
  pub value-bound : k ≤ 9 → value < 1000000001000000000
  value-bound h = omega (arith, w.bound, pow-le-pow_right {n = 10} (omega arith) {i = k - left} {j = 9} (omega arith))

  pub turn-counts : {v n : ℕ} {g : Bool} → i < length s → is_digit (get_or s i 0) ≡ true → 0 < left → v ≡ 10 * value + (get_or s i 0 - 48) → n ≡ left - 1 → g ≡ f → DecimalsSoFar s at x k v n g (i + 1)
  turn-counts {n = n} h e l q r p = record {
    inside = omega arith;
    counted = omega (arith, w.counted);
    bound = omega (arith, w.bound, digit-parts (get_or s i 0) e, power);
    same = (λ j. decimals_from (q j) (r j) (p j) (i + 1) (drop (i + 1) s)) ∙ sym (digit-counts s i value f h e left l) ∙ w.same;
  }
    where
      more : k - n ≡ suc (k - left)
      more = omega (arith, r, w.counted)

      power : 10 ^ (k - n) ≡ 10 ^ (k - left) * 10
      power = ap (λ (m : ℕ). 10 ^ m) more ∙ pow-suc 10 (k - left)

  pub turn-past : {v n : ℕ} {g : Bool} → i < length s → is_digit (get_or s i 0) ≡ true → left ≤ 0 → v ≡ value → n ≡ left → g ≡ (f || not (eqb (get_or s i 0) 48)) → DecimalsSoFar s at x k v n g (i + 1)
  turn-past h e l q r p =
      let none : left ≡ 0 = omega arith in
      record {
        inside = omega arith;
        counted = omega (arith, w.counted);
        bound = omega (arith, w.bound, ap (λ (m : ℕ). 10 ^ (k - m)) r);
        same = (λ j. decimals_from (q j) ((r ∙ none) j) (p j) (i + 1) (drop (i + 1) s)) ∙ sym (digit-past s i value f h e) ∙ ap (λ (n : ℕ). decimals_from value n f i (drop i s)) (sym none) ∙ w.same;
      }

  pub turns-done : {v : ℕ} → leading (drop i s) ≡ [] → v ≡ capped value → record { value = v; missing = left; finer = f; end = i } ≡ decimals_at s at x k
  turns-done e q = (λ j. record { value = q j; missing = left; finer = f; end = i }) ∙ sym (digits-done value left i f (drop i s) e) ∙ w.same
