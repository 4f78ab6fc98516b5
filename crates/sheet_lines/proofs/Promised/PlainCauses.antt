-- THE ANSWER TO A SHEET IN PLAIN NUMBERS (S-1), both ways: which sheets give 50 to 55, which line is named, and which
-- sheets give 0. `rows` are the sheet's fields, line by line (`Cells` of `PlainText`). Every limit is the paper's own
-- number: 1 to 16 zones, tenths of a MW, hundred-thousandths, 64 lines, 4 bytes for each number. Assumes nothing.
use Rattle.std.specs.Prelude.{◌≡◌, ◌↔◌, ◌⊎◌, Bool, ◌||◌, List, [], ◌∷◌, eqb, ltb, get_or, ℤ, neg_ℤ, ◌≤ℤ◌}
use Rattle.std.proofs.Math.Path.{refl, ap, subst}
use Rattle.std.proofs.Common.{sym, ◌∙◌, inl, inr, arith, lt→ltb, T_not}
use Rattle.std.proofs.Math.Bool.{true, false, not}
use Rattle.std.proofs.Math.Option.{Option, none}
use Prim.Native.Nat.{ℕ, zero, suc, ◌+◌, ◌*◌, ◌≤◌, ◌<◌}
use Rattle.std.proofs.Math.Decide.{dec_lt}
use borrow.Author.Tests.{not-false, eqb-true, eq-eqb}
use Rattle.std.proofs.Math.Dec.{T, ltb→lt, nltb→le, not_T}
use Rattle.std.proofs.Math.ListN.{length}
use Rattle.std.proofs.Math.IntN.{pos}
use Rattle.base_integers.specs.Steps.Difference.{at, ⊝◌, le-by, le-fact}
use Rattle.base_integers.specs.Meaning.Ranges.{range, minus, outside, Within}
use Rattle.base_integers.specs.Steps.Ranges.{within, inside, nat-within, nat-inside, is_false, not_is, nor-left, nor-right}
use Rattle.base_limits.specs.Meaning.Limits as limits
use Rattle.base_causes.specs.declared.Outcome.{Outcome}
use Rattle.base_causes.specs.Meaning.Causes.{Cause, Pass, verdict, refusal, answer}
use Rattle.base_causes.proofs.Promised.CauseLaws.{empty, First, no_place, any_none, all_pass, Comes, past, none_left, row-by-number, row-answers, zero-none, cause_numbered, lacks, before}
use Rattle.sheet_numbers.specs.Meaning.Numeral.{digits, starts, negative, unsigned, whole, is_number, value, finer}
use Rattle.sheet_numbers.specs.Meaning.Numeral as numeral
use Rattle.sheet_numbers.proofs.Promised.PlainNumbers.{Number, number-bytes, value-times, times-value}
use Rattle.sheet_lines.specs.Meaning.Sheet.{fields, decimal_count, limit, entry, field_of, entry_of, malformed, too_fine, out_of_range, line_of, line_count, branch_part, sheet_causes, sheet_refusal, sheet_outcome}
use Rattle.sheet_lines.specs.Promised.PlainText.{LineText, Cells}
use Rattle.sheet_lines.proofs.Promised.PlainText.{fields-bytes, cells_of, cells_are, empty-sheet}
use Rattle.sheet_lines.specs.Promised.PlainCauses.{Formed, Whole, InRange, Each, FirstNot, Before51, Before52, Before53, Before54, Before55, Answers}

-- A PTDF CHANGES SIGN, and its range is the same on both sides of zero
turned : (n : ℕ) (x : ℤ) → Within (range (minus n) (pos n)) (neg_ℤ x) → (neg_ℤ (pos n) ≤ℤ x) × (x ≤ℤ pos n)
turned n x w =
    let a = le-fact (⊝◌ (at (pos n))) (⊝◌ (at x)) w.least-le in
    let b = le-fact (⊝◌ (at x)) (at (pos n)) w.le-greatest in
    (le-by (⊝◌ (at (pos n))) (at x) (omega (arith, b)), le-by (at x) (at (pos n)) (omega (arith, a)))

turned-back : (n : ℕ) (x : ℤ) → (neg_ℤ (pos n) ≤ℤ x) × (x ≤ℤ pos n) → Within (range (minus n) (pos n)) (neg_ℤ x)
turned-back n x w =
    let a = le-fact (⊝◌ (at (pos n))) (at x) w.0 in
    let b = le-fact (at x) (at (pos n)) w.1 in
    record { least-le = le-by (⊝◌ (at (pos n))) (⊝◌ (at x)) (omega (arith, b)); le-greatest = le-by (⊝◌ (at x)) (at (pos n)) (omega (arith, a)) }

-- ONE LINE. Its form
module _ (zones : ℕ) (line : List ℕ) where
  form-to : T (not (malformed zones line)) → Formed zones (fields line)
  unfolding malformed field_of
  form-to t =
      let e : length (fields line) ≡ zones + 1 = eqb-true (length (fields line)) (zones + 1) (not-false _ (not_is _ (nor-left (not (eqb (length (fields line)) (zones + 1))) _ t))) in
      record {
        count = omega (arith, e);
        numbers = λ j h. (number-bytes (get_or (fields line) j [])).0
            (not-false _ (not_is _ (no_place (zones + 1) (λ j. not (is_number (field_of line j))) (nor-right (not (eqb (length (fields line)) (zones + 1))) _ t) j (omega arith))));
      }

  form-from : Formed zones (fields line) → T (not (malformed zones line))
  unfolding malformed field_of
  form-from f =
      let e : length (fields line) ≡ zones + 1 = omega (arith, f.count) in
      is_false (λ i. not (eq-eqb (length (fields line)) (zones + 1) e i) || any_none (zones + 1) (λ j. not (is_number (field_of line j))) (λ j h. double ((number-bytes (get_or (fields line) j [])).1 (f.numbers j (omega arith)))) i)
    where
      double : {b : Bool} → b ≡ true → T (not (not b))
      double e = subst (λ (x : Bool). T (not (not x))) (sym e) tt

  module _ (f : Formed zones (fields line)) where
    number : (j : ℕ) → j < 1 + zones → is_number (get_or (fields line) j []) ≡ true
    number j h = (number-bytes (get_or (fields line) j [])).1 (f.numbers j h)

    -- its decimals
    whole_to : T (not (too_fine zones line)) → Whole zones (fields line)
    unfolding too_fine field_of
    whole_to t =
        let fine : (j : ℕ) → j < 1 + zones → finer (decimal_count j) (get_or (fields line) j []) ≡ false = λ j h. not_is _ (no_place (zones + 1) (λ j. finer (decimal_count j) (field_of line j)) t j (omega arith)) in
        record {
          margin-whole = (value 1 (get_or (fields line) 0 []), value-times 1 (get_or (fields line) 0 []) (number 0 (omega arith)) (fine 0 (omega arith)));
          ptdf-whole = λ z h. (value 5 (get_or (fields line) (suc z) []), value-times 5 (get_or (fields line) (suc z) []) (number (suc z) (omega arith)) (fine (suc z) (omega arith)));
        }

    whole_from : Whole zones (fields line) → T (not (too_fine zones line))
    unfolding too_fine field_of
    whole_from w = is_false (any_none (zones + 1) (λ j. finer (decimal_count j) (field_of line j)) each)
      where
        each : (j : ℕ) → j < zones + 1 → T (not (finer (decimal_count j) (field_of line j)))
        each zero h = is_false (times-value 1 (get_or (fields line) 0 []) w.margin-whole.0 w.margin-whole.1).0
        each (suc z) h = let x = w.ptdf-whole z (omega arith) in is_false (times-value 5 (get_or (fields line) (suc z) []) x.0 x.1).0

  -- its range
  range-to : T (not (out_of_range zones line)) → InRange zones (fields line)
  unfolding out_of_range entry_of entry field_of
  range-to t =
      let in-limit : (j : ℕ) → j < 1 + zones → T (not (outside (limit j) (entry_of line j))) = λ j h. no_place (zones + 1) (λ j. outside (limit j) (entry_of line j)) t j (omega arith) in
      record {
        margin-in = λ x s.
            let w = within limits.margin (value 1 (get_or (fields line) 0 [])) (in-limit 0 (omega arith)) in
            subst (λ (y : ℤ). (neg_ℤ (pos 500000) ≤ℤ y) × (y ≤ℤ pos 500000)) (times-value 1 (get_or (fields line) 0 []) x s).1 (w.least-le, w.le-greatest);
        ptdf-in = λ z h x s.
            let v = value 5 (get_or (fields line) (suc z) []) in
            subst (λ (y : ℤ). (neg_ℤ (pos 200000) ≤ℤ y) × (y ≤ℤ pos 200000)) (times-value 5 (get_or (fields line) (suc z) []) x s).1 (turned 200000 v (within limits.ptdf (neg_ℤ v) (in-limit (suc z) (omega arith))));
      }

  range-from : Whole zones (fields line) → InRange zones (fields line) → T (not (out_of_range zones line))
  unfolding out_of_range entry_of entry field_of
  range-from w r = is_false (any_none (zones + 1) (λ j. outside (limit j) (entry_of line j)) each)
    where
      each : (j : ℕ) → j < zones + 1 → T (not (outside (limit j) (entry_of line j)))
      each zero h =
          let x = w.margin-whole in
          let b = r.margin-in x.0 x.1 in
          inside limits.margin (value 1 (get_or (fields line) 0 [])) (subst (Within limits.margin) (sym (times-value 1 (get_or (fields line) 0 []) x.0 x.1).1) (record { least-le = b.0; le-greatest = b.1 }))
      each (suc z) h =
          let x = w.ptdf-whole z (omega arith) in
          let b = r.ptdf-in z (omega arith) x.0 x.1 in
          inside limits.ptdf (neg_ℤ (value 5 (get_or (fields line) (suc z) []))) (subst (λ (y : ℤ). Within limits.ptdf (neg_ℤ y)) (sym (times-value 5 (get_or (fields line) (suc z) []) x.0 x.1).1) (turned-back 200000 x.0 b))

-- A TEST OF EACH LINE that passes where P holds: it passes everywhere, or fails first at line k
record Tests (n : ℕ) (f : ℕ → Bool) (P : List (List ℕ) → Type 0) (rows : List (List (List ℕ))) : Type 0 where
  everywhere : ((k : ℕ) → k < n → T (not (f k))) ↔ Each P rows
  at_first : (k : ℕ) → First n f k ↔ FirstNot P rows k

tests : (n : ℕ) (f : ℕ → Bool) (P : List (List ℕ) → Type 0) (rows : List (List (List ℕ))) → length rows ≡ n → ((k : ℕ) → k < length rows → T (not (f k)) ↔ P (get_or rows k [])) → Tests n f P rows
tests n f P rows many so = record { everywhere = (λ p k h. (so k h).0 (p k (omega (arith, many))), λ p k h. (so k (omega (arith, many))).1 (p k (omega (arith, many)))); at_first = λ k. (to k, from k) }
  where
    to : (k : ℕ) → First n f k → FirstNot P rows k
    to k w = record {
      is-line = omega (arith, many, w.place_in);
      not_so = λ p. T_not (f k) ((so k (omega (arith, many, w.place_in))).1 p) w.holds;
      so-before = λ i l. (so i (omega (arith, many, w.place_in))).0 (w.none_before i l);
    }

    from : (k : ℕ) → FirstNot P rows k → First n f k
    from k w = record { place_in = omega (arith, many, w.is-line); holds = fails (f k) refl; none_before = λ i l. (so i (omega (arith, w.is-line))).1 (w.so-before i l) }
      where
        fails : (b : Bool) → f k ≡ b → T b
        fails true e = tt
        fails false e = absurd (w.not_so ((so k w.is-line).0 (is_false e)))

-- a test asked once
once-first : {b : Bool} → T b → First 1 (λ k. b) 0
once-first t = record { place_in = omega arith; holds = t; none_before = λ i l. absurd (none-less i l) }
  where
    none-less : (i : ℕ) → i < 0 → ⊥
    none-less i l = omega arith

le-nltb : (m n : ℕ) → n ≤ m → T (not (ltb m n))
le-nltb m n h = not_T (ltb m n) (λ t. never (ltb→lt m n t))
  where
    never : m < n → ⊥
    never l = omega arith

part-is : (zones n : ℕ) → branch_part zones n ≡ n * (4 + 4 * zones)
part-is zones n = omega arith

outside-zones : (zones : ℕ) → (zones ≡ 0) ⊎ (16 < zones) → T (outside (range (pos 1) (pos 16)) (pos zones))
outside-zones zones h = by (outside (range (pos 1) (pos 16)) (pos zones)) refl h
  where
    never : (1 ≤ zones) × (zones ≤ 16) → (zones ≡ 0) ⊎ (16 < zones) → ⊥
    never w (inl e) = omega (arith, w.0)
    never w (inr l) = omega (arith, w.1)

    by : (b : Bool) → outside (range (pos 1) (pos 16)) (pos zones) ≡ b → (zones ≡ 0) ⊎ (16 < zones) → T b
    by true e h = tt
    by false e h = absurd (never (nat-within 1 16 zones (is_false e)) h)

zones-outside : (zones : ℕ) → T (outside (range (pos 1) (pos 16)) (pos zones)) → (zones ≡ 0) ⊎ (16 < zones)
zones-outside zones t = elim (dec_lt 16 zones) [
  | yes l ↦ inr l
  | no g ↦ elim (dec_lt 0 zones) [ yes l ↦ absurd (T_not (outside (range (pos 1) (pos 16)) (pos zones)) (nat-inside 1 16 zones (omega arith) (omega arith)) t) | no j ↦ inl (omega arith) ]
]

-- THE TABLE of a sheet with these rows
module _ (zones : ℕ) (sheet : List ℕ) (room : ℕ) (rows : List (List (List ℕ))) (c : Cells sheet rows) where
  many : length rows ≡ line_count sheet
  many = (cells_are sheet rows c).0

  cells : (k : ℕ) → k < length rows → get_or rows k [] ≡ fields (line_of sheet k)
  cells = (cells_are sheet rows c).1

  size_is : branch_part zones (line_count sheet) ≡ length rows * (4 + 4 * zones)
  size_is = ap (branch_part zones) (sym many) ∙ part-is zones (length rows)

  -- the tests of its lines; the second counts where every line has good form, the third where nothing is lost
  forms : Tests (line_count sheet) (λ i. malformed zones (line_of sheet i)) (Formed zones) rows
  forms = tests _ _ (Formed zones) rows many (λ k h. (
    λ t. subst (Formed zones) (sym (cells k h)) (form-to zones (line_of sheet k) t),
    λ f. form-from zones (line_of sheet k) (subst (Formed zones) (cells k h) f),
  ))

  wholes : Each (Formed zones) rows → Tests (line_count sheet) (λ i. too_fine zones (line_of sheet i)) (Whole zones) rows
  wholes f = tests _ _ (Whole zones) rows many (λ k h. let g = subst (Formed zones) (cells k h) (f k h) in (
    λ t. subst (Whole zones) (sym (cells k h)) (whole_to zones (line_of sheet k) g t),
    λ w. whole_from zones (line_of sheet k) g (subst (Whole zones) (cells k h) w),
  ))

  ranges : Each (Whole zones) rows → Tests (line_count sheet) (λ i. out_of_range zones (line_of sheet i)) (InRange zones) rows
  ranges w = tests _ _ (InRange zones) rows many (λ k h. (
    λ t. subst (InRange zones) (sym (cells k h)) (range-to zones (line_of sheet k) t),
    λ r. range-from zones (line_of sheet k) (subst (Whole zones) (cells k h) (w k h)) (subst (InRange zones) (cells k h) r),
  ))

  abbrev table : List Cause
  table = sheet_causes zones sheet room

  abbrev row : ℕ → Cause
  row i = get_or table i empty

  -- past the rows before a cause, where the facts before it hold
  past-50 : {rs : List Cause} {x : Option Outcome} → Before51 zones → Comes rs x → Comes (row 0 ∷ rs) x
  unfolding sheet_causes
  past-50 h q = past (record { pass = λ k l. nat-inside 1 16 zones h.0 h.1 }) q

  past-51 : {rs : List Cause} {x : Option Outcome} → Before52 zones rows → Comes rs x → Comes (row 0 ∷ row 1 ∷ rs) x
  unfolding sheet_causes
  past-51 h q = past-50 h.0 (past (record { pass = forms.everywhere.1 h.1 }) q)

  past-52 : {rs : List Cause} {x : Option Outcome} → Before53 zones rows → Comes rs x → Comes (row 0 ∷ row 1 ∷ row 2 ∷ rs) x
  unfolding sheet_causes
  past-52 h q = past-51 h.0 (past (record { pass = (wholes h.0.1).everywhere.1 h.1 }) q)

  past-53 : {rs : List Cause} {x : Option Outcome} → Before54 zones rows → Comes rs x → Comes (row 0 ∷ row 1 ∷ row 2 ∷ row 3 ∷ rs) x
  unfolding sheet_causes
  past-53 h q = past-52 h.0 (past (record { pass = (ranges h.0.1).everywhere.1 h.1 }) q)

  past-54 : {rs : List Cause} {x : Option Outcome} → Before55 zones rows → Comes rs x → Comes (row 0 ∷ row 1 ∷ row 2 ∷ row 3 ∷ row 4 ∷ rs) x
  unfolding sheet_causes
  past-54 h q = past-53 h.0 (past (record { pass = λ k l. le-nltb 64 (line_count sheet) (omega (arith, many, h.1)) }) q)

  past-55 : Before55 zones rows → length rows * (4 + 4 * zones) ≤ room → Comes table none
  unfolding sheet_causes
  past-55 h l = past-54 h (past (record { pass = λ k m. le-nltb room (branch_part zones (line_count sheet)) (omega (arith, size_is, l)) }) none_left)

  -- the facts before a cause, where the rows before it pass
  before-51 : Pass (row 0) → Before51 zones
  unfolding sheet_causes
  before-51 p = nat-within 1 16 zones (p.pass 0 (omega arith))

  before-52 : Pass (row 0) → Pass (row 1) → Before52 zones rows
  unfolding sheet_causes
  before-52 p q = (before-51 p, forms.everywhere.0 q.pass)

  before-53 : Pass (row 0) → Pass (row 1) → Pass (row 2) → Before53 zones rows
  unfolding sheet_causes
  before-53 p q r = let h = before-52 p q in (h, (wholes h.1).everywhere.0 r.pass)

  before-54 : Pass (row 0) → Pass (row 1) → Pass (row 2) → Pass (row 3) → Before54 zones rows
  unfolding sheet_causes
  before-54 p q r s = let h = before-53 p q r in (h, (ranges h.1).everywhere.0 s.pass)

  before-55 : Pass (row 0) → Pass (row 1) → Pass (row 2) → Pass (row 3) → Pass (row 4) → Before55 zones rows
  unfolding sheet_causes
  before-55 p q r s t = (before-54 p q r s, let l = nltb→le 64 (line_count sheet) (t.pass 0 (omega arith)) in omega (arith, l, many))

  abbrev o : Outcome
  o = sheet_outcome zones sheet room

  -- a row asked of each line that fails first at line k
  named : (P : List (List ℕ) → Type 0) {n : ℕ} {f : ℕ → Bool} → Tests n f P rows → (k i : ℕ) → i ≡ k → First n f k → FirstNot P rows i
  named P t k i e w = subst (FirstNot P rows) (sym e) ((t.at_first k).0 w)

  -- THE THEOREM
  given-50 : (zones ≡ 0) ⊎ (16 < zones) → o ≡ verdict 50 0
  unfolding sheet_outcome sheet_refusal sheet_causes lacks before cause_numbered refusal
  given-50 h = row-answers 50 table tt refl 0 (once-first (outside-zones zones h))

  found-50 : o.number ≡ 50 → (zones ≡ 0) ⊎ (16 < zones)
  unfolding sheet_outcome sheet_refusal sheet_causes lacks before cause_numbered
  found-50 e = zones-outside zones (row-by-number 50 table (omega arith) tt tt e).first-place.holds

  given-51 : (k : ℕ) → Before51 zones → FirstNot (Formed zones) rows k → o ≡ verdict 51 k
  unfolding sheet_outcome sheet_refusal sheet_causes lacks before cause_numbered
  given-51 k h w = row-answers 51 table tt (past-50 h none_left).is k ((forms.at_first k).1 w)

  found-51 : o.number ≡ 51 → Before51 zones × FirstNot (Formed zones) rows o.index
  unfolding sheet_outcome sheet_refusal sheet_causes lacks before cause_numbered
  found-51 e =
      let r = row-by-number 51 table (omega arith) tt tt e in
      let g = all_pass (before 51 table) r.earlier in
      (before-51 (g 0), named (Formed zones) forms r.place o.index (ap (λ (x : Outcome). x.index) r.is) r.first-place)

  given-52 : (k : ℕ) → Before52 zones rows → FirstNot (Whole zones) rows k → o ≡ verdict 52 k
  unfolding sheet_outcome sheet_refusal sheet_causes lacks before cause_numbered
  given-52 k h w = row-answers 52 table tt (past-51 h none_left).is k (((wholes h.1).at_first k).1 w)

  found-52 : o.number ≡ 52 → Before52 zones rows × FirstNot (Whole zones) rows o.index
  unfolding sheet_outcome sheet_refusal sheet_causes lacks before cause_numbered
  found-52 e =
      let r = row-by-number 52 table (omega arith) tt tt e in
      let g = all_pass (before 52 table) r.earlier in
      let h = before-52 (g 0) (g 1) in
      (h, named (Whole zones) (wholes h.1) r.place o.index (ap (λ (x : Outcome). x.index) r.is) r.first-place)

  given-53 : (k : ℕ) → Before53 zones rows → FirstNot (InRange zones) rows k → o ≡ verdict 53 k
  unfolding sheet_outcome sheet_refusal sheet_causes lacks before cause_numbered
  given-53 k h w = row-answers 53 table tt (past-52 h none_left).is k (((ranges h.1).at_first k).1 w)

  found-53 : o.number ≡ 53 → Before53 zones rows × FirstNot (InRange zones) rows o.index
  unfolding sheet_outcome sheet_refusal sheet_causes lacks before cause_numbered
  found-53 e =
      let r = row-by-number 53 table (omega arith) tt tt e in
      let g = all_pass (before 53 table) r.earlier in
      let h = before-53 (g 0) (g 1) (g 2) in
      (h, named (InRange zones) (ranges h.1) r.place o.index (ap (λ (x : Outcome). x.index) r.is) r.first-place)

  given-54 : Before54 zones rows → 64 < length rows → o ≡ verdict 54 0
  unfolding sheet_outcome sheet_refusal sheet_causes lacks before cause_numbered
  given-54 h l = row-answers 54 table tt (past-53 h none_left).is 0 (once-first (lt→ltb 64 (line_count sheet) (omega (arith, l, many))))

  found-54 : o.number ≡ 54 → Before54 zones rows × (64 < length rows)
  unfolding sheet_outcome sheet_refusal sheet_causes lacks before cause_numbered
  found-54 e =
      let r = row-by-number 54 table (omega arith) tt tt e in
      let g = all_pass (before 54 table) r.earlier in
      let l = ltb→lt 64 (line_count sheet) r.first-place.holds in
      (before-54 (g 0) (g 1) (g 2) (g 3), omega (arith, l, many))

  given-55 : Before55 zones rows → room < length rows * (4 + 4 * zones) → o ≡ verdict 55 0
  unfolding sheet_outcome sheet_refusal sheet_causes lacks before cause_numbered
  given-55 h l = row-answers 55 table tt (past-54 h none_left).is 0 (once-first (lt→ltb room (branch_part zones (line_count sheet)) (omega (arith, l, size_is))))

  found-55 : o.number ≡ 55 → Before55 zones rows × (room < length rows * (4 + 4 * zones))
  unfolding sheet_outcome sheet_refusal sheet_causes lacks before cause_numbered
  found-55 e =
      let r = row-by-number 55 table (omega arith) tt tt e in
      let g = all_pass (before 55 table) r.earlier in
      let l = ltb→lt room (branch_part zones (line_count sheet)) r.first-place.holds in
      (before-55 (g 0) (g 1) (g 2) (g 3) (g 4), omega (arith, l, size_is))

  given-0 : Before55 zones rows → length rows * (4 + 4 * zones) ≤ room → o ≡ verdict 0 0
  unfolding sheet_outcome sheet_refusal
  given-0 h l = ap answer (past-55 h l).is

  found-0 : o.number ≡ 0 → Before55 zones rows × (length rows * (4 + 4 * zones) ≤ room)
  unfolding sheet_outcome sheet_refusal sheet_causes lacks
  found-0 e =
      let g = all_pass table (zero-none table tt e) in
      let l = nltb→le room (branch_part zones (line_count sheet)) ((g 5).pass 0 (omega arith)) in
      (before-55 (g 0) (g 1) (g 2) (g 3) (g 4), omega (arith, l, size_is))

  pub answers : Answers zones rows room (sheet_outcome zones sheet room)
  answers = record {
    is-50 = given-50;
    only-50 = found-50;
    is-51 = given-51;
    only-51 = found-51;
    is-52 = given-52;
    only-52 = found-52;
    is-53 = given-53;
    only-53 = found-53;
    is-54 = given-54;
    only-54 = found-54;
    is-55 = given-55;
    only-55 = found-55;
    is-0 = given-0;
    only-0 = found-0;
  }

-- AN EMPTY LINE does not have good form, so it is 51
pub empty-line : (zones : ℕ) (cells : List (List ℕ)) → LineText [] cells → Formed zones cells → ⊥
unfolding fields is_number digits whole unsigned negative starts numeral.before
empty-line zones cells t f = clash (sym ((number-bytes []).1 (subst (λ (c : List (List ℕ)). Number (get_or c 0 [])) (sym ((fields-bytes [] cells).1 t)) (f.numbers 0 (omega arith)))))
  where
    clash : true ≡ false → ⊥
    clash q = subst T q tt

-- AN EMPTY SHEET is answered 0, whatever the room
pub empty-sheet-0 : (zones room : ℕ) → 1 ≤ zones → zones ≤ 16 → sheet_outcome zones [] room ≡ verdict 0 0
empty-sheet-0 zones room h l =
    let c = cells_of [] in
    let none-there : length c.0 ≡ 0 = empty-sheet c.0 c.1 in
    let each : (P : List (List ℕ) → Type 0) → Each P c.0 = λ P k g. absurd (no_line k g none-there) in
    (answers zones [] room c.0 c.1).is-0 (((((h, l), each (Formed zones)), each (Whole zones)), each (InRange zones)), omega (arith, none-there)) (subst (λ (n : ℕ). n * (4 + 4 * zones) ≤ room) (sym none-there) (omega arith))
  where
    no_line : (k : ℕ) {n : ℕ} → k < n → n ≡ 0 → ⊥
    no_line k g e = omega arith
