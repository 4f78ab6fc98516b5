-- The state closed where no more rows are read is document 01's answer, and before each row it has room for that
-- row. After i rows without a refusal it has taken i rows and their sum; at the first row out of range, k, it stops
-- with 8 and k. Assumes nothing.
use Rattle.std.specs.Prelude.{◌≡◌, not, cond, ◌&&◌, T, eqb, ltb, length, get_or, pos, Result, Err}
use Rattle.std.proofs.Math.Path.{refl, sym, ap}
use Rattle.std.proofs.Common.{subst, ◌∙◌, arith, nltb→le}
use Rattle.std.proofs.Math.Bool.{Bool, true, false}
use mathlib.Core.List.{List, [], ◌∷◌, map}
use Rattle.std.proofs.Math.Option.{Option, none, some}
use Prim.Native.Nat.{ℕ, zero, suc, ◌*◌, ◌≤◌, ◌<◌}
use Rattle.std.proofs.Math.Numerals.{add-one}
use Rattle.std.proofs.Math.Decide.{dec_lt}
use Rattle.std.proofs.lemmas.List.{length-map}
use Rattle.std.proofs.Math.ListN.{get_or-map}
use Rattle.std.proofs.Math.IntN.{ℤ}
use Rattle.base_integers.specs.Meaning.Ranges.{outside}
use Rattle.base_integers.specs.Steps.Ranges.{nat-within}
use Rattle.base_integers.specs.Meaning.Sums.{sum_to}
use Rattle.base_integers.specs.Steps.Sums.{sum-ext}
use Rattle.base_integers.specs.Steps.Size.{Near, near-sum}
use Rattle.base_limits.specs.Meaning.Limits as limits
use Rattle.rules.specs.Meaning.Layout.{zone_counts, order_counts}
use Rattle.rules.specs.Meaning.Hour.{surplus_of}
use Rattle.base_causes.specs.declared.Outcome.{Outcome}
use Rattle.base_causes.specs.Meaning.Causes.{verdict, Cause, first_below, refusal, field, each}
use Rattle.base_causes.proofs.Promised.CauseLaws.{field-fails, field-passes, row-found, row-clear, first-is, not-below}
use Rattle.rules.specs.Meaning.Verdict.{bad_row}
use Rattle.rules.specs.Meaning.Book.{BookRow, price_at, bad_book_row, book_causes, book_refusal, row_surplus, book_surplus, book_answer_by, book_answer}
use Rattle.book_surplus.specs.declared.BookState.{BookState}
use Rattle.book_surplus.specs.declared.OrderRow.{OrderRow}
use Rattle.book_surplus.specs.Meaning.Lent.{book_row, given, lent_answer}
use Rattle.book_surplus.specs.Meaning.BookState.{new_state, first_price_outside, priced, open_by, open_of, counted, bad_in, row_order, is_open, asks_row, add_by, add_of, close_of, Ready}
use Rattle.book_surplus.proofs.Steps.BookState.{next_of, no_order, state_at}
use Rattle.base_integers.specs.Steps.Ranges.{is_false, not_is}
use Rattle.book_surplus.proofs.Steps.StateLaws.{opened-by, next-by, asked, counted-by, order-in, counted-near}

-- after i rows with the surpluses f, by the first row out of range
abbrev reached : BookState → ℕ → (ℕ → ℤ) → Option ℕ → BookState
reached o i f (some k) = record { refusal = Err (verdict 8 k); taken = k; sum = record { 0 = sum_to k f } }
reached o i f none = record { refusal = o.refusal; taken = i; sum = record { 0 = sum_to i f } }

pub no-cause : refusal [] ≡ none
unfolding refusal
no-cause = refl

ready-first : (r : Result (Unit {0}) Outcome) → Ready (new_state r)
ready-first r = record { taken_in = omega arith; sum_near = omega arith }

module _ (orders : List OrderRow) (prices : List ℤ) where
  abbrev at : ℕ → OrderRow
  at i = get_or orders i no_order

  abbrev bad : ℕ → Bool
  bad i = bad_in prices (at i)

  abbrev term : ℕ → ℤ
  term i = counted (row_order (at i)) prices

  abbrev price_outside : ℕ → Bool
  price_outside z = outside limits.zone_price (price_at prices z)

  -- REFUSED BY 4 OR 8: no row changes it
  stays : (k i : ℕ) → k ≤ i → is_open (state_at orders prices k) ≡ false → state_at orders prices i ≡ state_at orders prices k
  unfolding state_at
  stays k zero h s = let e : zero ≡ k = omega (arith, h) in ap (state_at orders prices) e
  stays k (suc i) h s =
      elim (dec_lt i k) [
        | yes l ↦ let e : suc i ≡ k = omega (arith, h, l) in ap (state_at orders prices) e
        | no g ↦ ap (λ (a : BookState). next_of a (at i) prices) (stays k i (omega (arith, g)) s) ∙ next-by (state_at orders prices k) (at i) prices s
      ]

  -- refused by 4 at the start
  never-read : (k : ℕ) → open_of (length orders) prices ≡ new_state (Err (verdict 4 k)) → (i : ℕ) → state_at orders prices i ≡ new_state (Err (verdict 4 k))
  unfolding state_at
  never-read k e i = stays 0 i (omega arith) (ap is_open e) ∙ e

  -- ROW BY ROW
  module _ (z : Option ℕ) where
    abbrev opened : BookState
    opened = open_by false false z

    starts : (y : Option ℕ) → open_by false false y ≡ reached (open_by false false y) 0 term none
    unfolding sum_to
    starts (some k) = refl
    starts none = refl

    still_open : (y : Option ℕ) (i : ℕ) → is_open (reached (open_by false false y) i term none) ≡ true
    still_open (some k) i = refl
    still_open none i = refl

    by_row : (i : ℕ) (b : Bool) → add_by (reached opened i term none) b (term i) ≡ reached opened (suc i) term (cond b (some i) none)
    unfolding sum_to
    by_row i true = refl
    by_row i false = λ j. record { refusal = opened.refusal; taken = add-one i j; sum = record { 0 = sum_to (suc i) term } }

    next : (i : ℕ) (x : Option ℕ) → next_of (reached opened i term x) (at i) prices ≡ reached opened (suc i) term (elim x [ some k ↦ some k | none ↦ cond (bad i) (some i) none ])
    next i (some k) = refl
    next i none = next-by (reached opened i term none) (at i) prices (still_open z i) ∙ by_row i (bad i)

    taken : open_of (length orders) prices ≡ opened → (i : ℕ) → state_at orders prices i ≡ reached opened i term (first_below i bad)
    unfolding state_at first_below
    taken e zero = e ∙ starts z
    taken e (suc i) = ap (λ (a : BookState). next_of a (at i) prices) (taken e i) ∙ next i (first_below i bad)

  -- what the answer depends on, over the lent rows themselves
  abbrev rows : List BookRow
  rows = map book_row orders

  abbrev tests : List Cause
  tests = field 4 5 (outside zone_counts (pos (length prices))) ∷ field 4 8 (outside order_counts (pos (length orders))) ∷ each 8 (length orders) bad ∷ each 25 (length prices) price_outside ∷ []

  tests-are : book_causes rows prices ≡ tests
  unfolding book_causes bad_book_row
  tests-are = λ j. field 4 5 (outside zone_counts (pos (length prices)))
      ∷ field 4 8 (outside order_counts (pos (length-map orders book_row j)))
      ∷ each 8 (length-map orders book_row j) (λ i. bad_of (get_or-map book_row orders i no_order j))
      ∷ each 25 (length prices) price_outside ∷ []
    where
      bad_of : BookRow → Bool
      bad_of r = bad_row (length prices) r.zone r.side r.quantity r.price

  sum_is : book_surplus rows prices ≡ sum_to (length orders) (λ i. surplus_of (eqb (at i).side 0) (at i).quantity (at i).price (price_at prices (at i).zone))
  unfolding book_surplus row_surplus
  sum_is = λ j. sum_to (length-map orders book_row j) (λ i. surplus_by (get_or-map book_row orders i no_order j))
    where
      surplus_by : BookRow → ℤ
      surplus_by r = surplus_of (eqb r.side 0) r.quantity r.price (price_at prices r.zone)

  answer-by : {x : Option Outcome} → refusal tests ≡ x → given (book_answer_by (book_surplus rows prices) x) ≡ lent_answer orders prices
  unfolding lent_answer book_answer book_refusal
  answer-by e = sym (ap (λ (x : Option Outcome). given (book_answer_by (book_surplus rows prices) x)) (ap refusal tests-are ∙ e))

  -- every row and every price in range: each row's surplus counts
  term_is : first_below (length orders) bad ≡ none → first_price_outside prices ≡ none → (i : ℕ) → i < length orders
      → term i ≡ surplus_of (eqb (at i).side 0) (at i).quantity (at i).price (price_at prices (at i).zone)
  unfolding surplus_of first_price_outside
  term_is er ez i h =
      sym (counted-by (row_order (at i)) prices (not_is _ (not-below (length prices) price_outside ez (at i).zone (order-in prices (at i) (not-below (length orders) bad er i h)).zone-in)))

  closed-by : {a : BookState} {x : Option Outcome} → state_at orders prices (length orders) ≡ a → refusal tests ≡ x → close_of a ≡ given (book_answer_by (book_surplus rows prices) x)
      → close_of (state_at orders prices (length orders)) ≡ lent_answer orders prices
  closed-by ea ex e = ap close_of ea ∙ e ∙ answer-by ex

  -- by the tests of the counts, the first price out of range and the first row out of range
  by_tests : (a b : Bool) → outside zone_counts (pos (length prices)) ≡ a → outside order_counts (pos (length orders)) ≡ b → (z : Option ℕ) → first_price_outside prices ≡ z
      → (k : Option ℕ) → first_below (length orders) bad ≡ k → close_of (state_at orders prices (length orders)) ≡ lent_answer orders prices
  unfolding first_price_outside
  by_tests true b ea eb z ez k ek = closed-by (never-read 5 (sym (opened-by (length orders) prices ea refl refl)) (length orders)) (field-fails 4 5 _ ea) refl
  by_tests false true ea eb z ez k ek =
      closed-by (never-read 8 (sym (opened-by (length orders) prices ea eb refl)) (length orders)) (field-passes 4 5 _ ea ∙ field-fails 4 8 _ eb) refl
  by_tests false false ea eb z ez (some k) ek =
      closed-by (taken z (sym (opened-by (length orders) prices ea eb ez)) (length orders) ∙ ap (reached (open_by false false z) (length orders) term) ek)
      (field-passes 4 5 _ ea ∙ field-passes 4 8 _ eb ∙ row-found (each 8 (length orders) bad) _ k ek) refl
  by_tests false false ea eb (some z) ez none ek =
      closed-by (taken (some z) (sym (opened-by (length orders) prices ea eb ez)) (length orders) ∙ ap (reached (new_state (priced (some z))) (length orders) term) ek)
      (field-passes 4 5 _ ea ∙ field-passes 4 8 _ eb ∙ row-clear (each 8 (length orders) bad) _ ek ∙ row-found (each 25 (length prices) price_outside) _ z ez) refl
  by_tests false false ea eb none ez none ek =
      closed-by (taken none (sym (opened-by (length orders) prices ea eb ez)) (length orders) ∙ ap (reached (new_state (priced none)) (length orders) term) ek)
      (field-passes 4 5 _ ea ∙ field-passes 4 8 _ eb ∙ row-clear (each 8 (length orders) bad) _ ek ∙ row-clear (each 25 (length prices) price_outside) [] ez ∙ no-cause)
      (ap (λ (x : ℤ). given (book_answer_by x none)) (sum-ext (length orders) _ _ (term_is ek ez) ∙ sym sum_is))

  -- closed after the last row: the answer
  after_last : close_of (state_at orders prices (length orders)) ≡ lent_answer orders prices
  after_last = by_tests (outside zone_counts (pos (length prices))) (outside order_counts (pos (length orders))) refl refl (first_price_outside prices) refl (first_below (length orders) bad) refl

  -- CLOSED WHERE NO MORE ROWS ARE READ: the same, since a refusal stays, or all were read
  last-is : (i : ℕ) → i ≤ length orders → (s : Bool) → is_open (state_at orders prices i) ≡ s → T (not (s && ltb i (length orders))) → state_at orders prices (length orders) ≡ state_at orders prices i
  last-is i h true s t = ap (state_at orders prices) (omega (arith, h, nltb→le i (length orders) t))
  last-is i h false s t = stays i (length orders) h s

  pub closing : (i : ℕ) → i ≤ length orders → asks_row (state_at orders prices i) i (length orders) ≡ false → close_of (state_at orders prices i) ≡ lent_answer orders prices
  closing i h e = ap close_of (sym (last-is i h (is_open (state_at orders prices i)) refl (is_false e))) ∙ after_last

  -- ROOM FOR EACH ROW
  sum_near : (i : ℕ) → ((j : ℕ) → j < i → T (not (bad j))) → Near (i * 4500000000000000) (sum_to i term)
  sum_near i ok = near-sum i 4500000000000000 term (λ j h. counted-near prices (at j) (ok j h))

  ready_at : (o : BookState) (i : ℕ) (k : Option ℕ) → first_below i bad ≡ k → i < 512 → Ready (reached o i term k)
  ready_at o i (some k) e h = let w = first-is i bad k e in record { taken_in = omega (arith, w.place_in); sum_near = sum_near k w.none_before }
  ready_at o i none e h = record { taken_in = h; sum_near = sum_near i (not-below i bad e) }

  ready-before : (a b : Bool) → outside zone_counts (pos (length prices)) ≡ a → outside order_counts (pos (length orders)) ≡ b → (i : ℕ) → i < length orders → Ready (state_at orders prices i)
  ready-before true b ea eb i h = subst Ready (sym (never-read 5 (sym (opened-by (length orders) prices ea refl refl)) i)) (ready-first (Err (verdict 4 5)))
  ready-before false true ea eb i h = subst Ready (sym (never-read 8 (sym (opened-by (length orders) prices ea eb refl)) i)) (ready-first (Err (verdict 4 8)))
  ready-before false false ea eb i h =
      subst Ready (sym (taken (first_price_outside prices) (sym (opened-by (length orders) prices ea eb refl)) i))
      (ready_at (open_by false false (first_price_outside prices)) i (first_below i bad) refl (omega (arith, h, (nat-within 0 512 (length orders) (is_false eb)).1)))

  pub ready : (i : ℕ) → asks_row (state_at orders prices i) i (length orders) ≡ true → Ready (state_at orders prices i)
  ready i e = ready-before (outside zone_counts (pos (length prices))) (outside order_counts (pos (length orders))) refl refl i (asked (state_at orders prices i) i (length orders) e).1

  -- EACH ROW THAT IS READ is added
  pub reading : (i : ℕ) → asks_row (state_at orders prices i) i (length orders) ≡ true → add_of (state_at orders prices i) (at i) prices ≡ state_at orders prices (suc i)
  unfolding state_at
  reading i e = sym (next-by (state_at orders prices i) (at i) prices (asked (state_at orders prices i) i (length orders) e).0)
